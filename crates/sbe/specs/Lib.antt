-- What the functions of the static library report.
pub mod Report
