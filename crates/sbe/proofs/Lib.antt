-- Laws of reporting an answer.
pub mod Reporting
