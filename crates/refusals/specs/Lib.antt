-- The figures of refusals and answers, and how an answer is reported.
pub mod Figures
pub mod Reported
