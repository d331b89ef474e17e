-- Rules: Trials. The worked examples that are proved.
pub mod Trials
