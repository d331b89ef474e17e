-- Trials of the definitions, and why sources are equal exactly when sheets are.
pub mod Trials
pub mod Splitting
pub mod Numbers
pub mod Escapes
pub mod Rendering
pub mod Tokens
pub mod Lines
pub mod Rendered
pub mod PlainSheets
pub mod Unique
pub mod Sheets
pub mod Deciding
