-- Texts as lists of bytes: the vocabulary of all definitions above.
pub mod Choice
pub mod Text
pub mod Lists
pub mod Scan
pub mod Trim
