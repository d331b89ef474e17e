-- The byte classes, what the table's numbers say, and a letter in the other case.
pub mod Class
pub mod Table
pub mod Letters
