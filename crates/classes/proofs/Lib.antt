-- The rule of the class table, and how the rule of any table is proved.
pub mod Rule
pub mod Ruled
