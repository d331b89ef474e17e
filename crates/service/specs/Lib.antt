-- What the program reads and prints.
pub mod Printed
pub mod Served
