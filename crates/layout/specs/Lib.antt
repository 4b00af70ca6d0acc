-- Layouts: fields of records in regions of a slice of bytes.
pub mod Tests
pub mod Table
pub mod Place
pub mod Memory
pub mod Writes
pub mod Zeros
