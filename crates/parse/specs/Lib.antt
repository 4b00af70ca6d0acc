-- The words of a line, its numbers, the bytes written, and the step that they are.
pub mod Kinds
pub mod Words
pub mod Numeral
pub mod Fields
pub mod Puts
pub mod Steps
pub mod Parsed
