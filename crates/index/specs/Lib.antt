-- How the words that say what is in use are tested.
pub mod Bits
pub mod Words
pub mod All
