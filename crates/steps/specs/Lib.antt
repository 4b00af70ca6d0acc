-- What the program's functions ask and ensure.
pub mod Chunk
pub mod Taking
pub mod Some
pub mod All
