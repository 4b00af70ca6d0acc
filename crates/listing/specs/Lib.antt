-- The listing of an input that comes in chunks.
pub mod Behind
pub mod Lines
pub mod Pieces
pub mod Held
pub mod Fed
pub mod Feed
pub mod Turn
pub mod Join
pub mod Feeding
pub mod Rest
pub mod Finish
pub mod Start
pub mod Written
