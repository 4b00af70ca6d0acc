-- What the parts of the program ensure.
pub mod Replay
