-- How a fresh state is made, and that it holds a fresh machine.
pub mod Fresh
pub mod Code
pub mod Answers
pub mod Made
pub mod Holds
