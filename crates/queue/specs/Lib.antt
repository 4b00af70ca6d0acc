-- Queues of processes as lists of record numbers.
pub mod Ends
pub mod Held
pub mod List
pub mod Push
pub mod Pop
pub mod Field
pub mod Other
