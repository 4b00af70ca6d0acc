-- What the functions decide, and what their walks and counts show at each way out.
pub mod Asks
pub mod Records
pub mod Tallies
pub mod Lines
pub mod Queues
pub mod Locks
pub mod All
