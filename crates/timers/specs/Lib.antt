-- The timer queue: linked by deadline, with the first link in the header.
pub mod Find
pub mod Read
pub mod Entries
pub mod Out
pub mod Flags
pub mod Insert
pub mod Seek
pub mod Remove
pub mod Linked
pub mod Behind
