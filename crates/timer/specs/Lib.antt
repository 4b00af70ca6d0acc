-- The timer queue as operations on the lent state.
pub mod Only
pub mod Aside
pub mod Use
pub mod Rounds
pub mod Del
pub mod Add
pub mod Pop
pub mod Due
pub mod Readd
pub mod Queued
pub mod Lent
