-- What the steps of this crate ask and ensure.
pub mod Limbo
pub mod Check
pub mod Waits
pub mod Go
pub mod Taken
pub mod Turning
pub mod Turn
pub mod Sched
pub mod First
