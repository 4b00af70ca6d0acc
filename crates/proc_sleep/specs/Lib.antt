-- What the steps of this crate ask and ensure.
pub mod Suspend
pub mod Yield
pub mod Sleep
pub mod Qlock
