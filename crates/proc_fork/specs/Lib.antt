-- What the steps of this crate ask and ensure.
pub mod Runs
pub mod Pad
pub mod Name
pub mod Flags
pub mod Children
pub mod Child
pub mod Make
pub mod Rfork
