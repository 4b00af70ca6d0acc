-- What the steps of this crate ask and ensure.
pub mod Copy
pub mod Sleep
pub mod Wait
