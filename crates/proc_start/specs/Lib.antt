-- What the steps of this crate ask and ensure.
pub mod Making
pub mod Room
pub mod Begin
pub mod Start
