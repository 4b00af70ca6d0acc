-- What the steps of timers and the clock ask and ensure.
pub mod Kinds
pub mod Del
pub mod After
pub mod Clock
pub mod Counting
pub mod Set
pub mod Add
pub mod Own
pub mod For
pub mod Tsleep
pub mod Timed
