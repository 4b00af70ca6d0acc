-- What the steps of this crate ask and ensure.
pub mod Told
pub mod FreeCells
pub mod Leave
pub mod Tell
pub mod Cell
pub mod Depart
pub mod Exit
