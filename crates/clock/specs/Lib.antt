-- The definitions that the contracts cite, and what holds of them.
pub mod Counts
pub mod Laws
pub mod Shown
