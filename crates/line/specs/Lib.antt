-- A step taken, and its line of the listing.
pub mod Line
pub mod Text
pub mod Status
pub mod Took
