-- The living by age, and the living process with a pid.
pub mod Lists
pub mod Both
pub mod Ties
pub mod Way
pub mod Kept
pub mod In
pub mod Newest
pub mod Out
pub mod Gone
pub mod Found
pub mod Parent
pub mod InUse
