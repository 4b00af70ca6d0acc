-- The last of the laws, in the order in which to read them: they rest on those of specs/, and Kept has the theorem.
pub mod Messages
pub mod Exiting
pub mod Firings
pub mod Kept
