-- Lists of distinct numbers, and chains of links that spell them.
pub mod Lists
pub mod Links
pub mod Ordered
pub mod Prefix
pub mod Removed
