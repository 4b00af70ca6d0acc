-- The definitions that the contracts cite.
pub mod Means
pub mod Fields
pub mod Kinds
pub mod Calls
pub mod Decodes
