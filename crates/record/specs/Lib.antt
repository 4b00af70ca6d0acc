-- A process record, by value.
pub mod Resumes
pub mod Loads
pub mod Stores
