-- The lent state: its layout, the machine that its bytes hold, and when it is well formed.
pub mod Fields
pub mod Abs
pub mod Tables
pub mod Reads
pub mod WellFormed
pub mod Blanks
pub mod Places
pub mod Shown
pub mod Regions
pub mod Lent
pub mod Sets
pub mod Process
