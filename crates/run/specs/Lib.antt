-- A run of the exported steps: what it is, and the laws that its code cites.
pub mod Ran
pub mod Steps
pub mod Record
pub mod One
pub mod Loop
pub mod Course
pub mod Same
