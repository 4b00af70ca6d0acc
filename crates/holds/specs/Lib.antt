-- What the memory of a state keeps, group by group, and how the machine that it holds changes with it.
pub mod Holds
pub mod Whole
pub mod Parts
pub mod Frames
pub mod Use
pub mod Fewer
pub mod Leftover
pub mod Did
pub mod Touched
