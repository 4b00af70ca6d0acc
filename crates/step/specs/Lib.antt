-- The exported step: its answer in words, what it leaves, and the claims about every list of steps.
pub mod Words
pub mod After
pub mod Exported
pub mod Demands
pub mod One
