-- A step of any kind: the fields' ranges, what a step ensures, and what the step bytes ask.
pub mod Ranges
pub mod Plain
pub mod Outside
pub mod Silent
pub mod Taken
pub mod Arms
