-- What a step's answer stands for, what a step ensures, and the number that each step meets.
pub mod Answer
pub mod Means
pub mod Length
pub mod Stepped
pub mod Laws
pub mod Room
pub mod Refusals
pub mod RefusalsRange
pub mod RefusalsRun
pub mod RefusalsLock
pub mod RefusalsTime
pub mod RefusalsTsleep
pub mod RefusalsMake
pub mod RefusalsExit
pub mod Took
pub mod Running
