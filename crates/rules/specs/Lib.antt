-- Well-formedness as facts that a loop over a region, or a walk of a queue, decides.
pub mod Facts
pub mod Code
pub mod Loop
pub mod Walk
pub mod Below
pub mod Read
pub mod Tests
pub mod Reach
pub mod Counting
