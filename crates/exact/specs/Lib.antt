-- The facts that the check decides are exactly well-formedness: definitions and laws. proofs/ has the laws that rest on them, and the theorem.
pub mod Sums
pub mod Tables
pub mod Bounds
pub mod Resumes
pub mod Parts
pub mod Spots
pub mod WellSpots
pub mod Exact
