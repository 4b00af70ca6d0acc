-- The laws under the theorem of Exact, in the order in which to read them, and the theorem.
pub mod Sums
pub mod FactsSpots
pub mod CellLists
pub mod FactsRep
pub mod FactsGood
pub mod WellFacts
pub mod Exact
