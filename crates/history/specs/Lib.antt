-- Places and waiting over a list of steps, in the order in which to read it: the definitions and the statement. proofs/ has the theorem.
pub mod History
pub mod Demand3
