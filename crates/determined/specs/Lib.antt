-- What the machine uses of a well-formed state, the machine determines.
pub mod Chains
pub mod Twins
pub mod Plain
pub mod Calls
pub mod Records
pub mod Queues
pub mod Cells
pub mod Ages
pub mod Index
pub mod Every
pub mod Uses
pub mod Bytes
