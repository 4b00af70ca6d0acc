-- Ticks, the last reading of the clock, what timers do, quanta and conditions, as operations on the lent state.
pub mod Stores
pub mod Clock
pub mod Reading
pub mod Settings
pub mod Quantum
pub mod Preempt
pub mod Conditions
pub mod Lent
