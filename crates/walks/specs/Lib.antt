-- The walks and counts of the check: timers, exits and the living by age.
pub mod Counts
pub mod Order
pub mod Timers
pub mod TimerQueue
pub mod Exits
pub mod AllExits
pub mod Ages
pub mod Queues
