-- The places of processes: the run queue, who runs, Rendez, waitr and locks.
pub mod Nowhere
pub mod Machines
pub mod Others
pub mod Stores
pub mod Run
pub mod Rendez
pub mod Lock
pub mod Own
pub mod Waitr
