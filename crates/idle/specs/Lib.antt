-- What is asked of one record, one cell and one timer.
pub mod Idle
