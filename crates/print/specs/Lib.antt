-- The line of a step: bytes put into a buffer, decimals, answers, the machine's fields.
pub mod Put
pub mod Width
pub mod Decimal
pub mod Reply
pub mod Pids
pub mod Rest
pub mod Queue
pub mod Line
