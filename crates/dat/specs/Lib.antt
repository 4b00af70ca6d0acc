-- What the operations on places ask and ensure, and what the code shows at each return.
pub mod Run
pub mod Asleep
pub mod Rendez
pub mod Own
pub mod Waitr
