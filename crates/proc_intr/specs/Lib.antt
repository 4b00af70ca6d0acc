-- What a timer does, one firing, the loop over what is due, and the step.
pub mod Readies
pub mod Twakeup
pub mod Callback
pub mod Fire
pub mod OneFired
pub mod Due
pub mod Owed
pub mod Interrupt
pub mod Turn
pub mod Step
