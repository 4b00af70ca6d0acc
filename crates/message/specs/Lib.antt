-- The exit message: its parts, its digits, its cut, what the code shows at each return, and what C callers get.
pub mod Text
pub mod Digits
pub mod Cut
pub mod Answers
pub mod Called
