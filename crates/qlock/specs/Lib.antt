-- What the operations on locks ask and ensure, and what the code shows at each return.
pub mod Queue
pub mod Hold
