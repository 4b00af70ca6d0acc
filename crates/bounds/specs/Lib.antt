-- When every field of a state is in range, as tests of columns: a field of all records of a region.
pub mod Column
pub mod Groups
pub mod InRange
