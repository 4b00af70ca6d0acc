-- The table of layout 1 is sound.
pub mod Ranges
