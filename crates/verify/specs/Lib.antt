-- The whole check: every way out decides whether the bytes are well formed.
pub mod Ways
