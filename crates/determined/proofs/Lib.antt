-- The last of the laws, which rest on those of specs/; Determined has the theorems.
pub mod Every
pub mod Determined
