-- Laws of the small functions on lists that the definitions share.
pub mod Lists
