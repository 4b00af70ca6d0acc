-- Parents and children: when the records agree on who is whose parent, and how that is tested.
pub mod Link
pub mod Age
pub mod Living
pub mod Count
pub mod Kin
pub mod Search
