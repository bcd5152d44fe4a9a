pub mod SetLaws
pub mod Calls
