pub mod TestLaws
pub mod Calls
