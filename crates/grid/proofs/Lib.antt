pub mod ReadLaws
pub mod GridForLaws
pub mod Calls
