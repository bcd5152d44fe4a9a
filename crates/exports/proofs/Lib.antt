mod NarrowLaws
pub mod Calls
