pub mod TextLaws
pub mod Calls
