mod FrameLaws
mod DigitLaws
pub mod LineLaws
pub mod ListLaws
pub mod RefusalLaws
pub mod Text
pub mod Calls
