pub mod StepLaws
pub mod ShownLaws
pub mod ClockLaws
pub mod Calls
