mod Cases
mod WriteLaws
pub mod Calls
