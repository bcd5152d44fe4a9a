pub mod FillLaws
pub mod RateLaws
pub mod GridLaws
pub mod Calls
