pub mod Walk
pub mod Limit
pub mod Rules
pub mod Right
pub mod Search
