pub mod Read
pub mod Blank
pub mod Told
