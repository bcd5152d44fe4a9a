pub mod Frame
pub mod Lines
pub mod Refusal
pub mod Told
