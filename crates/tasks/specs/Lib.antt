pub mod Task
pub mod Refusal
pub mod Told
pub mod Window
pub mod Instance
