pub mod Tests
pub mod Told
