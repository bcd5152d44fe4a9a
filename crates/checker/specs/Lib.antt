pub mod Checks
pub mod For
pub mod Told
pub mod Faulty
