pub mod Table
pub mod Fault
