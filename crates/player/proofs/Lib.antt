mod ApartLaws
mod ArrayLaws
mod StartLaws
pub mod PlayLaws
pub mod RecordLaws
pub mod Calls
pub mod Demand2
