pub mod FaultLaws
pub mod CellLaws
pub mod ScanLaws
pub mod CountLaws
pub mod TellLaws
pub mod Calls
pub mod Demand2
