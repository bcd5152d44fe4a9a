pub mod SumLaws
pub mod CountLaws
pub mod TestLaws
pub mod ListLaws
pub mod LcmLaws
pub mod OrderLaws
pub mod Only
pub mod Calls
