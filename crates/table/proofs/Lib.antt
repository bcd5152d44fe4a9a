pub mod JobLaws
pub mod ShareLaws
pub mod TableLaws
pub mod SwapLaws
pub mod WorkLaws
