pub mod Cases
pub mod LimitLaws
mod ListLaws
mod PlaceLaws
pub mod ProblemLaws
mod ReachLaws
mod ReadLaws
mod TaskLaws
pub mod Calls
