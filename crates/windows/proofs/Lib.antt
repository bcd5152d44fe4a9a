pub mod AnswerLaws
pub mod Calls
pub mod Cases
