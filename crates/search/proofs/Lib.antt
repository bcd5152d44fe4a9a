pub mod AnswerLaws
pub mod ToldLaws
pub mod Calls
