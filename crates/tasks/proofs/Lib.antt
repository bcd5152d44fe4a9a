pub mod WindowLaws
pub mod ComingLaws
pub mod SoundLaws
pub mod RefusalLaws
pub mod AnswerLaws
pub mod Calls
