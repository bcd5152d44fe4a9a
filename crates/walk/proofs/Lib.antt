pub mod GiveBackLaws
pub mod TurnLaws
pub mod ObeyLaws
pub mod RefineLaws
pub mod Calls
