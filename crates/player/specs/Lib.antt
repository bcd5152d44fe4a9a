pub mod Player
pub mod Played
