pub mod Grid
pub mod GridFor
