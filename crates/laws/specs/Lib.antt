pub mod Sum
pub mod Tests
pub mod Lists
pub mod Lcm
pub mod Order
