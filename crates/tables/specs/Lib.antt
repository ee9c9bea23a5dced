pub mod Orders
pub mod Finding
pub mod Entering
pub mod Changes
