pub mod Rows
pub mod Held
pub mod Shown
pub mod Places
pub mod Records
pub mod Calls
pub mod Judging
pub mod Promise
