pub mod Comparisons
pub mod Searches
pub mod Insertions
pub mod Entries
pub mod Pairs
pub mod Sides
pub mod EitherOrder
