pub mod Ranks
mod MarkPlaces
mod LastRows
