pub mod ListedTerms
pub mod Quiet
pub mod Unlisted
pub mod Nets
pub mod Ascents
pub mod Bounds
