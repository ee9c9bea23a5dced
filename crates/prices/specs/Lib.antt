pub mod Rows
pub mod Quotes
pub mod Values
pub mod WorkedValues
pub mod LastPrices
pub mod Kinds
pub mod Refused
