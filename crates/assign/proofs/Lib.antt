pub mod StepLines
pub mod Sums
