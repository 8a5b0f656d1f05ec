pub mod Comparing
pub mod Counting
pub mod Sizes
pub mod Numbered
pub mod Subsections
pub mod Unknown
pub mod Writers
pub mod Writes
