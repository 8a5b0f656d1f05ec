pub mod Carrying
pub mod Lines
pub mod Sections
