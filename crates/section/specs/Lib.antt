pub mod Layout
pub mod Carrying
pub mod Writer
