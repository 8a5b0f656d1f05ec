pub mod Tree
pub mod Calls
pub mod Stream
pub mod Carrying
