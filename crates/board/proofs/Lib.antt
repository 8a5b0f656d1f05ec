pub mod Judging
pub mod Streams
