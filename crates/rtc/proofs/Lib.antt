mod Codes
mod Soundness
mod DayTime
pub mod Worked
mod Fields
mod Bodies
mod Moves
