pub mod State
pub mod Rtc
pub mod Time
pub mod Worked
pub mod Stream
