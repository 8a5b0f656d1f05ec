pub mod Ring
pub mod Parts
pub mod Uart
pub mod View
pub mod Stream
