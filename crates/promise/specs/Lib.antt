pub mod Loading
pub mod Board
pub mod Editions
pub mod Promise
