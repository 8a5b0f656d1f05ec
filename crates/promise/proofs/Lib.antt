pub mod Needed
pub mod Leaves
pub mod Odds
pub mod Moving
pub mod Carrying
pub mod Tests
pub mod Runs
pub mod Promised
