pub mod Guest
pub mod Saving
