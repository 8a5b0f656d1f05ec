pub mod Steps
pub mod Titles
pub mod Subs
pub mod Framed
pub mod Trees
pub mod Whole
pub mod Fitting
