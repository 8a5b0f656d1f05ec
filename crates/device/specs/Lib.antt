pub mod Bytes
pub mod Kind
pub mod Format
pub mod Obligations
pub mod Table
