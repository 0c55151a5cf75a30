pub mod Own
pub mod Read
pub mod Write
pub mod Told
