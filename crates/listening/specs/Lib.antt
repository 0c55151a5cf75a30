pub mod Listener
pub mod Read
pub mod Finish
pub mod Find
pub mod Told
