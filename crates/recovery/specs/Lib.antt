pub mod Open
pub mod Recover
pub mod Told
