pub mod Reel
pub mod Told
pub mod Pack
pub mod Unpack
pub mod Read
pub mod Write
pub mod Length
pub mod Laws
