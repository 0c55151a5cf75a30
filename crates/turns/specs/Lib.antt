pub mod State
pub mod Bounds
pub mod Make
pub mod Output
