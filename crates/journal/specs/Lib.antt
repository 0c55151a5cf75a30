pub mod Changes
pub mod Copies
pub mod Lengths
pub mod Log
pub mod Slots
