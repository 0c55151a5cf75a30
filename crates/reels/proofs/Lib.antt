pub mod Faults
pub mod Good
pub mod Unpacked
pub mod Lengths
pub mod Laws
