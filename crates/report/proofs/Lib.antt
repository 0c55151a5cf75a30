pub mod Counted
pub mod Checks
pub mod Sums
pub mod Changed
pub mod Table
pub mod Laws
pub mod InDigits
