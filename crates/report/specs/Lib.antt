pub mod Lines
pub mod Report
pub mod Told
pub mod Changes
pub mod Laws
pub mod InDigits
