pub mod Bytes
pub mod Sheet
pub mod Laws
pub mod InDigits
