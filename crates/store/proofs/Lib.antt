pub mod InDigits
pub mod ShortInDigits
pub mod VanLoads
pub mod ListInDigits
