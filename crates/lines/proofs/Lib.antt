pub mod PutLaws
pub mod Digits
pub mod Puts
