pub mod Words
pub mod Texts
pub mod Front
pub mod Laws
pub mod InDigits
pub mod Clauses
