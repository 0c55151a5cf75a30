pub mod Lists
pub mod ToldLaws
pub mod FinishLaws
pub mod Front
pub mod SettleLaws
pub mod ReclaimLaws
pub mod Clauses
