pub mod Holding
pub mod ReadLaws
pub mod FinishLaws
pub mod FindLaws
