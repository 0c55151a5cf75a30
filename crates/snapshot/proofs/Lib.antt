pub mod Searches
pub mod OwnPlace
pub mod ReadLaws
pub mod WriteLaws
pub mod ToldLaws
