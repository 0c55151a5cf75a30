pub mod Searches
pub mod OpenLaws
pub mod Lists
pub mod RecoverLaws
pub mod ToldLaws
