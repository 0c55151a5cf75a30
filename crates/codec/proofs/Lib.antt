pub mod Cases
pub mod Little
