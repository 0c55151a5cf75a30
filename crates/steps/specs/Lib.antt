pub mod Apply
pub mod Cut
