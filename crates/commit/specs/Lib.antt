pub mod Finish
pub mod Settle
pub mod Reclaim
pub mod Told
