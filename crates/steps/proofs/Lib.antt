pub mod ApplyLaws
pub mod CutLaws
pub mod Tried
