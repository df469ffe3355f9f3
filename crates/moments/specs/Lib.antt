pub mod Capped
pub mod MomentLaws
