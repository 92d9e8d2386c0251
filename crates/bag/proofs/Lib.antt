pub mod CaseLaws
pub mod OrderLaws
pub mod Outcomes
