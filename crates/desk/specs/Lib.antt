pub mod Drafts
pub mod Inputs
