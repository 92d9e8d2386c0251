pub mod AgreementLaws
pub mod Editions
pub mod LayoutLaws
mod Places
pub mod WritingLaws
