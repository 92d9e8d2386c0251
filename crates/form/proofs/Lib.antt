pub mod DigitLaws
pub mod DraftLaws
pub mod Examples
pub mod FieldLaws
pub mod LineLaws
pub mod Places
pub mod ReadBack
pub mod ReadLaws
