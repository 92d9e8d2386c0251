pub mod CaseSays
pub mod PrintedLaws
