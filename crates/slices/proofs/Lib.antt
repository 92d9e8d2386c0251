pub mod Levels
pub mod Outcomes
pub mod RecordLaws
pub mod Shares
pub mod StepLaws
pub mod Witness
