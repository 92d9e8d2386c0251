mod Reports
pub mod Codes
pub mod DayLaws
pub mod KeptLaws
pub mod Shifts
pub mod TallyLaws
pub mod Untouched
