pub mod DayLaws
pub mod HistoryLaws
pub mod TallyLaws
