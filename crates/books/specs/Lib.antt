pub mod DayList
pub mod History
pub mod Tally
