pub mod Answers
pub mod Bags
pub mod Books
pub mod Ledgers
pub mod Shifts
