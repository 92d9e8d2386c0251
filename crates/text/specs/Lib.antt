pub mod Answers
pub mod Decimal
pub mod Hex
pub mod Pen
pub mod Words
