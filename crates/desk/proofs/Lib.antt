pub mod Answers
pub mod OneFile
pub mod ReadBack
pub mod WrittenLaws
