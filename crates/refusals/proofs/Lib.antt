pub mod AnswerRows
pub mod Denials
pub mod SentenceLaws
pub mod RuleLaws
pub mod TwoTables
pub mod Told
