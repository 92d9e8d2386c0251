pub mod Carried
pub mod Clauses
mod Marked
pub mod Order
pub mod PathLaws
mod TestLaws
mod WordLaws
