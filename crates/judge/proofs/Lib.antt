pub mod Bare
pub mod Halves
mod HeldRow
pub mod Weighing
pub mod Outcomes
pub mod LedgerAnswers
pub mod SpentRow
pub mod Readiness
pub mod Settled
pub mod Spans
