pub mod AnswerLaws
pub mod DecimalLaws
pub mod Examples
pub mod HexLaws
pub mod PenLaws
