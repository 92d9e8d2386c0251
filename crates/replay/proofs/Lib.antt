pub mod Examples
mod KindLaws
mod LookLaws
mod TurnLaws
