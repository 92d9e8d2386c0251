pub mod Body
pub mod Pull
