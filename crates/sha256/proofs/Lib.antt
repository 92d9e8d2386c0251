mod Ends
mod Growth
pub mod Laws
mod Runs
mod Sums
mod Turns
mod Vector
