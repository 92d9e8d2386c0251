pub mod Bits
mod GateLaws
mod Marked
pub mod PullLaws
mod Zeros
