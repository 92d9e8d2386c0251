pub mod Looks
pub mod Tape
