pub mod Digits
pub mod Faults
pub mod Fields
pub mod Forms
pub mod Lines
