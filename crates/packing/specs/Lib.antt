pub mod Words
pub mod Decimals
pub mod Seals
pub mod Bags
pub mod Packing
