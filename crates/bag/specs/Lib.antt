pub mod Contents
pub mod SealAndCases
