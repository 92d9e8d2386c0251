pub mod KeepingLaws
