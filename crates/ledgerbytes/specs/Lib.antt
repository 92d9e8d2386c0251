pub mod LedgerBytes
