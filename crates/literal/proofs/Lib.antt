pub mod Bits
pub mod Tens
pub mod Quotient
pub mod Nearest
pub mod Examples
