pub mod Answers
pub mod Calls
pub mod Indexing
pub mod Receipts
pub mod Examples
