-- What a text is refused for: the paper's table.
pub mod Rows
pub mod Judging
pub mod Loading
pub mod Calls
pub mod Places
