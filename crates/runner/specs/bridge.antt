pub mod Standings
pub mod Acting
pub mod Endings
pub mod Lending
