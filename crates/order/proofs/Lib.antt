pub mod Laws
pub mod Lining
pub mod Pairing
pub mod Passing
pub mod Rising
pub mod Texting
pub mod Words
