pub mod Laid
pub mod Firsts
pub mod Turning
pub mod Written
pub mod Answered
pub mod Law
pub mod Unique
