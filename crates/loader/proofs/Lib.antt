pub mod Chunks
pub mod Extents
pub mod Found
pub mod Plain
pub mod Rising
pub mod Spans
