pub mod NodeRecord
pub mod Decode
pub mod Encode
pub mod Reading
pub mod Writing
