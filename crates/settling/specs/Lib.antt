pub mod OtherKinds
pub mod Settling
pub mod Reading
