pub mod Begun
pub mod Tables
pub mod Loading
pub mod Refused
pub mod Stepped
