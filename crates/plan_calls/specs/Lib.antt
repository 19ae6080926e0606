pub mod Results
pub mod Calling
