pub mod Standing
pub mod Connection
