pub mod Walking
pub mod Frame
