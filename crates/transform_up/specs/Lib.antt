pub mod Counting
pub mod Finishing
pub mod Walking
pub mod Frame
