pub mod Child
pub mod Finishing
pub mod Loop
pub mod Step
