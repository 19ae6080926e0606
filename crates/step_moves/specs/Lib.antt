pub mod Running
pub mod Movers
pub mod Stepping
pub mod Asking
pub mod Runs
