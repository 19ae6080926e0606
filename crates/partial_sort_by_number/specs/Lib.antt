pub mod AtNumber
pub mod ByNumber
