pub mod CheckIsMet
