pub mod SampleRows
pub mod Examples
pub mod Aggregates
pub mod FactTables
