pub mod Walks
pub mod OrderKept
pub mod CheckedFiles
pub mod DryRuns
pub mod PlanKept
pub mod RowsKept
pub mod RewrittenFiles
