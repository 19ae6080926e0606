pub mod PartialSorting
