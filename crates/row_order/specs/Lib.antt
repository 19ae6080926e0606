pub mod Iso
pub mod Lists
pub mod RowLists
pub mod ListLaws
pub mod Forms
pub mod Packed
pub mod Compared
