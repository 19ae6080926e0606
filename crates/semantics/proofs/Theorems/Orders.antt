pub mod NormalForms
pub mod Comparing
