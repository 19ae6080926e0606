pub mod JoinsHold
pub mod KindsHold
pub mod GroupsHold
pub mod Sound
pub mod PassingPlan
pub mod DeclaredKept
