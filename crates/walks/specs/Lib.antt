-- The four walks and partial sorting. Definitions, by the Rust's files:
--   Utils: utils.rs. OutputRequirements: output_requirements.rs. OrderPreserving: replace_with_order_preserving_variants.rs.
--   EnsureSorting, ParallelizeSorts, PartialSort: enforce_sorting/mod.rs, in three parts.
--   SortPushdown, PushdownSorts: sort_pushdown.rs, in two parts (crate push_literal has the second part again, in the Rust's own form).
--   Marks: PlanContext, transform_up, and the kinds that the walks treat apart. Counted: the walks as they are called, with their refusals.
-- Terms: the words that the theorems are stated in.
-- proofs/Theorems/: for each walk what it keeps and what it makes sure of (Common/: what they share; Calls/: the calls' answers and refusals).
-- proofs/Examples/: 01's worked examples (Worked), plans that pin a branch each (Pinned, PinnedPush) and aggregates (Aggregates), by computation.
pub mod Marks
pub mod Utils
pub mod OutputRequirements
pub mod EnsureSorting
pub mod ParallelizeSorts
pub mod PartialSort
pub mod OrderPreserving
pub mod SortPushdown
pub mod PushdownSorts
pub mod Counted
pub mod Terms
pub mod Trees
pub mod Earlier
