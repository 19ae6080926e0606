-- Pushing as sort_pushdown.rs has it: contexts with their requirements as data, new nodes visited, the nodes of the whole plan counted after each call
-- that returns (PushdownSortsLiteral); and that the structural form, which code and theorems follow, answers the same for every plan (SameAnswers).
-- Pinned: plans that tell a wrong line of it from the right one, by computation.
pub mod PushdownSortsLiteral
