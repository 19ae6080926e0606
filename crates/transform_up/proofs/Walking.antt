-- The walks that go children before parents: the step of each, as the walks' definitions have it. These are definitions, but for step_keeps.
use Rattle.std.specs.Prelude.{Bool}
use Rattle.walks.specs.Marks.{Tree}
use Rattle.walks.specs.Trees.{FitT}
use Rattle.walks.proofs.Theorems.Common.Keeps.{Keeps}
use Rattle.walks.proofs.Theorems.Ensure.Kept.{ensure_sorting_kept}
use Rattle.walks.proofs.Theorems.Parallelize.Kept.{parallelize_sorts_kept}
use Rattle.walks.proofs.Theorems.Preserve.Kept as preserving
use Rattle.walk_settings.specs.Settings.{settings_of}
use Rattle.transform_up.specs.declared.Walk.{Walk}
use Rattle.transform_up.specs.declared.Walk.TheVariants.{Ensure, Parallelize, Preserve}
use Rattle.transform_up.specs.Walking.{step_of, may_add}

pub step_keeps : {b h : Bool} (w : Walk) (t : Tree) → FitT t → Keeps (may_add w) b h t (step_of w t)
step_keeps Ensure t f = ensure_sorting_kept t f
step_keeps Parallelize t f = parallelize_sorts_kept t f
step_keeps (Preserve s) t f = preserving.step_kept (settings_of s) t f
