-- The walks that go children before parents: the step of each, as the walks' definitions have it. These are definitions.
use Rattle.std.specs.Prelude.{Bool, true, false}
use Rattle.walks.specs.Marks.{Tree}
use Rattle.walks.specs.EnsureSorting.{ensure_sorting}
use Rattle.walks.specs.ParallelizeSorts.{parallelize_sorts}
use Rattle.walks.specs.OrderPreserving.{replace_with_order_preserving_variants}
use Rattle.walks.proofs.Theorems.Preserve.Kept as preserving
use Rattle.walk_settings.specs.Settings.{settings_of}
use Rattle.transform_up.specs.declared.Walk.{Walk}
use Rattle.transform_up.specs.declared.Walk.TheVariants.{Ensure, Parallelize, Preserve}

abbrev pub step_of : Walk → Tree → Tree
step_of Ensure t = ensure_sorting t
step_of Parallelize t = parallelize_sorts t
step_of (Preserve s) t = replace_with_order_preserving_variants (settings_of s) t

-- Ensuring alone may add limits
abbrev pub may_add : Walk → Bool
may_add Ensure = true
may_add Parallelize = false
may_add (Preserve s) = false
