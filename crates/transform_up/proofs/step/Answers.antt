use Rattle.transform_up.proofs.step.Goals as goal

pub returns-in-Ensure : goal.returns-in-Ensure
returns-in-Ensure c = rw c.in-Ensure.is c.ensure_sorting.ensures

pub returns-in-Parallelize : goal.returns-in-Parallelize
returns-in-Parallelize c = rw c.in-Parallelize.is c.parallelize_sorts.ensures

pub returns-in-Preserve : goal.returns-in-Preserve
returns-in-Preserve c = rw c.in-Preserve.is c.replace_with_order_preserving_variants.ensures
