use mathlib.Core.Path.{sym, ap, ap₂, ◌∙◌}
use mathlib.Core.Bool.{not, ◌&&◌}
use Prim.Native.Nat.{ℕ, ◌+◌}
use Rattle.plan_codec.specs.Decode.{decode}
use Rattle.asked_facts.specs.Asked.{told}
use Rattle.walks.specs.Utils.{is_sort}
use Rattle.walks.specs.Counted.{too_many}
use Rattle.push_steps.specs.Steps.{after_by}
use Rattle.push_steps.specs.Stepping.{step_so, step_over, step_goes}
use Rattle.std.specs.Prelude.{Ok}
use Rattle.semantics.specs.Facts as sem
use Rattle.push_steps.proofs.step_at.Goals as goal

pub returns-then-constant_sort : goal.returns-then-constant_sort
returns-then-constant_sort c = let d = c.args.d in
    let k = is_sort (decode c.args.r.now) && sem.is_nil (sem.known_order (told c.args.own.now)) in
    step_so k d.quiet d.peak (after_by d c.args.count) (sym c.constant_sort.ensures ∙ c.if-constant_sort.true)

pub returns-then-d-after : goal.returns-then-d-after
returns-then-d-after c = let d = c.args.d in
    let k = is_sort (decode c.args.r.now) && sem.is_nil (sem.known_order (told c.args.own.now)) in
    step_over k d.quiet d.peak (after_by d c.args.count) (sym c.constant_sort.ensures
    ∙ c.if-constant_sort.false)
    (ap₂ (λ (n : ℕ) (m : ℕ). not d.quiet && too_many (n + m)) (sym c.nodes_after-after.ensures.0)
    (sym c.one_if.ensures.0) ∙ c.if-d-after.true)

pub returns : goal.returns
returns c = let d = c.args.d in
    let k = is_sort (decode c.args.r.now) && sem.is_nil (sem.known_order (told c.args.own.now)) in
    ap Ok c.nodes_after-after.ensures.0 ∙ step_goes k d.quiet d.peak (after_by d c.args.count)
    (sym c.constant_sort.ensures ∙ c.if-constant_sort.false)
    (ap₂ (λ (n : ℕ) (m : ℕ). not d.quiet && too_many (n + m)) (sym c.nodes_after-after.ensures.0)
    (sym c.one_if.ensures.0) ∙ c.if-d-after.false)
