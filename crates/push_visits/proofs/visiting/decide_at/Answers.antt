use native.Mathlib.Omega.{arith}
use mathlib.Core.Path.{◌≡◌, refl, subst, subst⁻¹}
use mathlib.Core.List.{List}
use Prim.Native.Nat.{ℕ, ◌/◌, ◌<◌}
use Rattle.plan_codec.specs.Decode.{decode}
use Rattle.semantics.specs.Properties.{fetch_op, fetches}
use Rattle.asked_facts.specs.Asked.{told}
use Rattle.plan_context.specs.Laws.{here}
use Rattle.push_requirements.specs.Pushing.{SeenNode}
use Rattle.sort_pushdown.specs.Decisions.{Decides, Visited, visit_of}
use Rattle.push_visits.specs.Carried.{plan_at}
use Rattle.push_visits.specs.Visiting.{seen_at, visited_at, fetch_in_lem}
use Rattle.semantics.specs.Facts as sem
use Rattle.walks.specs.SortPushdown.{child_count}
use Rattle.walks.specs.PushdownSorts as walk
use Rattle.push_visits.proofs.visiting.decide_at.Goals as goal

pub fetch_at-requires : goal.fetch_at-requires
fetch_at-requires c = let a = c.args.a.now in let ua = c.args.ua in let h = c.args.h in
    let i = h / 2 in let g = c.requires.from in let z = c.requires.here in let l : i < ua = omega arith in here a ua h g z

pub pushdown_sorts_helper-requires : goal.pushdown_sorts_helper-requires
pushdown_sorts_helper-requires c = let a = c.args.a.now in let ua = c.args.ua in
    let h = c.args.h in let i = h / 2 in let g = c.requires.from in let z = c.requires.here in let l : i < ua = omega arith in
    subst⁻¹ (λ (x : List ℕ). Visited x c.kept_at.result.now c.child_row-first.result.now
    c.child_row-second.result.now c.args.v.req.order) c.record_at.ensures
    (visited_at a ua i g l _ _ _ c.kept_at.ensures c.child_row-first.ensures
    c.child_row-second.ensures c.args.v h c.requires refl)

pub returns : goal.returns
returns c = let a = c.args.a.now in let ua = c.args.ua in let h = c.args.h in
    let i = h / 2 in let g = c.requires.from in let z = c.requires.here in let l : i < ua = omega arith in let q = visit_of c.args.v in let c' = plan_at a h in
    subst (λ (x : List ℕ). SeenNode (decode x) (decode x) (sem.facts c') (child_count c') (told c.kept_at.result.now)
    (told c.child_row-first.result.now) (told c.child_row-second.result.now)
    → c.fetch_at.result ≡ fetch_op (decode x) (fetches c') → Decides (decode x) c' (walk.pushdown_sorts_helper q (decode x) c')
    c.pushdown_sorts_helper.result) c.record_at.ensures
    (c.pushdown_sorts_helper.ensures c')
    (seen_at a ua i g l _ _ _ c.kept_at.ensures c.child_row-first.ensures
    c.child_row-second.ensures) (fetch_in_lem a ua i g l h refl c.fetch_at.result c.fetch_at.ensures)
