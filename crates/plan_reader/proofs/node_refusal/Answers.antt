use native.Mathlib.Omega.{arith}
use mathlib.Core.Path.{◌≡◌, ap, ap₂, ◌∙◌}
use mathlib.Core.Bool.{Bool}
use mathlib.Core.List.{List}
use Prim.Native.Nat.{ℕ}
use lib.ListN.{get_or}
use borrow.Author.Tests.{le-leb, lt-leb}
use Rattle.plan_format.specs.declared.Fields.{Fields}
use Rattle.plan_format.specs.Record.{fields}
use Rattle.plan_format.specs.LastPass.{columns_rule, column_limit, width_of, node_refusal}
use Rattle.plan_passes.specs.Laws.{refuse_stop, refuse_on}
use Rattle.std.specs.Prelude.{not}
use Rattle.plan_reader.proofs.node_refusal.Goals as goal

columns : (r ws : List ℕ) (f : Fields) (limit limit1 : ℕ) (b : Bool) → f ≡ fields r → limit ≡ column_limit f r ws → limit1 ≡ get_or ws 1 0
    → b ≡ columns_rule f r limit limit1 → b ≡ columns_rule (fields r) r (column_limit (fields r) r ws) (get_or ws 1 0)
columns r ws f limit limit1 b e l z h = h ∙ ap₂ (columns_rule f r) l z ∙ ap (λ (g : Fields). columns_rule g r (column_limit g r ws) (get_or ws 1 0)) e

wide : (r ws : List ℕ) (f : Fields) (w : ℕ) → f ≡ fields r → w ≡ width_of f r ws → w ≡ width_of (fields r) r ws
wide r ws f w e h = h ∙ ap (λ (g : Fields). width_of g r ws) e

pub returns-then-not-union_ok : goal.returns-then-not-union_ok
unfolding node_refusal
returns-then-not-union_ok c = refuse_stop c.union_ok.result _ _ _ c.union_ok.ensures (ap not c.if-not-union_ok.true)

pub returns-then-not-columns_rule : goal.returns-then-not-columns_rule
unfolding node_refusal
returns-then-not-columns_rule c = refuse_on c.union_ok.result _ _ _ _ c.union_ok.ensures (ap not c.if-not-union_ok.false)
    (refuse_stop c.columns_rule.result _ _ _
    (columns c.args.r.now c.args.ws.now c.args.f c.column_limit-limit.result c.at_or_zero-limit1.result
    c.columns_rule.result c.requires.1 c.column_limit-limit.ensures c.at_or_zero-limit1.ensures
    c.columns_rule.ensures)
    (ap not c.if-not-columns_rule.true))

pub returns-then-width-gt32 : goal.returns-then-width-gt32
unfolding node_refusal
returns-then-width-gt32 c = let r = c.args.r.now in let ws = c.args.ws.now in let e = wide r ws c.args.f c.args.width c.requires.1 c.requires.2 in
    let t = c.if-width-gt32.true in
    refuse_on c.union_ok.result _ _ _ _ c.union_ok.ensures (ap not c.if-not-union_ok.false)
    (refuse_on c.columns_rule.result _ _ _ _
    (columns r ws c.args.f c.column_limit-limit.result c.at_or_zero-limit1.result c.columns_rule.result c.requires.1
    c.column_limit-limit.ensures c.at_or_zero-limit1.ensures c.columns_rule.ensures)
    (ap not c.if-not-columns_rule.false)
    (rw (lt-leb (width_of (fields r) r ws) 32 (omega arith))))

pub returns : goal.returns
unfolding node_refusal
returns c = let r = c.args.r.now in let ws = c.args.ws.now in let e = wide r ws c.args.f c.args.width c.requires.1 c.requires.2 in
    let t = c.if-width-gt32.false in
    refuse_on c.union_ok.result _ _ _ _ c.union_ok.ensures (ap not c.if-not-union_ok.false)
    (refuse_on c.columns_rule.result _ _ _ _
    (columns r ws c.args.f c.column_limit-limit.result c.at_or_zero-limit1.result c.columns_rule.result c.requires.1
    c.column_limit-limit.ensures c.at_or_zero-limit1.ensures c.columns_rule.ensures)
    (ap not c.if-not-columns_rule.false)
    (rw (le-leb (width_of (fields r) r ws) 32 (omega arith))))
