use borrow.Author.Rules.{rules}
use native.Mathlib.Omega.{arith}
use Prim.Native.Nat.{ℕ, ◌-◌, ◌+◌, ◌≤◌, ◌<◌}
use mathlib.Core.Path.{◌≡◌, refl, ap, ◌∙◌}
use mathlib.Core.Bool.{◌&&◌}
use mathlib.Core.List.{List}
use Rattle.scan.specs.Bytes.{all_below}
use Rattle.scan.specs.Below.{all_down, all_down_end}
use Rattle.plan_format.specs.Blocks.{span, record_at, record_start}
use Rattle.plan_format.specs.Record.{kind_ok, record_ok}
use Rattle.plan_format.specs.Reading.{kinds_ok, tree_ok, records_ok, children_at, one_tree}
use Rattle.plan_passes.specs.Laws.{pass_start, pass_more, pass_end}
use Rattle.plan_passes.specs.Stack.{child_byte, record_lent, child_byte_lem}
use Rattle.plan_passes.proofs.records_of.Goals as goal

pub loop-j-init : goal.loop-j-init
loop-j-init c = (pass_start (children_at c.args.s.now) c.args.m, refl, refl)

pub overflow_cast-k : goal.overflow_cast-k
overflow_cast-k c = omega (arith, c.type_inv.s (c.record_start-at.result + 1))

pub loop-j-preserved : goal.loop-j-preserved
loop-j-preserved c = let b : List ℕ = c.args.s.now in
    let l = c.loop-j in let j : ℕ = l.j - 1 in let t : 0 < l.j = omega arith in
    let a : ℕ = c.record_start-at.result in let e : a ≡ record_start j = c.record_start-at.ensures in
    let q = record_lent b j a e in (
      rw c.saturating_sub-have.ensures (pass_more (children_at b) c.args.m l.j l.have (child_byte b a) l.enough t l.invariant.0 (child_byte_lem b j a e)),
      ap (λ x. (l.kinds && x) && all_below (λ i. kind_ok (record_at b i)) j) (c.kind_ok-kinds.ensures ∙ ap kind_ok q)
          ∙ all_down (λ i. kind_ok (record_at b i)) c.args.m l.j l.kinds t l.invariant.1,
      ap (λ x. (l.rules && x) && all_below (λ i. record_ok (record_at b i)) j) (c.record_ok-rules.ensures ∙ ap record_ok q)
          ∙ all_down (λ i. record_ok (record_at b i)) c.args.m l.j l.rules t l.invariant.2,
    )

pub returns : goal.returns
unfolding kinds_ok tree_ok records_ok
returns c = let b : List ℕ = c.args.s.now in let l = c.loop-j in let t : l.j ≤ 0 = omega arith in
    record {
      kinds = all_down_end (λ i. kind_ok (record_at b i)) c.args.m l.j l.kinds t l.invariant.1 ∙ ap (all_below (λ i. kind_ok (record_at b i)))
          c.requires.0;
      tree = pass_end (children_at b) c.args.m l.j l.have l.enough l.invariant.0 t ∙ ap (λ (n : ℕ). one_tree (span (children_at b) 0 n))
          c.requires.0;
      rules = all_down_end (λ i. record_ok (record_at b i)) c.args.m l.j l.rules t l.invariant.2 ∙ ap (all_below (λ i. record_ok (record_at b i)))
          c.requires.0;
    }
