use native.Mathlib.Omega.{arith}
use mathlib.Core.Path.{◌≡◌, sym, ap, ◌∙◌}
use mathlib.Core.List.{List, [], ◌∷◌}
use Prim.Native.Nat.{ℕ}
use lib.ListN.{length, get_or}
use types.Run.{miss}
use Rattle.plan.specs.Numbers.{kind_of}
use Rattle.plan.specs.declared.Kind.TheVariants.{Source, Union}
use Rattle.settling.specs.Settling.{shown}
use Rattle.settling.proofs.settle.Goals as goal

pub record_at-requires : goal.record_at-requires
record_at-requires c = c.requires.room

pub bounds-record_at-0 : goal.bounds-record_at-0
bounds-record_at-0 c = let l = (shown c.args.m.now c.args.i c.requires).long in
    let e = ap length c.record_at.ensures in omega arith

pub settle_union-requires : goal.settle_union-requires
settle_union-requires c = let q = c.kind_of-kind.ensures ∙ ap (λ (r : List ℕ). kind_of (get_or r 0 0))
    c.record_at.ensures in (
      c.requires,
      sym q ∙ c.in-Union.is,
      c.below-s.ensures,
    )

pub settle_source-requires : goal.settle_source-requires
settle_source-requires c = let q = c.kind_of-kind.ensures ∙ ap (λ (r : List ℕ). kind_of (get_or r 0 0))
    c.record_at.ensures in (
      c.requires,
      sym q ∙ c.in-Source.is,
      c.below-s.ensures,
    )

pub settle_inner-requires : goal.settle_inner-requires
settle_inner-requires c = let q = c.kind_of-kind.ensures ∙ ap (λ (r : List ℕ). kind_of (get_or r 0 0))
    c.record_at.ensures in (
      c.requires,
      (λ e. c.in_default.not-Union (q ∙ e)),
      (λ e. c.in_default-kind.not-Source (q ∙ e)),
      c.below-s.ensures,
    )
