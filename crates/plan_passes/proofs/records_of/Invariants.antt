use borrow.Author.Rules.{rules}
use Prim.Native.Nat.{◌-◌}
use mathlib.Core.Path.{◌≡◌}
use mathlib.Core.Bool.{◌&&◌}
use Rattle.scan.specs.Bytes.{all_below}
use Rattle.plan_format.specs.Blocks.{record_at}
use Rattle.plan_format.specs.Record.{kind_ok, record_ok}
use Rattle.plan_format.specs.Reading.{children_at}
use Rattle.plan_passes.specs.Laws.{Pass}
use Rattle.plan_passes.proofs.records_of.Given as goal

abbrev pub invariant-loop-j : goal.invariant-loop-j
invariant-loop-j l =
    Pass (children_at l.s) l.m l.j l.have l.enough
    × (l.kinds && all_below (λ i'. kind_ok (record_at l.s i')) l.j ≡ all_below (λ i'. kind_ok (record_at l.s i')) l.m)
    × (l.rules && all_below (λ i'. record_ok (record_at l.s i')) l.j ≡ all_below (λ i'. record_ok (record_at l.s i')) l.m)
