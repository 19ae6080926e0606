use native.Mathlib.Omega.{arith}
use mathlib.Core.Path.{◌≡◌, sym, ap, ap₂, ◌∙◌}
use lib.ListN.{length}
use Rattle.plan_updates.specs.Again.{same, comparing_none, comparing_more, comparing_all}
use Rattle.plan_updates.proofs.same_record.Goals as goal

pub read64-a-requires : goal.read64-a-requires
read64-a-requires c = c.requires.2

pub record_at-requires : goal.record_at-requires
record_at-requires c = c.requires.0

pub read64-b-requires : goal.read64-b-requires
read64-b-requires c = ap length c.record_at.ensures ∙ c.requires.1

pub loop-j-init : goal.loop-j-init
loop-j-init c = comparing_none _ _

pub loop-j-preserved : goal.loop-j-preserved
loop-j-preserved c = let la : length c.read64-a.result ≡ 64 = ap length c.read64-a.ensures ∙ c.requires.2 in
    let lb : length c.read64-b.result ≡ 64 =
    ap length (c.read64-b.ensures ∙ c.record_at.ensures) ∙ c.requires.1 in let t = c.loop-j-test.true in
    comparing_more _ _ c.loop-j.j c.loop-j.all (la ∙ sym lb) (omega arith) c.loop-j.invariant

pub returns : goal.returns
returns c = let la : length c.read64-a.result ≡ 64 =
    ap length c.read64-a.ensures ∙ c.requires.2 in let lb : length c.read64-b.result ≡ 64 =
    ap length (c.read64-b.ensures ∙ c.record_at.ensures) ∙ c.requires.1 in
    comparing_all _ _ c.loop-j.j c.loop-j.all (la ∙ sym lb) (omega arith) c.loop-j.invariant
    ∙ ap₂ same c.read64-a.ensures (c.read64-b.ensures ∙ c.record_at.ensures)
