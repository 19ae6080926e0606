use mathlib.Core.Path.{sym, ◌∙◌}
use mathlib.Core.Bool.{not}
use Prim.Native.Nat.{◌-◌}
use Rattle.semantics.specs.Properties.{singles}
use Rattle.plan_codec.specs.Decode.{decode}
use Rattle.bottleneck_removal.specs.Connecting.{passed_none, passed_more, passed_found, passed_all}
use Rattle.bottleneck_removal.proofs.marks.any_connects.Goals as goal

pub loop-j-init : goal.loop-j-init
loop-j-init c = passed_none (λ i. not (singles (decode c.args.r.now) i)) c.args.ks.now

pub connects-requires : goal.connects-requires
connects-requires c = c.requires

pub returns-then-connects : goal.returns-then-connects
returns-then-connects c = passed_found (λ i. not (singles (decode c.args.r.now) i)) c.args.ks.now c.loop-j.j
    c.loop-j.invariant c.loop-j-test.true (sym c.connects.ensures ∙ c.if-connects.true)

pub loop-j-preserved : goal.loop-j-preserved
loop-j-preserved c = passed_more (λ i. not (singles (decode c.args.r.now) i)) c.args.ks.now c.loop-j.j
    c.loop-j.invariant c.loop-j-test.true (sym c.connects.ensures ∙ c.if-connects.false)

pub returns : goal.returns
returns c = passed_all (λ i. not (singles (decode c.args.r.now) i)) c.args.ks.now c.loop-j.j c.loop-j.invariant c.loop-j-test.false
