use native.Mathlib.Omega.{arith}
use mathlib.Core.Path.{◌≡◌, refl, sym, ap, ◌∙◌}
use Prim.Native.Nat.{◌+◌, ◌*◌, ◌-◌}
use Rattle.node_lines.specs.Laws.{put_none, put_put, put_as, put_most, behind, behind-one, behind_more}
use Rattle.node_lines.proofs.put_further_keys.Goals as goal

pub loop-i-init : goal.loop-i-init
loop-i-init c = (omega arith, refl, put_as (sym (behind-one c.args.ks.now)) (put_none c.args.out.now c.args.at))

pub put_next_key-e-requires : goal.put_next_key-e-requires
put_next_key-e-requires c = let p = c.loop-i.invariant.2 in let f = p.few in let g = p.ends in
    let t = c.loop-i-test.true in
    omega arith

pub loop-i-preserved : goal.loop-i-preserved
loop-i-preserved c = let l = c.loop-i in let t = c.loop-i-test.true in let p = l.invariant.2 in let ks = c.args.ks.now in (
  omega arith,
  c.put_next_key-e.auto.out ∙ l.invariant.1,
  put_as (sym (behind_more l.i ks l.invariant.0 (omega arith)))
      (put_most (23 * (l.i + 1 - 1)) (omega arith) (put_put (omega arith) p c.put_next_key-e.ensures)),
)

pub shape_of-out : goal.shape_of-out
shape_of-out c = c.loop-i.invariant.1

pub returns : goal.returns
returns c = let l = c.loop-i in let e : l.i ≡ c.args.n = omega arith in
    put_as (ap (behind c.args.ks.now) e) (put_most 161 (omega arith) l.invariant.2)
