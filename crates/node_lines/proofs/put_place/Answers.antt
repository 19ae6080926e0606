use native.Mathlib.Omega.{arith}
use Rattle.node_lines.specs.Laws.{put_put}
use Rattle.node_lines.proofs.put_place.Goals as goal

pub returns : goal.returns
returns c = let p = c.put_count-a in
    let q = c.put_count-b in let r = c.put_kind-c in let h = c.requires in let i = p.auto.out in let j = q.auto.out in let a = p.ensures in
    let b = q.ensures in let e = r.ensures in let a₁ = a.few in let a₂ = a.ends in let b₁ = b.few in let b₂ = b.ends in
    put_put (omega arith) a (put_put (omega arith) b (put_put (omega arith) e c.put.ensures))
