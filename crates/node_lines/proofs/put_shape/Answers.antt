use native.Mathlib.Omega.{arith}
use Rattle.node_lines.specs.Laws.{put_put}
use Rattle.node_lines.proofs.put_shape.Goals as goal

pub returns : goal.returns
returns c = let p = c.put_count-a in let q = c.put_fetch-b in let r = c.put-c in
    let t = c.put_keys-d in let h = c.requires.1 in let i = p.auto.out in let j = q.auto.out in let k = r.auto.out in let a = p.ensures in
    let b = q.ensures in let e = r.ensures in let a₁ = a.few in let a₂ = a.ends in let b₁ = b.few in let b₂ = b.ends in let e₁ = e.few in
    let e₂ = e.ends in
    put_put (omega arith) a (put_put (omega arith) b (put_put (omega arith) e (put_put (omega arith) t.ensures c.put.ensures)))
