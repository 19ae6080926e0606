use native.Mathlib.Omega.{arith}
use mathlib.Core.Path.{sym, ap}
use Prim.Native.Nat.{ℕ}
use Rattle.plan_codec.specs.Decode.{keys_of}
use Rattle.node_lines.specs.Lines.{keys_text}
use Rattle.node_lines.specs.Laws.{put_put, put_as, put_most, keys_text_lem}
use Rattle.node_lines.proofs.put_keys.Goals as goal

pub returns-then-n-eq0 : goal.returns-then-n-eq0
returns-then-n-eq0 c = put_as (ap (λ (k : ℕ). keys_text (keys_of k c.args.ks.now)) (sym c.if-n-eq0.true)) (put_most 183 (omega arith) c.put.ensures)

pub put_further_keys-requires : goal.put_further_keys-requires
put_further_keys-requires c = let m = c.min.ensures in let f = c.if-n-eq0.false in let p = c.put_key-e.ensures in let g = p.few in let h = p.ends in
    (c.requires.0, omega arith, omega arith, omega arith)

pub returns : goal.returns
returns c = let f = c.if-n-eq0.false in
    put_as (keys_text_lem c.args.n c.min.result c.args.ks.now c.requires.0 (omega arith) c.min.ensures)
    (put_put (let h = c.requires.1 in omega arith) c.put_key-e.ensures c.put_further_keys.ensures)
