use native.Mathlib.Omega.{arith}
use native.Mathlib.Omega.{arith}
use mathlib.Core.Path.{sym, ap, ap₂, ◌∙◌}
use Prim.Native.Nat.{◌+◌, ◌/◌}
use lib.ListN.{length}
use lib.Seq.{length-take-le}
use Rattle.scan.specs.Bytes.{total}
use Rattle.scan.specs.ByteLaws.{total_parts, cut_end}
use Rattle.scan.proofs.sum.Goals as goal

pub slice_bounds-sum16-end : goal.slice_bounds-sum16-end
slice_bounds-sum16-end c = let s = c.args.s.now in sym (length-take-le (length s / 2) s (omega arith))

pub sum16-a-requires : goal.sum16-a-requires
sum16-a-requires c = let s = c.args.s.now in let p = c.requires in let z = length-take-le (length s / 2) s (omega arith) in
    omega arith

pub returns : goal.returns
returns c = let s = c.args.s.now in
    ap₂ ◌+◌ c.sum16-a.ensures (c.sum16-b.ensures ∙ ap total (cut_end s (length s / 2))) ∙ total_parts s (length s / 2)
