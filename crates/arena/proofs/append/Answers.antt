use mathlib.Core.Path.{◌∙◌}
use Prim.Native.Nat.{ℕ}
use Rattle.arena.specs.Held.{appended_by, gap}
use Rattle.arena.proofs.append.Goals as goal

pub returns : goal.returns
returns c = let m = c.args.m.now in
    let u : ℕ = c.args.u in
    let p = c.put_numbers in
    let e = c.copy.ensures ∙ c.read64-row.ensures in
    appended_by m u _ _ c.copy.new.d c.requires e p.new.d p.ensures.0 (p.auto.d ∙ gap m u _ _ c.copy.new.d c.requires e) p.ensures.1
