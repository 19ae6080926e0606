use native.Mathlib.Omega.{arith}
use Prim.Native.Nat.{ℕ}
use mathlib.Core.Path.{◌≡◌, sym, ap, ◌∙◌}
use mathlib.Core.Bool.{true}
use mathlib.Core.List.{List, []}
use lib.ListN.{length, get_or, take}
use lib.Seq.{length-take-le}
use Rattle.scan.specs.Below.{all_none}
use Rattle.plan_format.specs.LastPass.{columns_ok, column_ok, key_columns}
use Rattle.column_rules.proofs.keys_below.Goals as goal

none-listed : (limit : ℕ) → true ≡ columns_ok [] limit
unfolding columns_ok
none-listed limit = sym (all_none (column_ok [] limit))

pub returns-then-n-eq0 : goal.returns-then-n-eq0
returns-then-n-eq0 c = let r = c.args.r.now in let limit = c.args.limit in
    none-listed limit ∙ ap (λ (n : ℕ). columns_ok (take n (key_columns r)) limit) (sym c.if-n-eq0.true)

pub slice_bounds-list_ok-end : goal.slice_bounds-list_ok-end
slice_bounds-list_ok-end c = let h = c.requires in let l = ap length c.key_columns-ks.ensures in
    sym (length-take-le (get_or c.args.r.now 12 0) c.key_columns-ks.result (omega arith))

pub returns : goal.returns
returns c = c.list_ok.ensures ∙ ap (λ (l : List ℕ). columns_ok (take (get_or c.args.r.now 12 0) l) c.args.limit)
    c.key_columns-ks.ensures
