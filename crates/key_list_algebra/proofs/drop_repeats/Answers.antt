use mathlib.Core.Path.{ap, sym, ◌∙◌, subst, fun_ext}
use mathlib.Core.Bool.{Bool}
use mathlib.Core.List.{List, []}
use Prim.Native.Nat.{ℕ}
use Rattle.row_order.specs.Iso.{Key}
use Rattle.semantics.specs.Facts.{nf_by}
use Rattle.column_sets.specs.Bits.{bit_none}
use Rattle.key_lists.specs.Keys.{Keyed, keys_of}
use Rattle.key_list_algebra.specs.Normalising.{repeats_normal}
use Rattle.key_list_algebra.proofs.drop_repeats.Goals as goal

pub returns : goal.returns
returns c = let ks = keys_of c.args.k in
    subst (λ (l : List Key). Keyed l c.fresh_keys.result) (ap (λ (f : ℕ → Bool). nf_by f (λ d. d) [] ks) (fun_ext bit_none) ∙ sym (repeats_normal [] ks))
    c.fresh_keys.ensures
