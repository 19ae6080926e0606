-- Normal forms: they are in normal form, what is in normal form is its own, and they stay in the list's columns. Assumes nothing.
use Rattle.std.specs.Prelude.{◌≡◌, refl, Bool, true, false, cond, ◌||◌, ℕ}
use Rattle.std.proofs.Common.{sym, ap, ap₂, ◌∙◌}
use mathlib.Core.List.{Memᴰ as Mem, List, [], ◌∷◌}
use Rattle.row_order.specs.Iso.{Key}
use Rattle.row_order.specs.Lists.{All, all_nil, all_cons}
use Rattle.row_order.specs.ListLaws.{tabulate}
use Rattle.plan.specs.WellFormed.{member}
use Rattle.semantics.specs.Facts.{with_column, nf_by}
use Rattle.semantics.specs.Canonical.{Normal, n_nil, n_cons}
use Rattle.semantics.proofs.Theorems.Common.Bools.{or_false}

pub nf_normal : (cs : ℕ → Bool) (low : ℕ → ℕ) → ((c : ℕ) → low (low c) ≡ low c) → (seen : List ℕ) (ks : List Key) → Normal cs low seen (nf_by cs low seen ks)
nf_normal cs low idem seen [] = n_nil
nf_normal cs low idem seen (k ∷ ks) = go (cs (low k.col) || member (low k.col) seen) refl (nf_normal cs low idem seen ks)
    (nf_normal cs low idem (low k.col ∷ seen) ks)
  where
    c : ℕ
    c = low k.col

    k' : Key
    k' = with_column c k

    go : (b : Bool) → (cs c || member c seen) ≡ b → Normal cs low seen (nf_by cs low seen ks) → Normal cs low (c ∷ seen) (nf_by cs low (c ∷ seen) ks)
        → Normal cs low seen (cond b (nf_by cs low seen ks) (k' ∷ nf_by cs low (c ∷ seen) ks))
    go true e ih _ = ih
    go false e _ ih = let f = or_false (cs c) (member c seen) e in n_cons (idem k.col) f.0 f.1 ih

-- a key whose column is its class's lowest, neither constant nor seen, stays
stays : (cs : ℕ → Bool) (low : ℕ → ℕ) (k : Key) (seen : List ℕ) (ks : List Key) (c : ℕ) → k.col ≡ c → low c ≡ c → (cs c || member c seen) ≡ false
    → nf_by cs low seen (k ∷ ks) ≡ k ∷ nf_by cs low (c ∷ seen) ks
stays cs low k seen ks c q e f =
    let kc : low k.col ≡ c = ap low q ∙ e in
    ap₂ (λ (d : ℕ) (b : Bool). cond b (nf_by cs low seen ks) (with_column d k ∷ nf_by cs low (d ∷ seen) ks)) (kc ∙ sym q)
    (ap (λ (d : ℕ). cs d || member d seen) kc ∙ f)
    ∙ ap (λ (d : ℕ). k ∷ nf_by cs low (d ∷ seen) ks) q

pub normal_nf : (cs : ℕ → Bool) (low : ℕ → ℕ) {seen : List ℕ} {ks : List Key} → Normal cs low seen ks → nf_by cs low seen ks ≡ ks
normal_nf cs low n_nil = refl
normal_nf cs low (n_cons {seen = seen} {k = k} {ks = ks} a b c h) =
    stays cs low k seen ks k.col refl a (ap₂ ◌||◌ b c) ∙ ap (λ (l : List Key). k ∷ l) (normal_nf cs low h)

-- "a known order is its own normal form": and so is every normal form
pub nf_idem : (cs : ℕ → Bool) (low : ℕ → ℕ) → ((c : ℕ) → low (low c) ≡ low c) → (seen : List ℕ) (ks : List Key) → nf_by cs low seen (nf_by cs low seen ks)
    ≡ nf_by cs low seen ks
nf_idem cs low idem seen ks = normal_nf cs low (nf_normal cs low idem seen ks)

-- what holds of each key, its column replaced by its class's lowest, holds of each key of the normal form
pub nf_all : {P Q : Key → Type 0} (cs : ℕ → Bool) (low : ℕ → ℕ) → ((k : Key) → P k → Q (with_column (low k.col) k)) → (seen : List ℕ) {ks : List Key}
    → All P ks → All Q (nf_by cs low seen ks)
nf_all cs low f seen all_nil = all_nil
nf_all {Q = Q} cs low f seen (all_cons {x = k} {l = ks} p ps) = go (cs c || member c seen) (nf_all cs low f seen ps) (nf_all cs low f (c ∷ seen) ps)
  where
    c : ℕ
    c = low k.col

    go : (b : Bool) → All Q (nf_by cs low seen ks) → All Q (nf_by cs low (c ∷ seen) ks)
        → All Q (cond b (nf_by cs low seen ks) (with_column c k ∷ nf_by cs low (c ∷ seen) ks))
    go true ih _ = ih
    go false _ ih = all_cons (f k p) ih
