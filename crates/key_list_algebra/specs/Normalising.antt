-- The loop that makes a normal form, and the lists that are normal forms by other tables. Assumes nothing.
use Rattle.std.specs.Prelude.{◌≡◌, refl, Bool, true, false, cond, ◌||◌, List, [], ◌∷◌, ℕ, ◌+◌, ◌≤◌, eqb, length}
use Rattle.std.proofs.Common.{ap, ap₂, sym, ◌∙◌, arith}
use Rattle.row_order.specs.Iso.{Key}
use Rattle.row_order.specs.Packed.{bit, key_of}
use Rattle.plan.specs.WellFormed.{member}
use Rattle.semantics.specs.Facts.{Facts, is_c, with_column, nf_by, drop_repeats}
use Rattle.semantics.specs.Properties.{fresh_keys}
use Rattle.column_sets.specs.Sets.{Holding}
use Rattle.key_lists.specs.declared.Keys.{Keys}
use Rattle.key_lists.specs.Keys.{keys_of, Keyed, Tight, Longer}
use Rattle.key_lists.specs.Lists.{length_keys, begun, no_length, Building, rebuilt, grown, built}

-- the loop with the keys l left: the list out so far; the set holds the constants and the columns seen
pub record Normalising (cs : ℕ → Bool) (low : ℕ → ℕ) (ks : List Key) (out : Keys) (set : ℕ) (l : List Key) : Type 0 where
  pub few : out.len + length l ≤ 8
  pub seen : List ℕ
  pub holds : Holding (λ c. cs c || member c seen) set
  pub builds : Building (nf_by cs low [] ks) out (nf_by cs low seen l)

pub none_seen : (a : Bool) → a ≡ a || false
none_seen true = refl
none_seen false = refl

pub swap : (a b c : Bool) → a || (b || c) ≡ b || (a || c)
swap true true c = refl
swap true false c = refl
swap false b c = refl

pub normal_none : (cs : ℕ → Bool) (low : ℕ → ℕ) (k out : Keys) (s : ℕ) (l : List Key) → l ≡ keys_of k → k.len ≤ 8 → Keyed [] out → Tight out
    → ((c : ℕ) → bit s c ≡ cs c) → Normalising cs low (keys_of k) out s l
normal_none cs low k out s l i h e t g =
    let z = no_length out e in
    record {
      few = omega (arith, ap length i, length_keys k.len k.word);
      seen = [];
      holds = λ c. g c ∙ none_seen (cs c);
      builds = rebuilt (ap (nf_by cs low []) (sym i)) (begun _ out e t);
    }

module _ {cs : ℕ → Bool} {low : ℕ → ℕ} {ks : List Key} {out : Keys} {s : ℕ} {l : List Key} (b : Normalising cs low ks out s l) (w : ℕ) (m : List Key)
    (i : l ≡ key_of w ∷ m) (c : ℕ) (e : c ≡ low (key_of w).col) where
  dropped : (x : Bool) → bit s c ≡ x → cs (low (key_of w).col) || member (low (key_of w).col) b.seen ≡ x
  dropped x f = sym (b.holds (low (key_of w).col)) ∙ ap (bit s) (sym e) ∙ f

  pub skipped : bit s c ≡ true → Normalising cs low ks out s m
  skipped f =
      let d : nf_by cs low b.seen l ≡ nf_by cs low b.seen m = rw (i, dropped true f) in
      record { few = omega (arith, b.few, ap length i); seen = b.seen; holds = b.holds; builds = rebuilt d b.builds }

  pub kept : bit s c ≡ false → (t : ℕ) → Holding (λ d. eqb d c || bit s d) t → (x : ℕ) → key_of x ≡ with_column c (key_of w) → (r : Keys) → Longer out x r
      → Normalising cs low ks r t m
  kept f t h x y r g =
      let d : nf_by cs low b.seen l ≡ with_column (low (key_of w).col) (key_of w) ∷ nf_by cs low (low (key_of w).col ∷ b.seen) m = rw (i, dropped false f) in
      record {
        few = omega (arith, b.few, g.len, ap length i);
        seen = low (key_of w).col ∷ b.seen;
        holds = λ a. h a ∙ rw (e, b.holds a) (swap (eqb a (low (key_of w).col)) (cs a) (member a b.seen));
        builds = grown _ out x r (with_column (low (key_of w).col) (key_of w)) (nf_by cs low (low (key_of w).col ∷ b.seen) m)
            (rebuilt d b.builds) g (y ∙ ap (λ c. with_column c (key_of w)) e);
      }

pub normalised : {cs : ℕ → Bool} {low : ℕ → ℕ} {ks : List Key} {out : Keys} {s : ℕ} {l : List Key} → Normalising cs low ks out s l → l ≡ []
    → Keyed (nf_by cs low [] ks) out
normalised {cs} {low} {ks} {out} {s} {l} b e =
    built _ out (omega (arith, b.few)) (rebuilt (ap (nf_by cs low b.seen) e) b.builds)

-- fresh keys are a normal form where each column is alone, and repeats dropped one without constants too
pub fresh_normal : (F : Facts) (seen : List ℕ) (ks : List Key) → fresh_keys F seen ks ≡ nf_by (is_c F) (λ c. c) seen ks
fresh_normal F seen [] = refl
fresh_normal F seen (k ∷ ks) =
    ap₂ (λ l m. cond (is_c F k.col || member k.col seen) l (k ∷ m)) (fresh_normal F seen ks) (fresh_normal F (k.col ∷ seen) ks)

pub repeats_normal : (seen : List ℕ) (ks : List Key) → drop_repeats seen ks ≡ nf_by (λ c. false) (λ c. c) seen ks
repeats_normal seen [] = refl
repeats_normal seen (k ∷ ks) =
    ap₂ (λ l m. cond (member k.col seen) l (k ∷ m)) (repeats_normal seen ks) (repeats_normal (k.col ∷ seen) ks)
