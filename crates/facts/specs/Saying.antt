-- What a struct that is made of a table, a set and a key list says: one rule for every kind of node. Assumes nothing.
use Rattle.std.specs.Prelude.{◌≡◌, refl, Bool, true, false, cond, ◌&&◌, List, [], ◌∷◌, ℕ, zero, suc, ◌+◌, ◌-◌, ◌/◌, ◌^◌, ◌≤◌, ◌<◌, eqb, ltb, take}
use Rattle.std.proofs.Common.{ap, ap₂, sym, ◌∙◌, subst, arith, pow_pos, shr-shr, eqb-true, ltb-false, lt-ltb, le-ltb}
use Rattle.std.proofs.Math.Nat.{div-eq_of_lt}
use Rattle.row_order.specs.Iso.{Key}
use Rattle.row_order.specs.Packed.{bit}
use Rattle.row_order.specs.Lists.{tab}
use Rattle.plan.specs.WellFormed.{set_fits}
use Rattle.semantics.specs.Facts.{cl, ordered, unknown, source_facts, lowest, both, common}
use Rattle.semantics.proofs.Theorems.Common.Lowest.{lowest_le}
use Rattle.column_sets.specs.Sets.{Holding, below}
use Rattle.column_sets.specs.Bits.{bit_none}
use Rattle.class_tables.specs.Tables.{Filled, union_low}
use Rattle.class_tables.specs.Filling.{filled_alone, filled_down, filled_tab}
use Rattle.key_lists.specs.declared.Keys.{Keys}
use Rattle.key_lists.specs.Keys.{Keyed}
use Rattle.facts.specs.declared.Facts.{Facts as Coded}
use Rattle.facts.specs.Known.{known, Coherent, Says}
use Rattle.facts.specs.Reading.{cl_is}

tab_ext : {A : Type 0} (n : ℕ) (f g : ℕ → A) → ((c : ℕ) → c < n → f c ≡ g c) → tab n f ≡ tab n g
tab_ext zero f g h = refl
tab_ext (suc n) f g h =
    ap₂ ◌∷◌ (h zero (omega arith)) (tab_ext n (λ i. f (suc i)) (λ i. g (suc i)) (λ c l. h (suc c) (omega arith)))

-- the table holds g, the set p, both below w
pub says : (w n s : ℕ) (t : List ℕ) (o : Keys) (g : ℕ → ℕ) (p : ℕ → Bool) (ks : List Key) → w ≤ 32 → Filled w g t → ((c : ℕ) → c < w → g c ≤ c)
    → Holding (below w p) s → Keyed ks o
    → Says (record { width = w; streams = n; consts = tab w p; cls = tab w g; order = ks })
    (record { width = w; streams = n; consts = s; low = t; order = o })
says w n s t o g p ks l h d e k =
    let q : tab w (bit s) ≡ tab w p = tab_ext w (bit s) p (λ c m. e c ∙ rw (lt-ltb c w m)) in
    let r : take w t ≡ tab w g = filled_tab w g t h l in
    record {
      is = λ i. record { width = w; streams = n; consts = q i; cls = r i; order = k.is i };
      fine =
          record {
            wide = l;
            long = h.long;
            alone = filled_alone w g t h;
            down = filled_down w g t h d;
            none = λ c m. e c ∙ rw (le-ltb c w m);
            few = k.few;
          };
    }

-- other streams and another order over the same table and set
pub says-ordered : (f : Coded) (n : ℕ) (o : Keys) (ks : List Key) → Coherent f → Keyed ks o
    → Says (ordered (known f) n ks) (record { width = f.width; streams = n; consts = f.consts; low = f.low; order = o })
says-ordered f n o ks h k =
    record {
      is = λ i. record { width = f.width; streams = n; consts = (known f).consts; cls = (known f).cls; order = k.is i };
      fine = record { wide = h.wide; long = h.long; alone = h.alone; down = h.down; none = h.none; few = k.few };
    }

-- each column alone in its class, as a table of any width
pub alone_any : (w : ℕ) (t : List ℕ) → Filled 0 (λ c. c) t → Filled w (λ c. c) t
alone_any w t h = record { long = h.long; is = λ c. filled_alone 0 (λ d. d) t h c (omega arith) ∙ go c (ltb c w) }
  where
    go : (c : ℕ) (b : Bool) → c ≡ cond b c c
    go c true = refl
    go c false = refl

none_below : (w : ℕ) → Holding (below w (λ c. false)) 0
none_below w c = bit_none c ∙ go (ltb c w)
  where
    go : (b : Bool) → false ≡ b && false
    go true = refl
    go false = refl

pub says-unknown : (w : ℕ) (t : List ℕ) (o : Keys) → w ≤ 32 → Filled 0 (λ c. c) t → Keyed [] o
    → Says (unknown w) (record { width = w; streams = 0; consts = 0; low = t; order = o })
says-unknown w t o l h k = says w 0 0 t o (λ c. c) (λ c. false) [] l (alone_any w t h) (λ c m. omega arith) (none_below w) k

-- a set that fits holds nothing from the width on
pub fits_none : (w s : ℕ) → set_fits w s ≡ true → (c : ℕ) → w ≤ c → bit s c ≡ false
fits_none w s e c l =
    let z : s / 2 ^ w ≡ 0 = eqb-true (s / 2 ^ w) 0 e in
    let y : s / 2 ^ c ≡ 0 = ap (λ k. s / 2 ^ k) (let x : c ≡ w + (c - w) = omega arith in x) ∙ sym (shr-shr s w (c - w)) ∙ ap (λ k. k / 2 ^ (c - w)) z
    ∙ div-eq_of_lt (pow_pos (c - w)) in
    rw y

pub says_source : (w n s : ℕ) (t : List ℕ) (o : Keys) → w ≤ 32 → set_fits w s ≡ true → Filled 0 (λ c. c) t → Keyed [] o
    → Says (source_facts w n s) (record { width = w; streams = n; consts = s; low = t; order = o })
says_source w n s t o l e h k = says w n s t o (λ c. c) (bit s) [] l (alone_any w t h) (λ c m. omega arith) (λ c. go c (ltb c w) refl) k
  where
    go : (c : ℕ) (b : Bool) → ltb c w ≡ b → bit s c ≡ b && bit s c
    go c true x = refl
    go c false x = fits_none w s e c (ltb-false c w x)

pub says_both : (a b : Coded) (t : List ℕ) (o : Keys) → Coherent a → Coherent b → Filled a.width (union_low a.low b.low) t
    → Keyed (common (known a).order (known b).order) o
    → Says (both (known a) (known b)) (record { width = a.width; streams = a.streams + b.streams; consts = 0; low = t; order = o })
says_both a b t o f g h k =
    let low : (ℕ → ℕ) → (ℕ → ℕ) → ℕ → ℕ = λ x y k. lowest (λ i. eqb (x i) (x k) && eqb (y i) (y k)) k in
    let e : union_low a.low b.low ≡ low (cl (known a)) (cl (known b)) = ap₂ low (cl_is a f) (cl_is b g) in
    says a.width (a.streams + b.streams) 0 t o _ (λ k. false) _ f.wide (subst (λ k. Filled a.width k t) e h) (λ k l. lowest_le _ k)
    (none_below a.width) k
