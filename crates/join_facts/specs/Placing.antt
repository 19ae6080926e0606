-- A side's table and set at its place in the join, and both sides'. Assumes nothing.
use Rattle.std.specs.Prelude.{◌≡◌, refl, Bool, true, false, cond, ◌&&◌, ◌||◌, List, ℕ, ◌+◌, ◌-◌, ◌≤◌, ltb, leb}
use Rattle.std.proofs.Common.{ap₂, sym, ◌∙◌, subst, arith, ltb-true, ltb-false, lt-ltb, le-leb}
use Rattle.std.proofs.lemmas.Bool.{lt-leb}
use Rattle.row_order.specs.Packed.{bit}
use Rattle.semantics.specs.Facts.{cl, is_c, placed, shifted, beside}
use Rattle.column_sets.specs.Sets.{Holding, below}
use Rattle.class_tables.specs.Tables.{at, Filled, beside_low}
use Rattle.class_tables.specs.Filling.{filled_self, filled_alone, refilled}
use Rattle.facts.specs.declared.Facts.{Facts as Coded}
use Rattle.facts.specs.Known.{known, Coherent, Says}
use Rattle.facts.specs.Reading.{classes, constants, cl_is, own_order}
use Rattle.facts.specs.Saying.{says}
use Rattle.scan.specs.Below.{and_false, or_false}

module _ (f : Coded) (h : Coherent f) where
  -- each class is no higher than its column
  cl-down : (c : ℕ) → cl (known f) c ≤ c
  cl-down c = rw (classes f h c) (h.down c)

  -- ---- the left side, before n columns
  module _ (n : ℕ) (l : f.width + n ≤ 32) where
    here : (c : ℕ) → cond (ltb c f.width) (cl (known f) c) c ≡ at f.low c
    here c = go (ltb c f.width) refl
      where
        go : (b : Bool) → ltb c f.width ≡ b → cond b (cl (known f) c) c ≡ at f.low c
        go true e = classes f h c
        go false e = sym (h.alone c (ltb-false c f.width e))

    held : Holding (below (f.width + n) (λ c. ltb c f.width && is_c (known f) c)) f.consts
    held c = go (ltb c f.width) refl
      where
        go : (b : Bool) → ltb c f.width ≡ b → bit f.consts c ≡ ltb c (f.width + n) && (b && is_c (known f) c)
        go true e = rw (lt-ltb c (f.width + n) (let m = ltb-true c f.width e in omega arith)) (sym (constants f h c))
        go false e = h.none c (ltb-false c f.width e) ∙ sym (and_false (ltb c (f.width + n)) false refl)

    pub says-placed : Says (placed (known f) n) (record { width = f.width + n; streams = f.streams; consts = f.consts; low = f.low; order = f.order })
    says-placed =
        says (f.width + n) f.streams f.consts f.low f.order (λ c. cond (ltb c f.width) (cl (known f) c) c)
        (λ c. ltb c f.width && is_c (known f) c) (known f).order l
        (filled_self _ (f.width + n) f.low h.long (λ c m. h.alone c (omega arith)) (λ c m. here c)) (λ c m. rw (here c) (h.down c)) held
        (own_order f h)

  -- ---- the right side, behind w columns
  module _ (w : ℕ) (l : w + f.width ≤ 32) where
    -- its set, moved up
    pub moved_held : (c s : ℕ) → bit s c ≡ ltb c 32 && (leb w c && bit f.consts (c - w)) → bit s c ≡ below (w + f.width)
        (λ c. leb w c && is_c (known f) (c - w)) c
    moved_held c s e = e ∙ rw (constants f h (c - w)) (go (ltb c (w + f.width)) refl (ltb c w) refl)
      where
        go : (p : Bool) → ltb c (w + f.width) ≡ p → (q : Bool) → ltb c w ≡ q → ltb c 32 && (leb w c && bit f.consts (c - w)) ≡ p
            && (leb w c && bit f.consts (c - w))
        go true x q y = rw (lt-ltb c 32 (let m = ltb-true c (w + f.width) x in omega arith))
        go false x q y =
            let m = ltb-false c (w + f.width) x in
            rw (h.none (c - w) (omega arith), and_false (leb w c) false refl) (and_false (ltb c 32) false refl)

    pub says-shifted : (left t : List ℕ) (s : ℕ) → Filled 0 (λ c. c) left → Filled (w + f.width) (beside_low left f.low w) t
        → Holding (λ c. ltb c 32 && (leb w c && bit f.consts (c - w))) s
        → Says (shifted w (known f)) (record { width = w + f.width; streams = f.streams; consts = s; low = t; order = f.order })
    says-shifted left t s a b e =
        says (w + f.width) f.streams s t f.order (λ c. cond (leb w c) (w + cl (known f) (c - w)) c) (λ c. leb w c && is_c (known f) (c - w))
        (known f).order l
        (refilled (w + f.width) (beside_low left f.low w) _ t (λ c m. turn c (ltb c w) refl) b) (λ c m. down c (ltb c w) refl)
        (λ c. moved_held c s (e c)) (own_order f h)
      where
        turn : (c : ℕ) (b : Bool) → ltb c w ≡ b → cond b (at left c) (w + at f.low (c - w)) ≡ cond (leb w c) (w + cl (known f) (c - w)) c
        turn c true x = rw (lt-leb w c (ltb-true c w x)) (filled_alone 0 (λ d. d) left a c (omega arith))
        turn c false x = rw (le-leb w c (ltb-false c w x), classes f h (c - w))

        down : (c : ℕ) (b : Bool) → ltb c w ≡ b → cond (leb w c) (w + cl (known f) (c - w)) c ≤ c
        down c true x = rw (lt-leb w c (ltb-true c w x)) (omega arith)
        down c false x = let m = ltb-false c w x in rw (le-leb w c m) (let d = cl-down (c - w) in omega arith)

-- ---- both sides
module _ (a b : Coded) (f : Coherent a) (g : Coherent b) (l : a.width + b.width ≤ 32) where
  pub says-beside : (t : List ℕ) (m s : ℕ) → Filled (a.width + b.width) (beside_low a.low b.low a.width) t
      → Holding (λ c. ltb c 32 && (leb a.width c && bit b.consts (c - a.width))) m → Holding (λ c. bit a.consts c || bit m c) s
      → Says (beside (known a) (known b)) (record { width = a.width + b.width; streams = a.streams; consts = s; low = t; order = a.order })
  says-beside t m s h e d =
      let low : (ℕ → ℕ) → (ℕ → ℕ) → ℕ → ℕ = λ x y c. cond (ltb c a.width) (x c) (a.width + y (c - a.width)) in
      let p : beside_low a.low b.low a.width ≡ low (cl (known a)) (cl (known b)) = ap₂ low (cl_is a f) (cl_is b g) in
      says (a.width + b.width) a.streams s t a.order _ (λ c. cond (ltb c a.width) (is_c (known a) c) (is_c (known b) (c - a.width))) _ l
      (subst (λ x. Filled (a.width + b.width) x t) p h) (λ c k. down c (ltb c a.width) refl)
      (λ c. d c ∙ rw (moved_held b g a.width l c m (e c)) (held c (ltb c a.width) refl)) (own_order a f)
    where
      down : (c : ℕ) (x : Bool) → ltb c a.width ≡ x → cond x (cl (known a) c) (a.width + cl (known b) (c - a.width)) ≤ c
      down c true x = cl-down a f c
      down c false x = let k = ltb-false c a.width x in let y = cl-down b g (c - a.width) in omega arith

      held : (c : ℕ) (x : Bool) → ltb c a.width ≡ x
          → bit a.consts c || (ltb c (a.width + b.width) && (leb a.width c && is_c (known b) (c - a.width))) ≡ ltb c (a.width + b.width)
          && cond x (is_c (known a) c) (is_c (known b) (c - a.width))
      held c true x =
          let k = ltb-true c a.width x in
          rw (lt-leb a.width c k, lt-ltb c (a.width + b.width) (omega arith), constants a f c) (or_false (bit a.consts c))
      held c false x = let k = ltb-false c a.width x in rw (f.none c k, le-leb a.width c k)
