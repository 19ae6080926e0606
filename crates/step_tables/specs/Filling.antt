-- The open streams, filled from the last node to the first. Assumes nothing.
use Rattle.std.specs.Prelude.{◌≡◌, refl, Bool, true, false, cond, ◌||◌, ◌⊎◌, List, [], ◌∷◌, ◌++◌, ℕ, zero, suc, ◌+◌, ◌-◌, ◌<◌, ◌≤◌, length, get_or, set, take, drop, replicate}
use Rattle.std.proofs.Common.{sym, ap, ap₂, ◌∙◌, inl, inr, append_assoc, arith, add-one, length-append, length-set, length-take-le, take-append-drop, drop-cons, get_or-set_same, get_or-set_other}
use Rattle.std.proofs.lemmas.List.{set_at, length-replicate, replicate_more}
use Rattle.std.proofs.Math.Decide.{dec_lt}
use Rattle.step_tables.specs.Choosing.{live_at, any_from, chosen_from}

-- s flags from place a on are set
abbrev pub write_tab : ℕ → (ℕ → Bool) → ℕ → List Bool → List Bool
write_tab a p zero fl = fl
write_tab a p (suc s) fl = set (write_tab a p s fl) (a + s) (p s)

pub length_write : (a : ℕ) (p : ℕ → Bool) (s : ℕ) (fl : List Bool) → length (write_tab a p s fl) ≡ length fl
length_write a p zero fl = refl
length_write a p (suc s) fl = length-set (write_tab a p s fl) (a + s) (p s) ∙ length_write a p s fl

pub write_else : (a : ℕ) (p : ℕ → Bool) (s : ℕ) (fl : List Bool) (x : ℕ) → (x < a) ⊎ (a + s ≤ x) → get_or (write_tab a p s fl) x false ≡ get_or fl x false
write_else a p zero fl x h = refl
write_else a p (suc s) fl x h =
    get_or-set_other (write_tab a p s fl) (a + s) x (p s) false (λ e. off h e) ∙ write_else a p s fl x (less h)
  where
    off : (x < a) ⊎ (a + suc s ≤ x) → x ≡ a + s → ⊥
    off (inl l) e = omega arith
    off (inr l) e = omega arith

    less : (x < a) ⊎ (a + suc s ≤ x) → (x < a) ⊎ (a + s ≤ x)
    less (inl l) = inl l
    less (inr l) = inr (omega arith)

pub write_here : (a : ℕ) (p : ℕ → Bool) (s : ℕ) (fl : List Bool) (k : ℕ) → k < s → a + s ≤ length fl → get_or (write_tab a p s fl) (a + k) false ≡ p k
write_here a p zero fl k h f = absurd (omega arith)
write_here a p (suc s) fl k h f = go (dec_lt k s) (λ l. write_here a p s fl k l (omega arith))
  where
    go : Dec (k < s) → (k < s → get_or (write_tab a p s fl) (a + k) false ≡ p k) → get_or (set (write_tab a p s fl) (a + s) (p s)) (a + k) false ≡ p k
    go (yes l) i = get_or-set_other (write_tab a p s fl) (a + s) (a + k) (p s) false (λ e. omega arith) ∙ i l
    go (no n) i = let e : k ≡ s = omega arith in ap (λ (j : ℕ). get_or (set (write_tab a p s fl) (a + s) (p s)) (a + j) false) e
        ∙ get_or-set_same (write_tab a p s fl) (a + s) (p s) false (omega (arith, length_write a p s fl)) ∙ ap p (sym e)

-- The same flag s times
pub write_same : (a : ℕ) (v : Bool) (s : ℕ) (fl : List Bool) → a + s ≤ length fl → take a fl ++ (replicate s v ++ drop (a + s) fl) ≡ write_tab a (λ k. v) s fl
write_same a v zero fl h = let e : a + 0 ≡ a = omega arith in ap (λ (k : ℕ). take a fl ++ drop k fl) e ∙ take-append-drop a fl
write_same a v (suc s) fl h =
    let i : a + suc s ≡ suc (a + s) = omega arith in
    let k : suc s ≡ s + 1 = omega arith in
    let long : length (take a fl ++ replicate s v) ≡ a + s = omega (arith, length-append (take a fl) (replicate s v), length-take-le a fl (omega arith), length-replicate s v) in
    ap₂ (λ (x y : List Bool). take a fl ++ (x ++ y)) (ap (λ (n : ℕ). replicate n v) k ∙ sym (replicate_more s v)) (ap (λ (n : ℕ). drop n fl) i)
    ∙ ap (λ (x : List Bool). take a fl ++ x) (append_assoc (replicate s v) (v ∷ []) (drop (suc (a + s)) fl))
    ∙ sym (append_assoc (take a fl) (replicate s v) (v ∷ drop (suc (a + s)) fl))
    ∙ sym (set_at (take a fl ++ replicate s v) (get_or fl (a + s) false) (drop (suc (a + s)) fl) v (a + s) long)
    ∙ ap (λ (x : List Bool). set x (a + s) v) (append_assoc (take a fl) (replicate s v) (get_or fl (a + s) false ∷ drop (suc (a + s)) fl)
    ∙ ap (λ (x : List Bool). take a fl ++ (replicate s v ++ x)) (sym (drop-cons fl (a + s) false (omega arith))) ∙ write_same a v s fl (omega arith))

-- What a node's output stream k gets: its input's flag, or that of all its inputs; g, n: its inputs; w: whether a row waits at a place
abbrev pub out_flag : Bool → List Bool → (ℕ → Bool) → ℕ → ℕ → ℕ → Bool
out_flag straight fl w g n k = cond straight (live_at fl w (g + k)) (any_from (live_at fl w) g n)

abbrev pub fill_node : Bool → ℕ → ℕ → ℕ → ℕ → (ℕ → Bool) → List Bool → List Bool
fill_node straight a s g n w fl = write_tab a (out_flag straight fl w g n) s fl

-- ---- the loops
pub write_start : (a : ℕ) (p : ℕ → Bool) (fl : List Bool) → fl ≡ write_tab a p 0 fl
write_start a p fl = refl

pub write_next : (a : ℕ) (p : ℕ → Bool) (i : ℕ) (fl m : List Bool) (t : Bool) → m ≡ write_tab a p i fl → t ≡ p i → set m (a + i) t ≡ write_tab a p (i + 1) fl
write_next a p i fl m t e f = ap₂ (λ q b. set q (a + i) b) e f ∙ ap (λ (k : ℕ). write_tab a p k fl) (sym (add-one i))

pub write_end : (a : ℕ) (p : ℕ → Bool) (i s : ℕ) (fl m : List Bool) → i ≡ s → m ≡ write_tab a p i fl → m ≡ write_tab a p s fl
write_end a p i s fl m h e = e ∙ ap (λ (k : ℕ). write_tab a p k fl) h

-- the inputs stand behind the outputs, so they are as they were
pub live_kept : (a i g x : ℕ) (p : ℕ → Bool) (fl m : List Bool) (w : ℕ → Bool) (t : Bool) → m ≡ write_tab a p i fl → a + i ≤ x → t ≡ live_at m w x → t ≡ live_at fl w x
live_kept a i g x p fl m w t e h f =
    f ∙ ap (λ (b : Bool). b || w x) (ap (λ q. get_or q x false) e ∙ write_else a p i fl x (inr h))

pub fill_straight : (a s g n : ℕ) (fl m : List Bool) (w : ℕ → Bool) (t : Bool) → t ≡ true → m ≡ write_tab a (λ k. live_at fl w (g + k)) s fl → m ≡ fill_node t a s g n w fl
fill_straight a s g n fl m w t h e = e ∙ ap (λ (b : Bool). fill_node b a s g n w fl) (sym h)

pub fill_rest : (a s g n : ℕ) (fl m : List Bool) (w : ℕ → Bool) (t v : Bool) → t ≡ false → v ≡ any_from (live_at fl w) g n → m ≡ write_tab a (λ k. v) s fl → m ≡ fill_node t a s g n w fl
fill_rest a s g n fl m w t v h e f = f ∙ ap (λ (b : Bool). write_tab a (λ k. b) s fl) e ∙ ap (λ (b : Bool). fill_node b a s g n w fl) (sym h)

-- ---- the numbers that pass a test: counted, and the j-th
module _ (p : ℕ → Bool) (n : ℕ) where
  abbrev pub Counted : ℕ → ℕ → Type 0
  Counted i k = k + length (chosen_from p i (n - i)) ≡ length (chosen_from p 0 n)

  abbrev pub Sought : ℕ → ℕ → ℕ → Type 0
  Sought j i left = get_or (chosen_from p i (n - i)) left 0 ≡ get_or (chosen_from p 0 n) j 0

  pub counted_none : Counted 0 0
  counted_none = let b : n - 0 ≡ n = omega arith in let z = ap (λ (k : ℕ). length (chosen_from p 0 k)) b in omega (arith, z)

  pub sought_none : (j : ℕ) → Sought j 0 j
  sought_none j = let b : n - 0 ≡ n = omega arith in ap (λ (k : ℕ). get_or (chosen_from p 0 k) j 0) b

  module _ (i : ℕ) (h : i < n) where
    turn : chosen_from p i (n - i) ≡ cond (p i) (i ∷ chosen_from p (i + 1) (n - (i + 1))) (chosen_from p (i + 1) (n - (i + 1)))
    turn =
        let a : n - i ≡ suc (n - (i + 1)) = omega arith in
        ap (chosen_from p i) a ∙ ap (λ (x : ℕ). cond (p i) (i ∷ chosen_from p x (n - (i + 1))) (chosen_from p x (n - (i + 1)))) (sym (add-one i))

    turn_yes : (t : Bool) → t ≡ p i → t ≡ true → chosen_from p i (n - i) ≡ i ∷ chosen_from p (i + 1) (n - (i + 1))
    turn_yes t e f = turn ∙ ap (λ (b : Bool). cond b (i ∷ chosen_from p (i + 1) (n - (i + 1))) (chosen_from p (i + 1) (n - (i + 1)))) (sym e ∙ f)

    turn_no : (t : Bool) → t ≡ p i → t ≡ false → chosen_from p i (n - i) ≡ chosen_from p (i + 1) (n - (i + 1))
    turn_no t e f = turn ∙ ap (λ (b : Bool). cond b (i ∷ chosen_from p (i + 1) (n - (i + 1))) (chosen_from p (i + 1) (n - (i + 1)))) (sym e ∙ f)

    pub counted_yes : (k : ℕ) (t : Bool) → Counted i k → t ≡ p i → t ≡ true → Counted (i + 1) (k + 1)
    counted_yes k t c e f = let z = ap length (turn_yes t e f) in omega (arith, c, z)

    pub counted_no : (k : ℕ) (t : Bool) → Counted i k → t ≡ p i → t ≡ false → Counted (i + 1) k
    counted_no k t c e f = let z = ap length (turn_no t e f) in omega (arith, c, z)

    pub sought_here : (j left : ℕ) (t : Bool) → Sought j i left → t ≡ p i → t ≡ true → left ≡ 0 → i ≡ get_or (chosen_from p 0 n) j 0
    sought_here j left t s e f z =
        sym (ap (λ q. get_or q 0 0) (turn_yes t e f)) ∙ ap (λ (k : ℕ). get_or (chosen_from p i (n - i)) k 0) (sym z) ∙ s

    pub sought_yes : (j left : ℕ) (t : Bool) → Sought j i left → t ≡ p i → t ≡ true → 0 < left → Sought j (i + 1) (left - 1)
    sought_yes j left t s e f z =
        let y : suc (left - 1) ≡ left = omega arith in
        sym (ap (λ q. get_or q (suc (left - 1)) 0) (turn_yes t e f)) ∙ ap (λ (k : ℕ). get_or (chosen_from p i (n - i)) k 0) y ∙ s

    pub sought_no : (j left : ℕ) (t : Bool) → Sought j i left → t ≡ p i → t ≡ false → Sought j (i + 1) left
    sought_no j left t s e f = sym (ap (λ q. get_or q left 0) (turn_no t e f)) ∙ s

  pub counted_end : (i k : ℕ) → i ≡ n → Counted i k → k ≡ length (chosen_from p 0 n)
  counted_end i k h c = let b : n - i ≡ 0 = omega arith in let z = ap (λ (x : ℕ). length (chosen_from p i x)) b in omega (arith, c, z)

  pub sought_end : (i j left : ℕ) → i ≡ n → Sought j i left → 0 ≡ get_or (chosen_from p 0 n) j 0
  sought_end i j left h s = let b : n - i ≡ 0 = omega arith in sym (ap (λ (x : ℕ). get_or (chosen_from p i x) left 0) b) ∙ s
