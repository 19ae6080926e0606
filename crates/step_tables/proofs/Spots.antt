-- The node that moves, in its place: the j-th entry of `moves` is one node's own moves, put back into the forest. Assumes nothing.
use Rattle.std.specs.Prelude.{◌≡◌, refl, Bool, true, false, cond, not, List, [], ◌∷◌, ◌++◌, map, ℕ, zero, suc, ◌+◌, ◌-◌, ◌<◌, ◌≤◌, length, get_or}
use Rattle.std.proofs.Common.{sym, ap, ap₂, ◌∙◌, subst, arith, length-append, get_or-append-add}
use Rattle.std.proofs.Math.Decide.{dec_lt}
use Rattle.std.proofs.lemmas.List.{length-map}
use Rattle.row_order.specs.Lists.{concat}
use Rattle.plan.specs.Forest.{Forest, none, tree, roots, size}
use Rattle.plan.specs.Op.{Op, Plan}
use Rattle.semantics.specs.Facts.{Facts, is_nil, facts_op, facts}
use Rattle.stepping.specs.Outlets.{Outlet, inputs}
use Rattle.stepping.specs.Moves.{manner, opens, choices, States, sent, take_by, own_moves, inside, moves}
use Rattle.step_tables.specs.Places.{total, inner, Tables, Shows, shows_none, shows_tree}

-- A node: its number, that of the node above it, the first places of its outputs and inputs; its operator, its children and what stands right of
-- it, and of each of them the state
pub record Spot : Type 0 where
  pub number : ℕ
  pub above : ℕ
  pub out : ℕ
  pub inp : ℕ
  pub op : Op
  pub kids : Plan
  pub rest : Plan
  pub outlet : Outlet
  pub sub : Forest Outlet
  pub right : Forest Outlet

-- It stands in a forest; p, n, a, b as in `nodes_at`
pub data Stands : ℕ → ℕ → ℕ → ℕ → Plan → Forest Outlet → Spot → Type 0 where
  stands_here : {p n a b : ℕ} {o : Op} {c r : Plan} {d : Outlet} {sc sr : Forest Outlet} →
      Stands p n a b (tree o c r) (tree d sc sr)
      (record { number = n; above = p; out = a; inp = b; op = o; kids = c; rest = r; outlet = d; sub = sc; right = sr })
  stands_below : {p n a b : ℕ} {o : Op} {c r : Plan} {d : Outlet} {sc sr : Forest Outlet} {s : Spot} →
      Stands n (suc n) b (b + total (facts c)) c sc s → Stands p n a b (tree o c r) (tree d sc sr) s
  stands_beside : {p n a b : ℕ} {o : Op} {c r : Plan} {d : Outlet} {sc sr : Forest Outlet} {s : Spot} →
      Stands p (suc n + size c) (a + (facts_op o (facts c)).streams) (b + total (facts c) + inner c) r sr s → Stands p n a b (tree o c r) (tree d sc sr) s

-- The forest with x in its place, from that node on
abbrev pub put_back : {p n a b : ℕ} {f : Plan} {st : Forest Outlet} {s : Spot} → Stands p n a b f st s → Forest Outlet → Forest Outlet
put_back stands_here x = x
put_back (stands_below {d = d} {sr = sr} h) x = tree d (put_back h x) sr
put_back (stands_beside {d = d} {sc = sc} h) x = tree d sc (put_back h x)

abbrev pub choices_of : Spot → List ℕ
choices_of s = choices (manner s.op (facts s.kids)) (concat (opens s.kids s.sub)) (inputs (facts s.kids) (roots s.sub))

-- The states after each choice of an input stream, by the choices of an output stream
abbrev pub moves_by : Spot → List ℕ → List States
moves_by s l = map (λ i. sent s.op s.outlet s.right i (take_by (manner s.op (facts s.kids)) (facts s.kids) i s.sub)) l

-- ---- which nodes can move, in node order, and their numbers from k on
abbrev pub can : Plan → Forest Outlet → List Bool
can none st = []
can (tree o c r) none = []
can (tree o c r) (tree d sc sr) =
    not (is_nil (choices (manner o (facts c)) (concat (opens c sc)) (inputs (facts c) (roots sc)))) ∷ (can c sc ++ can r sr)

abbrev pub numbers_from : ℕ → List Bool → List ℕ
numbers_from k [] = []
numbers_from k (b ∷ l) = cond b (k ∷ numbers_from (suc k) l) (numbers_from (suc k) l)

pub numbers_append : (k : ℕ) (l m : List Bool) → numbers_from k (l ++ m) ≡ numbers_from k l ++ numbers_from (k + length l) m
numbers_append k [] m = let e : k ≡ k + 0 = omega arith in ap (λ (x : ℕ). numbers_from x m) e
numbers_append k (b ∷ l) m = go b (numbers_append (suc k) l m ∙ (let e : suc k + length l ≡ k + suc (length l) = omega arith in
    ap (λ (x : ℕ). numbers_from (suc k) l ++ numbers_from x m) e))
  where
    go : (t : Bool) → numbers_from (suc k) (l ++ m) ≡ numbers_from (suc k) l ++ numbers_from (k + suc (length l)) m →
        cond t (k ∷ numbers_from (suc k) (l ++ m)) (numbers_from (suc k) (l ++ m)) ≡
        cond t (k ∷ numbers_from (suc k) l) (numbers_from (suc k) l) ++ numbers_from (k + suc (length l)) m
    go true e = ap (λ q. k ∷ q) e
    go false e = e

numbers_own : (k : ℕ) (o : Op) (fs : List Facts) (d : Outlet) (c r : Forest Outlet) (l : List ℕ) (m : List Bool) →
    length (numbers_from k (not (is_nil l) ∷ m)) ≡ length (own_moves o fs d c r l) + length (numbers_from (suc k) m)
numbers_own k o fs d c r [] m = omega arith
numbers_own k o fs d c r (i ∷ l) m = omega arith

pub can-moves : (k : ℕ) (f : Plan) (st : Forest Outlet) → length (numbers_from k (can f st)) ≡ length (moves f st)
can-moves k none st = refl
can-moves k (tree o c r) none = refl
can-moves k (tree o c r) (tree d sc sr) =
    numbers_own k o (facts c) d sc sr ch (can c sc ++ can r sr)
    ∙ ap (λ (x : ℕ). length (own_moves o (facts c) d sc sr ch) + x)
    (ap length (numbers_append (suc k) (can c sc) (can r sr)) ∙ length-append (numbers_from (suc k) (can c sc)) (numbers_from (suc k + length (can c sc)) (can r sr))
    ∙ ap₂ ◌+◌ (can-moves (suc k) c sc ∙ sym (length-map (moves c sc) (map (map (λ x. tree d x sr)))))
    (can-moves (suc k + length (can c sc)) r sr ∙ sym (length-map (moves r sr) (map (map (λ x. tree d sc x)))))
    ∙ sym (length-append (inside (λ x. tree d x sr) (moves c sc)) (inside (λ x. tree d sc x) (moves r sr))))
    ∙ sym (length-append (own_moves o (facts c) d sc sr ch) (inside (λ x. tree d x sr) (moves c sc) ++ inside (λ x. tree d sc x) (moves r sr)))
  where
    ch : List ℕ
    ch = choices (manner o (facts c)) (concat (opens c sc)) (inputs (facts c) (roots sc))

pub can-size : {T : Tables} {n a b : ℕ} {f : Plan} {st : Forest Outlet} → Shows T n a b f st → length (can f st) ≡ size f
can-size shows_none = refl
can-size (shows_tree {c = c} {r = r} {sc = sc} {sr = sr} w t p q) = ap suc (length-append (can c sc) (can r sr) ∙ ap₂ ◌+◌ (can-size p) (can-size q))

-- ---- lists
get_or_left : {A : Type 0} (l m : List A) (j : ℕ) (d : A) → j < length l → get_or (l ++ m) j d ≡ get_or l j d
get_or_left [] m j d h = absurd (omega arith)
get_or_left (x ∷ l) m zero d h = refl
get_or_left (x ∷ l) m (suc j) d h = get_or_left l m j d (omega arith)

get_or-right : {A : Type 0} (l m : List A) (j : ℕ) (d : A) → length l ≤ j → get_or (l ++ m) j d ≡ get_or m (j - length l) d
get_or-right l m j d h =
    let e : j ≡ length l + (j - length l) = omega arith in ap (λ (k : ℕ). get_or (l ++ m) k d) e ∙ get_or-append-add l m (j - length l) d

get_or-inside : (g : Forest Outlet → Forest Outlet) (l : List (List States)) (j : ℕ) → get_or (inside g l) j [] ≡ map (map g) (get_or l j [])
get_or-inside g [] j = refl
get_or-inside g (x ∷ l) zero = refl
get_or-inside g (x ∷ l) (suc j) = get_or-inside g l j

map_twice : {A B C : Type 0} (g : B → C) (h : A → B) (l : List A) → map g (map h l) ≡ map (λ x. g (h x)) l
map_twice g h [] = refl
map_twice g h (x ∷ l) = ap (λ q. g (h x) ∷ q) (map_twice g h l)

map_twices : {A B C : Type 0} (g : B → C) (h : A → B) (l : List (List A)) → map (map g) (map (map h) l) ≡ map (map (λ x. g (h x))) l
map_twices g h [] = refl
map_twices g h (x ∷ l) = ap₂ ◌∷◌ (map_twice g h x) (map_twices g h l)

same_map : {A : Type 0} (l : List A) → map (λ x. x) l ≡ l
same_map [] = refl
same_map (x ∷ l) = ap (λ q. x ∷ q) (same_map l)

same_maps : {A : Type 0} (l : List (List A)) → map (map (λ x. x)) l ≡ l
same_maps [] = refl
same_maps (x ∷ l) = ap₂ ◌∷◌ (same_map x) (same_maps l)

-- ---- the j-th entry
pub record Chosen (p n a b : ℕ) (f : Plan) (st : Forest Outlet) (j : ℕ) : Type 0 where
  pub spot : Spot
  pub stands : Stands p n a b f st spot
  pub moves_are : get_or (moves f st) j [] ≡ map (map (put_back stands)) (moves_by spot (choices_of spot))
  pub number_is : spot.number ≡ get_or (numbers_from n (can f st)) j 0
  pub some : is_nil (choices_of spot) ≡ false

-- the same of the nodes behind the first
record Behind (p n a b : ℕ) (o : Op) (c r : Plan) (d : Outlet) (sc sr : Forest Outlet) (j : ℕ) : Type 0 where
  spot : Spot
  stands : Stands p n a b (tree o c r) (tree d sc sr) spot
  moves_are : get_or (inside (λ x. tree d x sr) (moves c sc) ++ inside (λ x. tree d sc x) (moves r sr)) j [] ≡
      map (map (put_back stands)) (moves_by spot (choices_of spot))
  number_is : spot.number ≡ get_or (numbers_from (suc n) (can c sc ++ can r sr)) j 0
  some : is_nil (choices_of spot) ≡ false

module _ (p n a b : ℕ) (o : Op) (c r : Plan) (d : Outlet) (sc sr : Forest Outlet) (long : length (can c sc) ≡ size c) where
  abbrev M₁ : List (List States)
  M₁ = inside (λ x. tree d x sr) (moves c sc)

  abbrev M₂ : List (List States)
  M₂ = inside (λ x. tree d sc x) (moves r sr)

  abbrev L₁ : List ℕ
  L₁ = numbers_from (suc n) (can c sc)

  many₁ : length M₁ ≡ length (moves c sc)
  many₁ = length-map (moves c sc) (map (map (λ x. tree d x sr)))

  many₂ : length L₁ ≡ length (moves c sc)
  many₂ = can-moves (suc n) c sc

  in_first : (j : ℕ) → j < length (moves c sc) → Chosen n (suc n) b (b + total (facts c)) c sc j → Behind p n a b o c r d sc sr j
  in_first j h k =
      record {
        spot = k.spot;
        stands = stands_below k.stands;
        moves_are = get_or_left M₁ M₂ j [] (omega (arith, many₁)) ∙ get_or-inside (λ x. tree d x sr) (moves c sc) j
            ∙ ap (map (map (λ x. tree d x sr))) k.moves_are ∙ map_twices (λ x. tree d x sr) (put_back k.stands) (moves_by k.spot (choices_of k.spot));
        number_is = k.number_is ∙ sym (ap (λ (q : List ℕ). get_or q j 0) (numbers_append (suc n) (can c sc) (can r sr))
            ∙ get_or_left L₁ (numbers_from (suc n + length (can c sc)) (can r sr)) j 0 (omega (arith, many₂)));
        some = k.some;
      }

  in_second : (j : ℕ) → length (moves c sc) ≤ j →
      Chosen p (suc n + size c) (a + (facts_op o (facts c)).streams) (b + total (facts c) + inner c) r sr (j - length (moves c sc)) → Behind p n a b o c r d sc sr j
  in_second j h k =
      let e₁ : j - length M₁ ≡ j - length (moves c sc) = omega (arith, many₁) in
      let e₂ : j - length L₁ ≡ j - length (moves c sc) = omega (arith, many₂) in
      let e₃ : suc n + size c ≡ suc n + length (can c sc) = omega (arith, long) in
      record {
        spot = k.spot;
        stands = stands_beside k.stands;
        moves_are = get_or-right M₁ M₂ j [] (omega (arith, many₁)) ∙ ap (λ (i : ℕ). get_or M₂ i []) e₁ ∙ get_or-inside (λ x. tree d sc x) (moves r sr) (j - length (moves c sc))
            ∙ ap (map (map (λ x. tree d sc x))) k.moves_are ∙ map_twices (λ x. tree d sc x) (put_back k.stands) (moves_by k.spot (choices_of k.spot));
        number_is = k.number_is ∙ ap (λ (x : ℕ). get_or (numbers_from x (can r sr)) (j - length (moves c sc)) 0) e₃
            ∙ sym (ap (λ (q : List ℕ). get_or q j 0) (numbers_append (suc n) (can c sc) (can r sr))
            ∙ get_or-right L₁ (numbers_from (suc n + length (can c sc)) (can r sr)) j 0 (omega (arith, many₂))
            ∙ ap (λ (i : ℕ). get_or (numbers_from (suc n + length (can c sc)) (can r sr)) i 0) e₂);
        some = k.some;
      }

pub nth : {T : Tables} {n a b : ℕ} {f : Plan} {st : Forest Outlet} → Shows T n a b f st → (p j : ℕ) → j < length (moves f st) → Chosen p n a b f st j
nth shows_none p j h = absurd (omega arith)
nth {T} {n} {a} {b} (shows_tree {o = o} {c = c} {r = r} {d = d} {sc = sc} {sr = sr} w t x y) p j h =
    own (choices (manner o (facts c)) (concat (opens c sc)) (inputs (facts c) (roots sc))) refl j h
    (λ i l. behind i l (λ k m. nth x n k m) (λ k m. nth y p k m))
  where
    M : List (List States)
    M = inside (λ z. tree d z sr) (moves c sc) ++ inside (λ z. tree d sc z) (moves r sr)

    behind : (i : ℕ) → i < length M → ((k : ℕ) → k < length (moves c sc) → Chosen n (suc n) b (b + total (facts c)) c sc k) →
        ((k : ℕ) → k < length (moves r sr) →
        Chosen p (suc n + size c) (a + (facts_op o (facts c)).streams) (b + total (facts c) + inner c) r sr k) → Behind p n a b o c r d sc sr i
    behind i l f g = go (dec_lt i (length (moves c sc)))
      where
        many : length M ≡ length (moves c sc) + length (moves r sr)
        many = length-append (inside (λ z. tree d z sr) (moves c sc)) (inside (λ z. tree d sc z) (moves r sr))
            ∙ ap₂ ◌+◌ (length-map (moves c sc) (map (map (λ z. tree d z sr)))) (length-map (moves r sr) (map (map (λ z. tree d sc z))))

        go : Dec (i < length (moves c sc)) → Behind p n a b o c r d sc sr i
        go (yes k) = in_first p n a b o c r d sc sr (can-size x) i k (f i k)
        go (no k) = in_second p n a b o c r d sc sr (can-size x) i (omega arith) (g (i - length (moves c sc)) (omega (arith, many)))

    own : (l : List ℕ) → choices (manner o (facts c)) (concat (opens c sc)) (inputs (facts c) (roots sc)) ≡ l → (i : ℕ) →
        i < length (own_moves o (facts c) d sc sr (choices (manner o (facts c)) (concat (opens c sc)) (inputs (facts c) (roots sc))) ++ M) →
        ((k : ℕ) → k < length M → Behind p n a b o c r d sc sr k) → Chosen p n a b (tree o c r) (tree d sc sr) i
    own [] e i l g =
        let q : length (own_moves o (facts c) d sc sr (choices (manner o (facts c)) (concat (opens c sc)) (inputs (facts c) (roots sc))) ++ M) ≡ length M =
        ap (λ (z : List ℕ). length (own_moves o (facts c) d sc sr z ++ M)) e in
        let k = g i (omega (arith, q)) in
        record {
          spot = k.spot;
          stands = k.stands;
          moves_are = ap (λ (z : List ℕ). get_or (own_moves o (facts c) d sc sr z ++ M) i []) e ∙ k.moves_are;
          number_is = k.number_is ∙ sym (ap (λ (z : List ℕ). get_or (numbers_from n (not (is_nil z) ∷ (can c sc ++ can r sr))) i 0) e);
          some = k.some;
        }
    own (v ∷ vs) e zero l g =
        record {
          spot = record { number = n; above = p; out = a; inp = b; op = o; kids = c; rest = r; outlet = d; sub = sc; right = sr };
          stands = stands_here;
          moves_are = ap (λ (z : List ℕ). get_or (own_moves o (facts c) d sc sr z ++ M) 0 []) e
              ∙ sym (same_maps (map (λ i. sent o d sr i (take_by (manner o (facts c)) (facts c) i sc)) (choices (manner o (facts c)) (concat (opens c sc)) (inputs (facts c) (roots sc))))
              ∙ ap (map (λ i. sent o d sr i (take_by (manner o (facts c)) (facts c) i sc))) e);
          number_is = sym (ap (λ (z : List ℕ). get_or (numbers_from n (not (is_nil z) ∷ (can c sc ++ can r sr))) 0 0) e);
          some = ap is_nil e;
        }
    own (v ∷ vs) e (suc i) l g =
        let q : length (own_moves o (facts c) d sc sr (choices (manner o (facts c)) (concat (opens c sc)) (inputs (facts c) (roots sc))) ++ M) ≡ suc (length M) =
        ap (λ (z : List ℕ). length (own_moves o (facts c) d sc sr z ++ M)) e in
        let k = g i (omega (arith, q)) in
        record {
          spot = k.spot;
          stands = k.stands;
          moves_are = ap (λ (z : List ℕ). get_or (own_moves o (facts c) d sc sr z ++ M) (suc i) []) e ∙ k.moves_are;
          number_is = k.number_is ∙ sym (ap (λ (z : List ℕ). get_or (numbers_from n (not (is_nil z) ∷ (can c sc ++ can r sr))) (suc i) 0) e);
          some = k.some;
        }
