-- The rows of the tables, as the walk writes them.
use Rattle.std.specs.Prelude.{◌≡◌, refl, List, [], ◌∷◌, ◌++◌, map, ℕ, zero, suc, ◌+◌, ◌≤◌, ◌<◌, length, get_or, set, take}
use Rattle.std.proofs.Common.{sym, ap, ap₂, ◌∙◌, subst, append-nil, arith, length-append, get_or-take, get_or-set_same, take-take}
use Rattle.std.proofs.lemmas.List.{map-append, length-map, take-set-le}
use Rattle.stepping.specs.Moves.{Manner, still, passing, merging, sorting}
use Rattle.row_order.specs.Lists.{tab}
use Rattle.plan.specs.Forest.{none, tree, size}
use Rattle.plan.specs.Op.{Op, Plan}
use Rattle.semantics.specs.Facts.{facts, facts_op}
use Rattle.step_tables.specs.Places.{total, inner, kind_of, Node, nodes_at, node_of}
use Rattle.step_tables.specs.Passes.{number_of, manner_at, node_from, no_node, node_in, Listed}
use Rattle.step_tables.specs.declared.StepNode.{StepNode}
use Rattle.step_nodes.specs.Layout.{plan_in, subtrees, Slotted, Entry, entries, Along, Stands}

-- ---- along a list

along_join : {A : Type 0} (R : ℕ → A → Type 0) (j : ℕ) (l k : List A) → Along R j l → Along R (j + length l) k → Along R j (l ++ k)
along_join R j [] k a b = let e : j + 0 ≡ j = omega arith in subst (λ n. Along R n k) e b
along_join R j (x ∷ l) k a b = let e : j + suc (length l) ≡ suc j + length l = omega arith in
    (a.0, along_join R (suc j) l k a.1 (subst (λ n. Along R n k) e b))

pub along_behind : {A : Type 0} (R : ℕ → A → Type 0) (j n : ℕ) (l k : List A) → j + length l ≡ n → Along R j l → Along R n k → Along R j (l ++ k)
along_behind R j n l k e a b = along_join R j l k a (subst (λ i. Along R i k) (sym e) b)

pub along_map : {A : Type 0} (R S : ℕ → A → Type 0) (j n : ℕ) (l : List A) → j + length l ≤ n → ((k : ℕ) (x : A) → k < n → R k x → S k x) → Along R j l → Along S j l
along_map R S j n [] h g a = tt
along_map R S j n (x ∷ l) h g a = (g j x (omega arith) a.0, along_map R S (suc j) n l (omega arith) g a.1)

-- what is read at each number
pub along_tab : {A B : Type 0} (R : ℕ → A → Type 0) (g : ℕ → B) (f : A → B) (j : ℕ) (l : List A) → ((k : ℕ) (x : A) → R k x → g k ≡ f x) → Along R j l
    → tab (length l) (λ k. g (j + k)) ≡ map f l
along_tab R g f j [] h a = refl
along_tab R g f j (x ∷ l) h a =
    let z : j + 0 ≡ j = omega arith in
    ap₂ ◌∷◌ (ap g z ∙ h j x a.0)
    ((λ i. tab (length l) (λ k. let e : j + suc k ≡ suc j + k = omega arith in g (e i))) ∙ along_tab R g f (suc j) l h a.1)

pub along_at : {A : Type 0} (R : ℕ → A → Type 0) (P : ℕ → Type 0) (j n : ℕ) (l : List A) → length l ≡ n → ((k : ℕ) (x : A) → R k x → P k) → Along R j l
    → (k : ℕ) → k < n → P (j + k)
along_at R P j n [] e h a k q = absurd (omega arith)
along_at R P j n (x ∷ l) e h a zero q = let z : j ≡ j + 0 = omega arith in subst P z (h j x a.0)
along_at R P j n (x ∷ l) e h a (suc k) q =
    let z : suc j + k ≡ j + suc k = omega arith in
    subst P z (along_at R P (suc j) (length l) l refl h a.1 k (omega arith))

-- ---- one row

pub same_at : (n : ℕ) (t t' : List ℕ) → take n t' ≡ take n t → (i : ℕ) → i < n → get_or t' i 0 ≡ get_or t i 0
same_at n t t' e i h = sym (get_or-take n t' i 0 h) ∙ ap (λ l. get_or l i 0) e ∙ get_or-take n t i 0 h

pub less_front : {A : Type 0} (k n : ℕ) (t t' : List A) → k ≤ n → take n t' ≡ take n t → take k t' ≡ take k t
less_front k n t t' h e = sym (take-take k n t' h) ∙ ap (take k) e ∙ take-take k n t h

pub same_node : (n : ℕ) (t t' : List StepNode) → take n t' ≡ take n t → (j : ℕ) → j < n → node_in t' j ≡ node_in t j
same_node n t t' e j h = ap node_from (sym (get_or-take n t' j no_node h) ∙ ap (λ l. get_or l j no_node) e ∙ get_or-take n t j no_node h)

pub stands_same : (m : List ℕ) (u n : ℕ) (t : List StepNode) (s : List ℕ) (t' : List StepNode) (s' : List ℕ) → take n t' ≡ take n t → take n s' ≡ take n s → (j : ℕ) (x : Entry) → j < n
    → Stands m u t s j x → Stands m u t' s' j x
stands_same m u n t s t' s' e q j x h a =
    let z = same_at n s s' q j h in
    record { row = same_node n t t' e j h ∙ a.row; tree = ap (plan_in m) z ∙ a.tree; there = subst (λ i. i < u) (sym z) a.there }

-- ---- a row written

-- A number up to 3, back from its manner
number_back : (k : ℕ) → k ≤ 3 → number_of (manner_at k) ≡ k
number_back zero h = refl
number_back (suc zero) h = refl
number_back (suc (suc zero)) h = refl
number_back (suc (suc (suc zero))) h = refl
number_back (suc (suc (suc (suc k)))) h = absurd (omega arith)

-- and each manner has one
pub manner_numbered : (k : Manner) → kind_of k ≤ 3
manner_numbered still = omega arith
manner_numbered passing = omega arith
manner_numbered (merging ks) = omega arith
manner_numbered (sorting p ks) = omega arith

-- A node's entry
abbrev pub row_of : Node → StepNode
row_of x = record { manner = manner_at x.kind; straight = x.straight_on; out = x.out; outs = x.outs; inp = x.inp; inps = x.inps; above = x.above }

-- The table with row j written
abbrev pub written : List StepNode → ℕ → Node → List StepNode
written t j x = set t j (row_of x)

-- What is read back of any node: a number above 3 as 3
pub row_read : (t : List StepNode) (j : ℕ) (x : Node) → j < length t → node_in (written t j x) j ≡ node_from (row_of x)
row_read t j x h = ap node_from (get_or-set_same t j (row_of x) no_node h)

-- and of a node whose number a manner has, the node
pub row_written : (t : List StepNode) (j : ℕ) (x : Node) → x.kind ≤ 3 → j < length t → node_in (written t j x) j ≡ x
row_written t j x k h =
    row_read t j x h
    ∙ (λ i. record {
      kind = number_back x.kind k i;
      straight_on = x.straight_on;
      out = x.out;
      outs = x.outs;
      inp = x.inp;
      inps = x.inps;
      above = x.above;
    })

pub row_front : (t : List StepNode) (j : ℕ) (x : Node) → take j (written t j x) ≡ take j t
row_front t j x = take-set-le j t j (row_of x) (omega arith)

-- ---- the entries of a forest

pub entry_nodes : (p n a b : ℕ) (f : Plan) → map (λ e. e.node) (entries p n a b f) ≡ nodes_at p n a b f
entry_nodes p n a b none = refl
entry_nodes p n a b (tree o c r) = ap (λ l. node_of p a b o c ∷ l) (map-append (λ e. e.node) (entries n (suc n) b (b + total (facts c)) c)
    (entries p (suc n + size c) (a + (facts_op o (facts c)).streams) (b + total (facts c) + inner c) r)
    ∙ ap₂ ◌++◌ (entry_nodes n (suc n) b (b + total (facts c)) c)
    (entry_nodes p (suc n + size c) (a + (facts_op o (facts c)).streams) (b + total (facts c) + inner c) r))

pub entry_plans : (p n a b : ℕ) (f : Plan) → map (λ e. e.plan) (entries p n a b f) ≡ subtrees f
entry_plans p n a b none = refl
entry_plans p n a b (tree o c r) = ap (λ l. tree o c none ∷ l) (map-append (λ e. e.plan) (entries n (suc n) b (b + total (facts c)) c)
    (entries p (suc n + size c) (a + (facts_op o (facts c)).streams) (b + total (facts c) + inner c) r)
    ∙ ap₂ ◌++◌ (entry_plans n (suc n) b (b + total (facts c)) c)
    (entry_plans p (suc n + size c) (a + (facts_op o (facts c)).streams) (b + total (facts c) + inner c) r))

pub entry_count : (p n a b : ℕ) (f : Plan) → length (entries p n a b f) ≡ size f
entry_count p n a b none = refl
entry_count p n a b (tree o c r) =
    let x = length-append (entries n (suc n) b (b + total (facts c)) c)
    (entries p (suc n + size c) (a + (facts_op o (facts c)).streams) (b + total (facts c) + inner c) r) in
    omega (
      arith,
      entry_count n (suc n) b (b + total (facts c)) c,
      entry_count p (suc n + size c) (a + (facts_op o (facts c)).streams) (b + total (facts c) + inner c) r,
    )

-- the first tree, and the others behind it
pub entries_split : (p n a b : ℕ) (o : Op) (c r : Plan) → entries p n a b (tree o c r) ≡ entries p n a b (tree o c none)
    ++ entries p (suc n + size c) (a + (facts_op o (facts c)).streams) (b + total (facts c) + inner c) r
entries_split p n a b o c r = ap (λ l. record { node = node_of p a b o c; plan = tree o c none } ∷ l)
    (ap (λ l. l ++ entries p (suc n + size c) (a + (facts_op o (facts c)).streams) (b + total (facts c) + inner c) r)
    (sym (append-nil (entries n (suc n) b (b + total (facts c)) c))))

-- ---- the tables of a whole plan

module _ (m : List ℕ) (u : ℕ) (t : List StepNode) (s : List ℕ) (p a b : ℕ) (f : Plan) (h : Along (Stands m u t s) 0 (entries p 0 a b f)) where
  tabled : {A : Type 0} (n : ℕ) (g : ℕ → A) → tab n (λ k. g (0 + k)) ≡ tab n g
  tabled n g = λ i. tab n (λ k. let e : 0 + k ≡ k = omega arith in g (e i))

  pub lists : size f ≤ length t → Listed t (nodes_at p 0 a b f)
  lists l =
      let n = entry_count p 0 a b f in
      let e = entry_nodes p 0 a b f in
      let k : length (nodes_at p 0 a b f) ≡ length (entries p 0 a b f) = ap length (sym e) ∙ length-map (entries p 0 a b f) (λ x. x.node) in
      record {
        room = omega arith;
        are = ap (λ z. tab z (node_in t)) k ∙ sym (tabled (length (entries p 0 a b f)) (node_in t))
            ∙ along_tab (Stands m u t s) (node_in t) (λ x. x.node) 0 (entries p 0 a b f) (λ j x y. y.row) h ∙ e;
      }

  pub slots_are : size f ≤ length s → Slotted m u s f
  slots_are l =
      let n = entry_count p 0 a b f in
      record {
        room = l;
        there = λ j q. let z : 0 + j ≡ j = omega arith in
            subst (λ i. get_or s i 0 < u) z (along_at (Stands m u t s) (λ i. get_or s i 0 < u) 0 (size f) (entries p 0 a b f) n (λ i x y. y.there) h j q);
        are = ap (λ z. tab z (λ j. plan_in m (get_or s j 0))) (sym n)
            ∙ sym (tabled (length (entries p 0 a b f)) (λ j. plan_in m (get_or s j 0)))
            ∙ along_tab (Stands m u t s) (λ j. plan_in m (get_or s j 0)) (λ x. x.plan) 0 (entries p 0 a b f) (λ j x y. y.tree) h
            ∙ entry_plans p 0 a b f;
      }
