-- Where the nodes' places lie: each node's outputs before its inputs and among those of the node above it, and all inputs one after another in node
-- order. N: the node of each number. Assumes nothing.
use Rattle.std.specs.Prelude.{◌≡◌, refl, true, ◌⊎◌, List, ◌++◌, ℕ, suc, ◌+◌, ◌<◌, ◌≤◌, length, get_or, take, drop}
use Rattle.std.proofs.Common.{sym, ap, ap₂, ◌∙◌, inl, inr, arith, length-append, take_at, drop_at}
use Rattle.std.proofs.Math.Decide.{dec_lt, ℕ_discrete}
use Rattle.row_order.specs.Lists.{tab}
use Rattle.row_order.specs.ListLaws.{length-tab}
use Rattle.row_order.proofs.Order.{no_bool}
use Rattle.plan.specs.Forest.{none, tree, size}
use Rattle.plan.specs.Op.{Op, Plan}
use Rattle.semantics.specs.Facts.{facts_op, facts}
use Rattle.stepping.specs.Moves.{Way, straight, gathered, scattered, way}
use Rattle.stepping.proofs.Theorems.Formed.{Steppable, steppable-tree}
use Rattle.step_tables.specs.Places.{total, inner, is_straight, Node, node_of, nodes_at}
use Rattle.step_tables.specs.Shown.{tab_ext, tab_append}
use Rattle.step_tables.specs.Opened.{Fits, way_fits}
use Rattle.step_tables.specs.Passes.{node_in, Listed, Laid}
use Rattle.step_tables.specs.declared.StepNode.{StepNode}

pub length_nodes : (p n a b : ℕ) (f : Plan) → length (nodes_at p n a b f) ≡ size f
length_nodes p n a b none = refl
length_nodes p n a b (tree o c r) =
    ap suc
    (length-append (nodes_at n (suc n) b (b + total (facts c)) c)
    (nodes_at p (suc n + size c) (a + (facts_op o (facts c)).streams) (b + total (facts c) + inner c) r)
    ∙ ap₂ ◌+◌ (length_nodes n (suc n) b (b + total (facts c)) c)
    (length_nodes p (suc n + size c) (a + (facts_op o (facts c)).streams) (b + total (facts c) + inner c) r))

-- N has the forest's nodes, from number n on
abbrev pub NodesAre : (ℕ → Node) → ℕ → ℕ → ℕ → ℕ → Plan → Type 0
NodesAre N p n a b none = Unit {0}
NodesAre N p n a b (tree o c r) =
    (N n ≡ node_of p a b o c) × NodesAre N n (suc n) b (b + total (facts c)) c
    × NodesAre N p (suc n + size c) (a + (facts_op o (facts c)).streams) (b + total (facts c) + inner c) r

pub nodes_are : (N : ℕ → Node) (p n a b : ℕ) (f : Plan) → tab (size f) (λ i. N (n + i)) ≡ nodes_at p n a b f → NodesAre N p n a b f
nodes_are N p n a b none e = tt
nodes_are N p n a b (tree o c r) e = (
  (let z : n ≡ n + 0 = omega arith in ap N z) ∙ ap (λ l. get_or l 0 (node_of p a b o c)) e,
  nodes_are N n (suc n) b (b + total (facts c)) c
      (tab_ext (size c) (λ i. N (suc n + i)) F (λ i h. let z : suc n + i ≡ n + suc i = omega arith in ap N z)
      ∙ sym (take_at (tab (size c) F) (tab (size r) (λ k. F (size c + k))) (size c) (length-tab (size c) F)) ∙ ap (take (size c)) rest
      ∙ take_at cs rs (size c) l),
  nodes_are N p (suc n + size c) (a + (facts_op o (facts c)).streams) (b + total (facts c) + inner c) r
      (tab_ext (size r) (λ i. N (suc n + size c + i)) (λ k. F (size c + k)) (λ i h. let z : suc n + size c + i ≡ n + suc (size c + i) = omega arith in ap N z)
      ∙ sym (drop_at (tab (size c) F) (tab (size r) (λ k. F (size c + k))) (size c) (length-tab (size c) F)) ∙ ap (drop (size c)) rest
      ∙ drop_at cs rs (size c) l),
)
  where
    F : ℕ → Node
    F i = N (n + suc i)

    cs : List Node
    cs = nodes_at n (suc n) b (b + total (facts c)) c

    rs : List Node
    rs = nodes_at p (suc n + size c) (a + (facts_op o (facts c)).streams) (b + total (facts c) + inner c) r

    l : length cs ≡ size c
    l = length_nodes n (suc n) b (b + total (facts c)) c

    rest : tab (size c) F ++ tab (size r) (λ k. F (size c + k)) ≡ cs ++ rs
    rest = sym (tab_append (size c) (size r) F) ∙ ap (drop 1) e

-- Node k is one of the forest's: its first root, below that, or beside it
pub data Has (N : ℕ → Node) : ℕ → ℕ → ℕ → ℕ → Plan → ℕ → Type 0 where
  here : {p n a b k : ℕ} {o : Op} {c r : Plan} → k ≡ n → N k ≡ node_of p a b o c → Has N p n a b (tree o c r) k
  below : {p n a b k : ℕ} {o : Op} {c r : Plan} → Has N n (suc n) b (b + total (facts c)) c k → Has N p n a b (tree o c r) k
  beside : {p n a b k : ℕ} {o : Op} {c r : Plan} → Has N p (suc n + size c) (a + (facts_op o (facts c)).streams) (b + total (facts c) + inner c) r k →
      Has N p n a b (tree o c r) k

pub has_node : (N : ℕ → Node) (p n a b : ℕ) (f : Plan) → NodesAre N p n a b f → (k : ℕ) → n ≤ k → k < n + size f → Has N p n a b f k
has_node N p n a b none s k h g = absurd (omega arith)
has_node N p n a b (tree o c r) s k h g =
    go (ℕ_discrete k n) (dec_lt k (suc n + size c))
    (λ i j. has_node N n (suc n) b (b + total (facts c)) c s.1 k i j)
    (λ i j. has_node N p (suc n + size c) (a + (facts_op o (facts c)).streams) (b + total (facts c) + inner c) r s.2 k i j)
  where
    go : Dec (k ≡ n) → Dec (k < suc n + size c) →
        (suc n ≤ k → k < suc n + size c → Has N n (suc n) b (b + total (facts c)) c k) →
        (suc n + size c ≤ k → k < suc n + size c + size r → Has N p (suc n + size c) (a + (facts_op o (facts c)).streams) (b + total (facts c) + inner c) r k) →
        Has N p n a b (tree o c r) k
    go (yes e) d x y = here e (ap N e ∙ s.0)
    go (no e) (yes d) x y = below (x (omega arith) d)
    go (no e) (no d) x y = beside (y (omega arith) (omega arith))

fits_straight : (w : Way) (s n : ℕ) → is_straight w ≡ true → Fits w s n → s ≡ n
fits_straight straight s n e h = h
fits_straight gathered s n e h = no_bool e
fits_straight (scattered k) s n e h = no_bool e

no_inner : (f : Plan) → size f ≡ 0 → inner f ≡ 0
no_inner none h = refl
no_inner (tree o c r) h = absurd (omega arith)

module _ {N : ℕ → Node} where
  pub has_number : {p n a b k : ℕ} {f : Plan} → Has N p n a b f k → (n ≤ k) × (k < n + size f)
  has_number (here e z) = (omega arith, omega arith)
  has_number (below h) = let i = has_number h in (omega arith, omega arith)
  has_number (beside h) = let i = has_number h in (omega arith, omega arith)

  -- The inputs lie among the places below the roots
  pub has_inputs : {p n a b k : ℕ} {f : Plan} → Has N p n a b f k → (b ≤ (N k).inp) × ((N k).inp + (N k).inps ≤ b + inner f)
  has_inputs (here e z) = let x = ap (λ (q : Node). q.inp) z in let y = ap (λ (q : Node). q.inps) z in (omega arith, omega arith)
  has_inputs (below h) = let i = has_inputs h in (omega arith, omega arith)
  has_inputs (beside h) = let i = has_inputs h in (omega arith, omega arith)

  pub outputs_first : {p n a b k : ℕ} {f : Plan} → Has N p n a b f k → a + total (facts f) ≤ b → (N k).out + (N k).outs ≤ (N k).inp
  outputs_first (here e z) l =
      let x = ap (λ (q : Node). q.out) z in let y = ap (λ (q : Node). q.outs) z in let w = ap (λ (q : Node). q.inp) z in omega arith
  outputs_first (below h) l = outputs_first h (omega arith)
  outputs_first (beside h) l = outputs_first h (omega arith)

  pub straight_wide : {p n a b k : ℕ} {f : Plan} → Has N p n a b f k → Steppable f → (N k).straight_on ≡ true → (N k).outs ≡ (N k).inps
  straight_wide (here {o = o} {c = c} e z) (steppable-tree m s₁ s₂) t =
      ap (λ (q : Node). q.outs) z
      ∙ fits_straight (way o) (facts_op o (facts c)).streams (total (facts c)) (sym (ap (λ (q : Node). q.straight_on) z) ∙ t) (way_fits o c m)
      ∙ sym (ap (λ (q : Node). q.inps) z)
  straight_wide (below h) (steppable-tree m s₁ s₂) t = straight_wide h s₁ t
  straight_wide (beside h) (steppable-tree m s₁ s₂) t = straight_wide h s₂ t

  -- ---- inputs in node order
  pub inputs_apart : {p n a b k j : ℕ} {f : Plan} → Has N p n a b f k → Has N p n a b f j → k < j → (N k).inp + (N k).inps ≤ (N j).inp
  inputs_apart (here e z) (here e' z') l = absurd (omega arith)
  inputs_apart (here e z) (below h) l =
      let x = ap (λ (q : Node). q.inp) z in let y = ap (λ (q : Node). q.inps) z in let i = has_inputs h in omega arith
  inputs_apart (here e z) (beside h) l =
      let x = ap (λ (q : Node). q.inp) z in let y = ap (λ (q : Node). q.inps) z in let i = has_inputs h in omega arith
  inputs_apart (below g) (here e z) l = let i = has_number g in absurd (omega arith)
  inputs_apart (below g) (below h) l = inputs_apart g h l
  inputs_apart (below g) (beside h) l = let i = has_inputs g in let j = has_inputs h in omega arith
  inputs_apart (beside g) (here e z) l = let i = has_number g in absurd (omega arith)
  inputs_apart (beside g) (below h) l = let i = has_number g in let j = has_number h in absurd (omega arith)
  inputs_apart (beside g) (beside h) l = inputs_apart g h l

  first_inputs : {p n a b k : ℕ} {f : Plan} → Has N p n a b f k → k ≡ n → (N k).inp ≡ b
  first_inputs (here e z) l = ap (λ (q : Node). q.inp) z
  first_inputs (below h) l = let i = has_number h in absurd (omega arith)
  first_inputs (beside h) l = let i = has_number h in absurd (omega arith)

  last_inputs : {p n a b k : ℕ} {f : Plan} → Has N p n a b f k → suc k ≡ n + size f → (N k).inp + (N k).inps ≡ b + inner f
  last_inputs (here {c = c} {r = r} e z) l =
      let x = ap (λ (q : Node). q.inp) z in let y = ap (λ (q : Node). q.inps) z in
      let u = no_inner c (omega arith) in let v = no_inner r (omega arith) in omega arith
  last_inputs (below {r = r} h) l =
      let i = has_number h in let v = no_inner r (omega arith) in let u = last_inputs h (omega arith) in omega arith
  last_inputs (beside h) l = let u = last_inputs h (omega arith) in omega arith

  -- The next node's inputs follow
  pub inputs_follow : {p n a b k j : ℕ} {f : Plan} → Has N p n a b f k → Has N p n a b f j → j ≡ suc k → (N j).inp ≡ (N k).inp + (N k).inps
  inputs_follow (here e z) (here e' z') l = absurd (omega arith)
  inputs_follow (here e z) (below h) l =
      let x = ap (λ (q : Node). q.inp) z in let y = ap (λ (q : Node). q.inps) z in let i = first_inputs h (omega arith) in omega arith
  inputs_follow (here {c = c} e z) (beside h) l =
      let x = ap (λ (q : Node). q.inp) z in let y = ap (λ (q : Node). q.inps) z in
      let i = has_number h in let u = no_inner c (omega arith) in let w = first_inputs h (omega arith) in omega arith
  inputs_follow (below g) (here e z) l = let i = has_number g in absurd (omega arith)
  inputs_follow (below g) (below h) l = inputs_follow g h l
  inputs_follow (below g) (beside h) l =
      let i = has_number g in let j = has_number h in let u = last_inputs g (omega arith) in let w = first_inputs h (omega arith) in omega arith
  inputs_follow (beside g) (here e z) l = let i = has_number g in absurd (omega arith)
  inputs_follow (beside g) (below h) l = let i = has_number g in let j = has_number h in absurd (omega arith)
  inputs_follow (beside g) (beside h) l = inputs_follow g h l

-- ---- a node's outputs are inputs of the node above it; of a root: the first places

-- Node x's outputs are among w places from a on
pub record Among (x : Node) (a w : ℕ) : Type 0 where
  pub from : a ≤ x.out
  pub upto : x.out + x.outs ≤ a + w

abbrev pub Sends : (ℕ → Node) → ℕ → ℕ → ℕ → ℕ → Plan → ℕ → Type 0
Sends N p n a b f k =
    (((N k).above ≡ p) × Among (N k) a (total (facts f))) ⊎ (Has N p n a b f (N k).above × Among (N k) (N (N k).above).inp (N (N k).above).inps)

pub sends_up : {N : ℕ → Node} {p n a b k : ℕ} {f : Plan} → NodesAre N p n a b f → Has N p n a b f k → Sends N p n a b f k
sends_up s (here e z) =
    let x = ap (λ (q : Node). q.out) z in let y = ap (λ (q : Node). q.outs) z in
    inl (ap (λ (q : Node). q.above) z, record { from = omega arith; upto = omega arith })
sends_up {N} {p} {n} {a} {b} {k} s (below {o = o} {c = c} {r = r} h) = go (sends_up s.1 h)
  where
    go : Sends N n (suc n) b (b + total (facts c)) c k → Sends N p n a b (tree o c r) k
    go (inr w) = inr (below w.0, w.1)
    go (inl w) =
        let z : N (N k).above ≡ node_of p a b o c = ap N w.0 ∙ s.0 in
        let x = ap (λ (q : Node). q.inp) z in let y = ap (λ (q : Node). q.inps) z in
        inr (here w.0 z, record { from = omega (arith, w.1.from); upto = omega (arith, w.1.upto) })
sends_up {N} {p} {n} {a} {b} {k} s (beside {o = o} {c = c} {r = r} h) = go (sends_up s.2 h)
  where
    go : Sends N p (suc n + size c) (a + (facts_op o (facts c)).streams) (b + total (facts c) + inner c) r k → Sends N p n a b (tree o c r) k
    go (inr w) = inr (beside w.0, w.1)
    go (inl w) = inl (w.0, record { from = omega (arith, w.1.from); upto = omega (arith, w.1.upto) })

-- ---- the table of nodes
module _ (t : List StepNode) (p a b : ℕ) (f : Plan) (listed : Listed t (nodes_at p 0 a b f)) where
  pub listed_are : tab (size f) (node_in t) ≡ nodes_at p 0 a b f
  listed_are = ap (λ (n : ℕ). tab n (node_in t)) (sym (length_nodes p 0 a b f)) ∙ listed.are

  pub listed_nodes : NodesAre (node_in t) p 0 a b f
  listed_nodes =
      nodes_are (node_in t) p 0 a b f
      (tab_ext (size f) (λ i. node_in t (0 + i)) (node_in t) (λ i h. let z : 0 + i ≡ i = omega arith in ap (node_in t) z) ∙ listed_are)

  pub listed_has : (j : ℕ) → j < size f → Has (node_in t) p 0 a b f j
  listed_has j h = has_node (node_in t) p 0 a b f listed_nodes j (omega arith) (omega arith)

pub laid : (t : List StepNode) (p : ℕ) (f : Plan) (len : ℕ) → Steppable f → Listed t (nodes_at p 0 0 (total (facts f)) f) →
    total (facts f) + inner f ≤ len → len < 1000000000 → Laid t (size f) len
laid t p f len s listed h few =
    record {
      entries = omega (arith, listed.room, length_nodes p 0 0 (total (facts f)) f);
      few = few;
      before_inputs = λ j l. outputs_first (has j l) (omega arith);
      among = λ j l. omega (arith, (has_inputs (has j l)).1);
      as_wide = λ j l. straight_wide (has j l) s;
    }
  where
    has : (j : ℕ) → j < size f → Has (node_in t) p 0 0 (total (facts f)) f j
    has j l = listed_has t p 0 (total (facts f)) f listed j l
