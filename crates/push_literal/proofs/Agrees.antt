-- When an outcome of the Rust's walk (PushdownSortsLiteral) agrees with one of the structural walk: both refuse alike, or both are done with the
-- same plan and the count of the whole plan. Neither spent fuel nor a panic agrees with anything.
use Rattle.std.specs.Prelude.{◌≡◌, refl, Bool, true, false, cond, not, ◌&&◌, List, ℕ, suc, ◌+◌, ◌*◌, ◌≤◌}
use Rattle.std.proofs.Common.{sym, ap, ap₂, ◌∙◌, subst, arith}
use Rattle.row_order.proofs.Order.{no_bool}
use Rattle.plan.specs.Forest.{Forest, none, tree, size}
use Rattle.plan.specs.Op.{Op, Plan}
use Rattle.plan.specs.declared.Refusal.{Refusal}
use Rattle.plan.specs.declared.Refusal.TheVariants.{TooManyNodes}
use Rattle.semantics.specs.Facts.{facts, Facts}
use Rattle.semantics.specs.Properties.{rebuilt}
use Rattle.walks.specs.Marks.{kid0, Marked, node, over, plant, rebuild, size_t, strip, Tree}
use Rattle.walks.specs.SortPushdown.{ParentRequirements}
use Rattle.walks.specs.PushdownSorts.{asked, carry_out, Decision, Visit}
use Rattle.walks.specs.Counted.{afterwards, bind, Counted, counted, stopped}
use Rattle.push_literal.specs.PushdownSortsLiteral.{after_call, and_then, Call, done, failed, helper, map_children, Outcome, panicked, Required, returns, SortPushDown, spent, transform_down}
use Rattle.walks.proofs.Theorems.Calls.Counts.{carried, count_by}
use Rattle.push_literal.proofs.Contexts.{holding, BelowRoot, contexts, contexts-asked, size-holding}

-- The structural walk at a node that decides D, over the children c
abbrev pub carried_at : (ℕ → Bool) → Plan → Decision → ℕ → Bool → Counted Tree
carried_at full c D n b = carried full D n b (λ j. count_by full D.reqs j c)

-- ---- agreement

pub data Agrees (A B : Type 0) (R : A → B → ℕ → Type 0) : Outcome A → Counted B → Type 0 where
  agree_stop : {e : Refusal} → Agrees A B R (failed e) (stopped e)
  agree_done : {x : A} {y : B} {m : ℕ} → R x y m → Agrees A B R (done x) (counted y m)

-- The same plan, and the count is that of the whole plan, of which k nodes stand elsewhere
pub record SameF (k : ℕ) (x : Forest Required) (y : Forest Marked) (m : ℕ) : Type 0 where
  pub plan : strip x ≡ strip y
  pub number : m ≡ size x + k

pub record SameT (k : ℕ) (t : SortPushDown) (u : Tree) (m : ℕ) : Type 0 where
  pub node : t.top.op ≡ u.top.op
  pub plan : strip t.kids ≡ strip u.kids
  pub number : m ≡ suc (size t.kids) + k

abbrev pub AgreesF : ℕ → Outcome (Forest Required) → Counted (Forest Marked) → Type 0
AgreesF k X Y = Agrees (Forest Required) (Forest Marked) (SameF k) X Y

abbrev pub AgreesT : ℕ → Outcome SortPushDown → Counted Tree → Type 0
AgreesT k X Y = Agrees SortPushDown Tree (SameT k) X Y

pub agree_bind : {A B C D : Type 0} {R : A → B → ℕ → Type 0} {S : C → D → ℕ → Type 0} {X : Outcome A} {Y : Counted B} (g : A → Outcome C)
    (h : B → ℕ → Counted D) →
    Agrees A B R X Y → ((x : A) (y : B) (m : ℕ) → R x y m → Agrees C D S (g x) (h y m)) → Agrees C D S (and_then X g) (bind Y h)
agree_bind g h agree_stop k = agree_stop
agree_bind g h (agree_done {x = x} {y = y} {m = m} r) k = k x y m r

pub agree_go : {A B : Type 0} {R : A → B → ℕ → Type 0} {Y : Counted B} (b : Bool) (e : Refusal) (Z : Outcome A) → b ≡ false → Agrees A B R Z Y →
    Agrees A B R (cond b (failed e) Z) Y
agree_go true e Z q h = no_bool (sym q)
agree_go false e Z q h = h

pub agree_full : {A B : Type 0} {R : A → B → ℕ → Type 0} (b : Bool) (e : Refusal) (Z : Outcome A) → b ≡ true → Agrees A B R (cond b (failed e) Z)
    (stopped e)
agree_full true e Z q = agree_stop
agree_full false e Z q = no_bool q

-- One tree, taken out of its forest again
unwrap-go : {k : ℕ} {W : Outcome (Forest Required)} {Y : Counted (Forest Marked)} (z : Forest Marked → Tree) → AgreesF k W Y → (X : Outcome SortPushDown) →
    W ≡ and_then X (λ t. done (plant t none)) → AgreesT k X (bind Y (λ d m. counted (kid0 (z d) d) m))
unwrap-go z (agree_stop {e = e}) spent q = let bad : ◌≡◌ {A = ℕ} 0 1 = cc in absurd (omega arith)
unwrap-go z (agree_stop {e = e}) panicked q = let bad : ◌≡◌ {A = ℕ} 0 1 = cc in absurd (omega arith)
unwrap-go {k} z (agree_stop {e = e}) (failed e') q = let s : e' ≡ e = cc in subst (λ (x : Refusal). AgreesT k (failed x) (stopped e)) (sym s) agree_stop
unwrap-go z (agree_stop {e = e}) (done t) q = let bad : ◌≡◌ {A = ℕ} 0 1 = cc in absurd (omega arith)
unwrap-go z (agree_done {x = x} {y = y} {m = m} r) spent q = let bad : ◌≡◌ {A = ℕ} 0 1 = cc in absurd (omega arith)
unwrap-go z (agree_done {x = x} {y = y} {m = m} r) panicked q = let bad : ◌≡◌ {A = ℕ} 0 1 = cc in absurd (omega arith)
unwrap-go z (agree_done {x = x} {y = y} {m = m} r) (failed e) q = let bad : ◌≡◌ {A = ℕ} 0 1 = cc in absurd (omega arith)
unwrap-go {k} z (agree_done {x = x} {y = y} {m = m} r) (done t) q = go y (sym (ap strip s) ∙ r.plan)
  where
    s : x ≡ plant t none
    s = cc

    number : m ≡ suc (size t.kids) + k
    number = omega (arith, r.number, ap size s)

    go : (y : Forest Marked) → strip (plant t none) ≡ strip y → AgreesT k (done t) (counted (kid0 (z y) y) m)
    go none e = let bad : ◌≡◌ {A = ℕ} 0 1 = cc in absurd (omega arith)
    go (tree a d r') e =
        let same : t.top.op ≡ a.op = cc in
        let kids : strip t.kids ≡ strip d = cc in
        agree_done (record { node = same; plan = kids; number = number })

pub unwrap : {k : ℕ} {Y : Counted (Forest Marked)} (z : Forest Marked → Tree) (X : Outcome SortPushDown) →
    AgreesF k (and_then X (λ t. done (plant t none))) Y → AgreesT k X (bind Y (λ d m. counted (kid0 (z d) d) m))
unwrap z X h = unwrap-go z h X refl

-- A node over one tree
cover_go : {k : ℕ} {X : Outcome SortPushDown} {Y : Counted Tree} (p : Op) (d : ParentRequirements) → ((fs : List Facts) → rebuilt p fs ≡ p) →
    AgreesT (suc k) X Y →
    AgreesT k (and_then (and_then X (λ t. done (plant t none))) (λ x. done (rebuild p d x))) (bind Y (λ u m. counted (over p false u) m))
cover_go p d e agree_stop = agree_stop
cover_go {k} p d e (agree_done {x = t} {y = u} {m = m} r) =
    let number : m ≡ suc (suc (size t.kids + 0)) + k = omega (arith, r.number) in
    agree_done {x = rebuild p d (plant t none)} {y = over p false u} {m = m}
    (record { node = e (facts (strip (plant t none))); plan = ap₂ (λ (o : Op) (c : Plan). tree o c none) r.node r.plan; number = number })

pub twice : {A B C : Type 0} (X : Counted A) (g : A → B) (h : B → C) →
    bind (bind X (λ x m. counted (g x) m)) (λ y m. counted (h y) m) ≡ bind X (λ x m. counted (h (g x)) m)
twice (stopped e) g h = refl
twice (counted x n) g h = refl

pub by_bool : (b : Bool) {A : Type 0} → (b ≡ true → A) → (b ≡ false → A) → A
by_bool true f g = f refl
by_bool false f g = g refl

module _ (full : ℕ → Bool) where
  -- A walk at a node t whose call does z
  pub by_call : {Y : Counted Tree} {z : Call} (n k : ℕ) (t : SortPushDown) → helper t ≡ z →
      AgreesT k (after_call full (λ j u. transform_down full n j u) k z) Y → AgreesT k (transform_down full (suc n) k t) Y
  by_call {Y} n k t e h = subst (λ (z : Call). AgreesT k (after_call full (λ j u. transform_down full n j u) k z) Y) (sym e) h

  -- A decision D that ends a step, in a plan of n nodes: m nodes after it, N the most that its steps reach
  pub decided_at : {X : Outcome SortPushDown} (D : Decision) (c : Plan) (n m N k : ℕ) → D.quiet ≡ false → m ≡ afterwards D n → N ≡ afterwards D n + D.peak
      →
      (full N ≡ true → AgreesT k X (stopped TooManyNodes))
      → (full N ≡ false → AgreesT k X (bind (count_by full D.reqs m c) (λ d i. counted (carry_out D d) i))) → AgreesT k X (carried_at full c D n false)
  decided_at {X} D c n m N k q e p stops goes =
      by_bool (full N)
      (λ w. subst (λ (b : Bool). AgreesT k X (cond b (stopped TooManyNodes) rest)) (sym (tested w)) (stops w))
      (λ w. subst (λ (b : Bool). AgreesT k X (cond b (stopped TooManyNodes) rest)) (sym (tested w))
      (subst (λ (j : ℕ). AgreesT k X (bind (count_by full D.reqs j c) (λ d i. counted (carry_out D d) i))) e (goes w)))
    where
      rest : Counted Tree
      rest = bind (count_by full D.reqs (afterwards D n) c) (λ d i. counted (carry_out D d) i)

      tested : {b : Bool} → full N ≡ b → not D.quiet && full (afterwards D n + D.peak) ≡ b
      tested w = ap₂ (λ (a : Bool) (j : ℕ). not a && full j) q (sym p) ∙ w

  abbrev pub Below : Plan → Type 0
  Below c =
      (q : ℕ → Visit) → ((i : ℕ) → BelowRoot (q i)) → (n k : ℕ) → 4 * size c ≤ n
      → AgreesF k (map_children (λ j t. transform_down full n j t) k (contexts q c))
      (count_by full q (size c + k) c)

  -- After a call that returned the node o over its old children, which hold g
  pub returned : (c : Plan) → Below c → (n k : ℕ) → 4 * size c ≤ n → (o : Op) (d : ParentRequirements) (g : ℕ → ParentRequirements) →
      full (suc (size c) + k) ≡ false →
      AgreesT k (after_call full (λ j t. transform_down full n j t) k (returns (node o d (holding g c))))
      (bind (count_by full (λ i. asked (g i)) (suc (size c) + k) c) (λ x m. counted (rebuild o false x) m))
  returned c ih n k l o d g e =
      agree_go (full (suc (size (holding g c)) + k)) TooManyNodes
      (and_then (map_children (λ j t. transform_down full n j t) (suc k) (holding g c)) (λ x. done (rebuild o d x)))
      (ap (λ (s : ℕ). full (suc s + k)) (size-holding g c) ∙ e)
      (agree_bind (λ x. done (rebuild o d x)) (λ x m. counted (rebuild o false x) m) below
      (λ x y m r. agree_done (record { node = ap (λ (p : Plan). rebuilt o (facts p)) r.plan; plan = r.plan; number = omega (arith, r.number) })))
    where
      below : AgreesF (suc k) (map_children (λ j t. transform_down full n j t) (suc k) (holding g c)) (count_by full (λ i. asked (g i)) (suc (size c) + k) c)
      below =
          subst (λ (m : ℕ). AgreesF (suc k) (map_children (λ j t. transform_down full n j t) (suc k) (holding g c)) (count_by full (λ i. asked (g i)) m c))
          (omega arith)
          (subst (λ (x : Forest Required). AgreesF (suc k) (map_children (λ j t. transform_down full n j t) (suc k) x)
          (count_by full (λ i. asked (g i)) (size c + suc k) c)) (contexts-asked g c) (ih (λ i. asked (g i)) (λ i z. refl) n (suc k) l))

  -- After a call that returned a sort or merge p over t
  pub over-returned : (n k : ℕ) (p : Op) (d : ParentRequirements) (t : SortPushDown) (Y : Counted Tree) → ((fs : List Facts) → rebuilt p fs ≡ p) →
      full (suc (suc (size t.kids)) + k) ≡ false → AgreesT (suc k) (transform_down full n (suc k) t) Y →
      AgreesT k (after_call full (λ j u. transform_down full n j u) k (returns (node p d (plant t none)))) (bind Y (λ u m. counted (over p false u) m))
  over-returned n k p d t Y q e h =
      agree_go (full (suc (suc (size t.kids + 0)) + k)) TooManyNodes
      (and_then (and_then (transform_down full n (0 + suc k) t) (λ u. done (plant u none))) (λ x. done (rebuild p d x))) (ap full (omega arith) ∙ e)
      (cover_go p d q (subst (λ (m : ℕ). AgreesT (suc k) (transform_down full n m t) Y) (omega arith) h))

  pub returned_full : (n k : ℕ) (t : SortPushDown) → full (size_t t + k) ≡ true →
      AgreesT k (after_call full (λ j u. transform_down full n j u) k (returns t)) (stopped TooManyNodes)
  returned_full n k t e =
      agree_full (full (size_t t + k)) TooManyNodes
      (and_then (map_children (λ j u. transform_down full n j u) (suc k) t.kids) (λ x. done (rebuild t.top.op t.top.mark x))) e
