-- What is asked of a plan's nodes in node order, record by record of its file. Assumes nothing.
use Rattle.std.specs.Prelude.{◌≡◌, refl, Bool, true, false, not, ◌&&◌, ◌||◌, List, [], ◌∷◌, ℕ, zero, suc, ◌+◌, ◌≤◌, ◌<◌, eqb, ltb, length, get_or}
use Rattle.std.proofs.Common.{sym, ap, ap₂, ◌∙◌, subst, arith, lt-ltb, le-ltb}
use Rattle.std.proofs.Math.Decide.{dec_lt}
use Rattle.plan.specs.Forest.{none, tree, size, nodes}
use Rattle.plan.specs.Op.{Op, union, Plan}
use Rattle.plan.specs.WellFormed.{every}
use Rattle.plan_format.specs.Blocks.{record_count, record_at, span}
use Rattle.plan_codec.specs.Reading.{plan_of}
use Rattle.semantics.specs.Facts.{lowest}
use Rattle.class_tables.specs.Lowest.{Nowhere, lowest_at}
use Rattle.stepping.specs.Stepping.{is_unstepped, can_step}
use Rattle.stepping.specs.Answers.{first_unstepped}
use Rattle.row_bytes.specs.Constants.{every_join}
use Rattle.source_rows.specs.Files.{op_at, nodes_are, size-nodes, Taken, proper_at, size_is}

get_or-span : {A : Type 0} (f : ℕ → A) (d : A) (i n j : ℕ) → j < n → get_or (span f i n) j d ≡ f (i + j)
unfolding span
get_or-span f d i zero j h = absurd (omega arith)
get_or-span f d i (suc n) zero h = let z : i + 0 ≡ i = omega arith in rw z refl
get_or-span f d i (suc n) (suc j) h = let z : i + suc j ≡ suc i + j = omega arith in rw z (get_or-span f d (suc i) n j (omega arith))

-- ---- 256 + n: the first join or aggregate

lowest_end : (p : ℕ → Bool) (n : ℕ) → Nowhere p n → lowest p n ≡ n
lowest_end p zero h = refl
lowest_end p (suc n) h = rw (h zero (omega arith)) (ap suc (lowest_end (λ i. p (suc i)) n (λ k m. h (suc k) (omega arith))))

-- no node is unstepped exactly if the first such number is past the nodes
abbrev unstepped_at : List Op → ℕ → Bool
unstepped_at l i = is_unstepped (get_or l i union)

steps_are : (f : Plan) → can_step f ≡ every (λ o. not (is_unstepped o)) (nodes f)
steps_are none = refl
steps_are (tree o c r) =
    ap (λ (b : Bool). not (is_unstepped o) && b) (ap₂ ◌&&◌ (steps_are c) (steps_are r) ∙ sym (every_join (λ o. not (is_unstepped o)) (nodes c) (nodes r)))

ltb-suc : (a b : ℕ) → ltb (suc a) (suc b) ≡ ltb a b
ltb-suc a b = go (dec_lt a b)
  where
    go : Dec (a < b) → ltb (suc a) (suc b) ≡ ltb a b
    go (yes h) = lt-ltb (suc a) (suc b) (omega arith) ∙ sym (lt-ltb a b h)
    go (no h) = le-ltb (suc a) (suc b) (omega arith) ∙ sym (le-ltb a b (omega arith))

steps_list : (l : List Op) → every (λ o. not (is_unstepped o)) l ≡ not (ltb (lowest (unstepped_at l) (length l)) (length l))
steps_list [] = refl
steps_list (o ∷ l) = go (is_unstepped o) refl (steps_list l)
  where
    go : (b : Bool) → is_unstepped o ≡ b → every (λ o. not (is_unstepped o)) l ≡ not (ltb (lowest (unstepped_at l) (length l)) (length l))
        → every (λ o. not (is_unstepped o)) (o ∷ l) ≡ not (ltb (lowest (unstepped_at (o ∷ l)) (suc (length l))) (suc (length l)))
    go true e h = simp e (ap not (sym (lt-ltb 0 (suc (length l)) (omega arith))))
    go false e h = simp e (h ∙ ap not (sym (ltb-suc (lowest (unstepped_at l) (length l)) (length l))))

-- "A plan with a join or an aggregate isn't stepped": the caller's test of the number against the node count
pub can_step_lem : (f : Plan) → can_step f ≡ not (ltb (first_unstepped f) (size f))
can_step_lem f = steps_are f ∙ steps_list (nodes f) ∙ ap (λ (m : ℕ). not (ltb (lowest (unstepped_at (nodes f)) m) m)) (sym (size-nodes f))

-- and of a file of n records
pub file_steps : (s : List ℕ) (n r : ℕ) → n ≡ record_count s → r ≡ first_unstepped (plan_of s) → can_step (plan_of s) ≡ not (ltb r n)
file_steps s n r e f = can_step_lem (plan_of s) ∙ sym (ap₂ (λ (i m : ℕ). not (ltb i m)) f (e ∙ sym (size_is s)))

-- the kind byte of a join or an aggregate
abbrev pub unstepped_byte : ℕ → Bool
unstepped_byte k = (eqb k 11 || eqb k 12) || eqb k 15

-- no such record before j
abbrev pub Stepped : List ℕ → ℕ → Type 0
Stepped s j = Nowhere (λ i. unstepped_byte (get_or (record_at s i) 0 0)) j

module _ (s : List ℕ) (n : ℕ) (t : Taken s n) where
  byte_is : (j : ℕ) → j < n → unstepped_byte (get_or (record_at s j) 0 0) ≡ is_unstepped (op_at s j)
  byte_is j h = ap unstepped_byte (proper_at s n t j h).kind

  node_is : (j : ℕ) → j < n → is_unstepped (get_or (nodes (plan_of s)) j union) ≡ unstepped_byte (get_or (record_at s j) 0 0)
  node_is j h =
      let e = t.count in let z : 0 + j ≡ j = omega arith in
      ap is_unstepped (ap (λ (l : List Op). get_or l j union) (nodes_are s) ∙ get_or-span (op_at s) union 0 (record_count s) j (omega arith) ∙ ap (op_at s) z)
      ∙ sym (byte_is j h)

  pub stepped_found : (j : ℕ) (q : Bool) → j < n → Stepped s j → q ≡ unstepped_byte (get_or (record_at s j) 0 0) → q ≡ true → j ≡ first_unstepped (plan_of s)
  stepped_found j q h a e y =
      sym (ap (lowest (λ i. is_unstepped (get_or (nodes (plan_of s)) i union))) (size_is s ∙ sym t.count)
      ∙ lowest_at (λ i. is_unstepped (get_or (nodes (plan_of s)) i union)) n j h (λ k l. node_is k (omega arith) ∙ a k l) (node_is j h ∙ sym e ∙ y))

  pub stepped_more : (j : ℕ) (q : Bool) → Stepped s j → q ≡ unstepped_byte (get_or (record_at s j) 0 0) → q ≡ false → Stepped s (j + 1)
  stepped_more j q a e y k l = go (dec_lt k j)
    where
      go : Dec (k < j) → unstepped_byte (get_or (record_at s k) 0 0) ≡ false
      go (yes m) = a k m
      go (no m) = let z : k ≡ j = omega arith in subst (λ (i : ℕ). unstepped_byte (get_or (record_at s i) 0 0) ≡ false) (sym z) (sym e ∙ y)

  pub stepped_end : (j : ℕ) → n ≤ j → Stepped s j → n ≡ first_unstepped (plan_of s)
  stepped_end j h a =
      sym (ap (lowest (λ i. is_unstepped (get_or (nodes (plan_of s)) i union))) (size_is s ∙ sym t.count)
      ∙ lowest_end (λ i. is_unstepped (get_or (nodes (plan_of s)) i union)) n (λ k l. node_is k l ∙ a k (omega arith)))
