-- From the arena to the answer of a walk.
use Rattle.std.specs.Prelude.{◌≡◌, refl, Bool, true, false, cond, List, ℕ, ◌≤◌, Err, length}
use Rattle.std.proofs.Common.{sym, ap, ◌∙◌, subst, arith}
use Rattle.plan.specs.Forest.{none, size}
use Rattle.plan.specs.declared.Refusal.TheVariants.{HasPartialSort, TooManyNodes}
use Rattle.walks.specs.Marks.{Tree, strip, op_t, plant, size_t}
use Rattle.walks.specs.Counted.{answer_of, bind, Counted, counted, count_up, refused, stopped, answer_to}
use Rattle.arena.specs.Arena.{index, held}
use Rattle.plan_context.specs.View.{tree_in, tree_of, Arena}
use Rattle.plan_context.specs.Records.{plan_t, tree-held}
use Rattle.transform_up.specs.declared.Walk.{Walk}
use Rattle.step_ends.specs.declared.Stop.{Stop}
use Rattle.step_ends.specs.declared.Stop.TheVariants as stop
use Rattle.transform_up.specs.Walking.{step_of}
use Rattle.transform_up.specs.Counting.{count_tree_lem}
use Rattle.transform_up.specs.Frame.{count_of, Outcome, Walkable, Walks}
use Rattle.call_parts.specs.declared.Stop.TheVariants.{Refused}
use Rattle.call_answers.specs.Answers.{Result, refuses, gives, rewritten}
use Rattle.call_parts.specs.PartialSorts.{partial_t, partial_plan, plan_size}
use Rattle.call_parts.specs.Calls.{Called, stopped_as, CalledAs, short_of, Loads}
use Rattle.plan.specs.Op.{Plan}

-- What the call comes to
abbrev pub walk_result : Walk → Plan → Result
walk_result w f = rewritten (answer_to f (count_up (step_of w) (size f) f))

-- ---- the walk of one tree is the walk of its plan

module _ (w : Walk) (t : Tree) (n : ℕ) (e : n ≡ size_t t) where
  count_plan : (x : Counted Tree) → count_of w n t ≡ x → count_up (step_of w) (size (plan_t t)) (plan_t t) ≡ bind x (λ y k. counted (plant y none) k)
  count_plan x q = ap (λ k. count_up (step_of w) k (plan_t t)) (plan_size t ∙ sym e) ∙ count_tree_lem (step_of w) n (op_t t) (strip t.kids) none
      ∙ ap (λ y. bind y (λ y k. counted (plant y none) k)) q

  pub has_partial : partial_t t ≡ true → walk_result w (plan_t t) ≡ refuses HasPartialSort
  has_partial p = ap (λ b. rewritten (cond b (refused HasPartialSort) (answer_of (count_up (step_of w) (size (plan_t t)) (plan_t t))))) (partial_plan t ∙ p)

  module _ (p : partial_t t ≡ false) where
    no_partial : (x : Counted Tree) → count_of w n t ≡ x → walk_result w (plan_t t) ≡ rewritten
        (answer_of (bind x (λ y k. counted (plant y none) k)))
    no_partial x q =
        ap (λ b. rewritten (cond b (refused HasPartialSort) (answer_of (count_up (step_of w) (size (plan_t t)) (plan_t t))))) (partial_plan t ∙ p)
        ∙ ap (λ y. rewritten (answer_of y)) (count_plan x q)

    pub walk_gives : (t' : Tree) (k : ℕ) → count_of w n t ≡ counted t' k → walk_result w (plan_t t) ≡ gives (plan_t t')
    walk_gives t' k q = no_partial (counted t' k) q

    pub walk_refuses : count_of w n t ≡ stopped TooManyNodes → walk_result w (plan_t t) ≡ refuses TooManyNodes
    walk_refuses q = no_partial (stopped TooManyNodes) q

-- ---- settled slots

module _ (m : List ℕ) (u h : ℕ) (c : List ℕ) (p : Loads m u h c) (m' : List ℕ) (l : length m' ≡ length m) (a : Arena m' u)
    (k : (v : ℕ) → held m' v ≡ held m v) where
  pub same_tree : tree_of m' h ≡ tree_of m h
  same_tree = tree-held m m' h k

  pub walkable : (n : ℕ) → n ≡ size_t (tree_of m' h) → Walkable m' u (index h) n c
  walkable n e =
      let x = p.here in let y = p.count in let z = ap size_t same_tree in let f = p.few in
      record { arena = a; here = omega arith; many = omega arith; part = omega arith; low = omega arith; scratch = λ g. p.scratch (omega arith) }

  -- a tree with a partial sort
  module _ (w : Walk) (out : List ℕ) where
    abbrev R : Result
    R = walk_result w (plan_t (tree_of m h))

    abbrev R' : Result
    R' = walk_result w (plan_t (tree_of m' h))

    called : (r : Called) (S : Result) → walk_result w (plan_t (tree_of m' h)) ≡ S → (out' : List ℕ) (n : ℕ) → CalledAs r S out out' n
        → CalledAs r (walk_result w (plan_t (tree_of m h))) out out' n
    called r S e out' n x = subst (λ S. CalledAs r S out out' n) (sym e ∙ ap (λ t. walk_result w (plan_t t)) same_tree) x

    pub partial_refused : (b : Bool) → b ≡ partial_t (tree_in m' (index h)) → b ≡ true
        → CalledAs (Err (Refused HasPartialSort)) (walk_result w (plan_t (tree_of m h))) out out (short_of m)
    partial_refused b e z = called (Err (Refused HasPartialSort)) (refuses HasPartialSort) (has_partial w (tree_of m' h) (size_t (tree_of m' h)) refl (sym e ∙ z)) out
        (short_of m) (refl, refl, refl)

    -- what the walk answers
    module _ (b : Bool) (eb : b ≡ partial_t (tree_in m' (index h))) (z : b ≡ false) (n : ℕ) (en : n ≡ size_t (tree_of m' h)) (m'' : List ℕ)
        (l'' : length m'' ≡ length m') where
      pub walk_wrote : (used root count : ℕ) → Walks w m' u (index h) n m'' used root count → (r : Called) (out' : List ℕ)
          → ((short : ℕ) → CalledAs r (gives (plan_t (tree_of m'' root))) out out' short)
          → CalledAs r (walk_result w (plan_t (tree_of m h))) out out' (short_of m)
      walk_wrote used root count d r out' x =
          called r (gives (plan_t (tree_of m'' root))) (walk_gives w (tree_of m' h) n en (sym eb ∙ z) (tree_of m'' root) count d.is) out' (short_of m)
          (x (short_of m))

      -- it can be written
      pub walk_count : (used root count : ℕ) → Walks w m' u (index h) n m'' used root count → (count ≡ size_t (tree_of m'' root)) × (count ≤ 126)
      walk_count used root count d = let s = d.sum in (omega arith, d.many)

      pub walk_stopped : (s : Stop) → Outcome (Err s) w m' u (index h) n m'' → (r : Called) → r ≡ stopped_as s
          → CalledAs r (walk_result w (plan_t (tree_of m h))) out out (short_of m)
      walk_stopped stop.TooManyNodes x r e =
          subst (λ r. CalledAs r (walk_result w (plan_t (tree_of m h))) out out (short_of m)) (sym e)
          (called (Err (Refused TooManyNodes)) (refuses TooManyNodes) (walk_refuses w (tree_of m' h) n en (sym eb ∙ z) x) out (short_of m)
          (refl, refl, refl))
      walk_stopped stop.NoRoom x r e = subst (λ r. CalledAs r (walk_result w (plan_t (tree_of m h))) out out (short_of m)) (sym e) (refl, omega arith)
