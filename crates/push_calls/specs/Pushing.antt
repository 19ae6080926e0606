-- From the arena to the answer of push.
use Rattle.std.specs.Prelude.{◌≡◌, refl, Bool, true, false, cond, ◌&&◌, List, ℕ, ◌*◌, ◌/◌, ◌≤◌, ◌<◌, eqb, leb, length, Ok, Err}
use Rattle.std.proofs.Common.{sym, ap, ◌∙◌, subst, arith, leb-true}
use Rattle.scan.specs.Below.{and_left, and_right}
use Rattle.plan.specs.Forest.{Forest, none, roots, size}
use Rattle.plan.specs.Op.{Plan}
use Rattle.plan.specs.WellFormed.{nodes_ok, well_formed}
use Rattle.plan.specs.declared.Refusal.{Refusal}
use Rattle.plan.specs.declared.Refusal.TheVariants.{ConstantSort, HasPartialSort, TooManyNodes}
use Rattle.key_lists.specs.Keys.{Real}
use Rattle.walks.specs.Marks.{Marked, Tree, fact, op_t, plant, size_t, strip}
use Rattle.walks.specs.PushdownSorts.{at_root, carry_out, Decision}
use Rattle.walks.proofs.Theorems.Push.WellFormed.{root_fits, VisitFits}
use Rattle.walks.proofs.Theorems.Calls.Answers.{pushed_well}
use Rattle.walks.specs.Counted.{afterwards, answered, answer_of, bind, constant_sort, count_down, Counted, counted, overflows, pushed, refused, stopped}
use Rattle.arena.specs.Arena.{slot_size, index, held}
use Rattle.plan_context.specs.View.{tree_in, tree_of, Arena}
use Rattle.plan_context.specs.Records.{plan_t, tree-held}
use Rattle.sort_pushdown.specs.declared.Visit.{Visit}
use Rattle.sort_pushdown.specs.Decisions.{visit_of}
use Rattle.pushdown_sorts.specs.declared.Walked.{Walked}
use Rattle.pushdown_sorts.specs.Walk.{counted_t, decided, Ends, pushed_t, Pushes}
use Rattle.call_parts.specs.declared.Stop.TheVariants.{Refused, NoRoom}
use Rattle.call_answers.specs.Answers.{gives, refuses, rewritten}
use Rattle.call_parts.specs.PartialSorts.{partial_t}
use Rattle.call_parts.specs.Calls.{Called, CalledAs, push_short, Formed, Pushable}
use Rattle.call_parts.specs.PartialSorts.{partial_plan, plan_size}

-- ---- the walk of one tree is the walk of its plan

alone : (D : Decision) (a b : Bool) (x : Counted (Forest Marked))
    → cond a (stopped ConstantSort) (cond b (stopped TooManyNodes) (bind x (λ d m. counted (plant (carry_out D d) none) m)))
    ≡ bind (cond a (stopped ConstantSort) (cond b (stopped TooManyNodes) (bind x (λ d m. counted (carry_out D d) m)))) (λ y k. counted (plant y none) k)
alone D true b x = refl
alone D false true x = refl
alone D false false (stopped e) = refl
alone D false false (counted d m) = refl

count_plan : (n : ℕ) (t : Tree) → count_down (λ i. at_root) n (plan_t t) ≡ bind (counted_t at_root n t) (λ y k. counted (plant y none) k)
count_plan n t = alone (decided at_root t) (constant_sort (op_t t) (strip t.kids)) (overflows (decided at_root t) n)
    (count_down (decided at_root t).reqs (afterwards (decided at_root t) n) (strip t.kids))

module _ (t : Tree) where
  pub push_partial : partial_t t ≡ true → rewritten (pushed (plan_t t)) ≡ refuses HasPartialSort
  push_partial p = ap (λ b. rewritten (cond b (refused HasPartialSort) (answer_of (count_down (λ i. at_root) (size (plan_t t)) (plan_t t)))))
      (partial_plan t ∙ p)

  module _ (p : partial_t t ≡ false) (n : ℕ) (e : n ≡ size_t t) where
    no_partial : (x : Counted Tree) → counted_t at_root n t ≡ x → pushed (plan_t t) ≡ answer_of (bind x (λ y k. counted (plant y none) k))
    no_partial x q =
        ap (λ b. cond b (refused HasPartialSort) (answer_of (count_down (λ i. at_root) (size (plan_t t)) (plan_t t)))) (partial_plan t ∙ p)
        ∙ ap (λ k. answer_of (count_down (λ i. at_root) k (plan_t t))) (plan_size t ∙ sym e) ∙ ap answer_of (count_plan n t)
        ∙ ap (λ y. answer_of (bind y (λ y k. counted (plant y none) k))) q

    push_answers : (t' : Tree) (k : ℕ) → counted_t at_root n t ≡ counted t' k → pushed (plan_t t) ≡ answered (plan_t t')
    push_answers t' k q = no_partial (counted t' k) q

    push_stops : (x : Refusal) → counted_t at_root n t ≡ stopped x → pushed (plan_t t) ≡ refused x
    push_stops x q = no_partial (stopped x) q

few_nodes : (g : Plan) → well_formed g ≡ true → size g ≤ 126
few_nodes g e = leb-true (size g) 126 (and_left (leb (size g) 126) (nodes_ok g) (and_right (eqb (length (roots g)) 1) (leb (size g) 126 && nodes_ok g) e))

-- ---- the call

module _ (m : List ℕ) (u h n : ℕ) (p : Pushable m u h n) where
  pub push_asks : (b : List ℕ) → 3 * n * slot_size ≤ length b → (v : Visit) → visit_of v ≡ at_root → Real v.req.order → Pushes m u h b 0 v n
  push_asks b l v e r =
      let c = p.count in let f = p.few in
      record {
        visits = record {
          from = p.arena;
          here = p.here;
          real = r;
          fits = subst (VisitFits (fact (tree_of m h)).width) (sym e)
              (root_fits (plan_t (tree_of m h)) 0 (omega arith));
        };
        arena = record { slots = omega arith; small = omega arith; all = λ i k. absurd (omega arith) };
        room = omega arith;
        small = omega arith;
        low = omega arith;
        high = omega arith;
      }

  module _ (out : List ℕ) (v : Visit) (e : visit_of v ≡ at_root) (b b' : List ℕ) where
    pub push_refused : (x : Refusal) → Ends (visit_of v) n (tree_in m (index h)) b 0 b' (Err x) → (short : ℕ)
        → CalledAs (Err (Refused x)) (rewritten (pushed (plan_t (tree_of m h)))) out out short
    push_refused x d short =
        subst (λ R. CalledAs (Err (Refused x)) R out out short)
        (sym (ap rewritten (push_stops (tree_of m h) p.whole n p.count x (ap (λ w. counted_t w n (tree_of m h)) (sym e) ∙ d)))) (refl, refl, refl)

    module _ (x : Walked) (d : Ends (visit_of v) n (tree_in m (index h)) b 0 b' (Ok x)) where
      answers : pushed (plan_t (tree_of m h)) ≡ answered (plan_t (tree_of b' x.root))
      answers =
          push_answers (tree_of m h) p.whole n p.count (pushed_t (visit_of v) (tree_in m (index h))) x.count
          (ap (λ w. counted_t w n (tree_of m h)) (sym e) ∙ d.is)
          ∙ ap (λ t. answered (plan_t t)) (sym d.grown.tree)

      pub push_count : (k : ℕ) → k ≡ size_t (tree_of b' x.root) → k ≤ 126
      push_count k c = let y = few_nodes (plan_t (tree_of b' x.root)) (pushed_well (plan_t (tree_of m h)) (plan_t (tree_of b' x.root)) p.plan answers) in
          let z = plan_size (tree_of b' x.root) in omega arith

      pub push_wrote : (r : Called) (out' : List ℕ) (k : ℕ) → CalledAs r (gives (plan_t (tree_of b' x.root))) out out' k
          → CalledAs r (rewritten (pushed (plan_t (tree_of m h)))) out out' k
      push_wrote r out' k y = subst (λ R. CalledAs r R out out' k) (sym (ap rewritten answers)) y

-- ---- settled slots

module _ (m : List ℕ) (u h : ℕ) (p : Formed m u h) (m' : List ℕ) (a : Arena m' u) (k : (v : ℕ) → held m' v ≡ held m v) where
  pub same_tree : tree_of m' h ≡ tree_of m h
  same_tree = tree-held m m' h k

  pub few : (n : ℕ) → n ≡ size_t (tree_of m' h) → n ≤ 126
  few n c = let s = p.size in let q = ap size_t same_tree in omega arith

  pub pushable : (b : Bool) → b ≡ partial_t (tree_in m' (index h)) → b ≡ false → (n : ℕ) → n ≡ size_t (tree_of m' h) → Pushable m' u h n
  pushable b e z n c =
      record { arena = a; here = p.here; plan = ap (λ t. well_formed (plan_t t)) same_tree ∙ p.plan; count = c; few = few n c; whole = sym e ∙ z }

  pub partial_refused : (b : Bool) → b ≡ partial_t (tree_in m' (index h)) → b ≡ true → (out : List ℕ) (short : ℕ)
      → CalledAs (Err (Refused HasPartialSort)) (rewritten (pushed (plan_t (tree_of m h)))) out out short
  partial_refused b e z out short =
      subst (λ R. CalledAs (Err (Refused HasPartialSort)) R out out short) (sym (push_partial (tree_of m' h) (sym e ∙ z)) ∙ ap (λ t. rewritten (pushed (plan_t t))) same_tree)
      (refl, refl, refl)

  -- an arena of fewer slots is not one of three for each of 126 nodes
  pub push_no_room : (n : ℕ) → n ≡ size_t (tree_of m' h) → (b : List ℕ) → length b / slot_size < 3 * n → (out : List ℕ)
      → CalledAs (Err NoRoom) (rewritten (pushed (plan_t (tree_of m h)))) out out (push_short b)
  push_no_room n c b g out = let f = few n c in (refl, omega arith)

  pub as_read : (r : Called) (out out' : List ℕ) → ((short : ℕ) → CalledAs r (rewritten (pushed (plan_t (tree_of m' h)))) out out' short) → (short : ℕ)
      → CalledAs r (rewritten (pushed (plan_t (tree_of m h)))) out out' short
  as_read r out out' f short = subst (λ t. CalledAs r (rewritten (pushed (plan_t t))) out out' short) same_tree (f short)
