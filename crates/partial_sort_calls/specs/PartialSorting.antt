-- From the arena to the answer of partial sorting.
use Rattle.std.specs.Prelude.{◌≡◌, refl, Bool, true, false, cond, List, ℕ, zero, suc, ◌+◌, ◌-◌, ◌/◌, ◌≤◌, ◌<◌, Err, ltb, length}
use Rattle.std.proofs.Common.{sym, ap, ◌∙◌, subst, arith}
use Rattle.plan.specs.Forest.{none, size, tree}
use Rattle.plan.specs.Op.{Op, Plan}
use Rattle.plan.specs.declared.Refusal.{Refusal}
use Rattle.walks.specs.Marks.{size_t}
use Rattle.walks.specs.PartialSort.{set_node}
use Rattle.walks.specs.Counted.{partially_sorted, refused}
use Rattle.arena.specs.Arena.{slot_size, held}
use Rattle.plan_context.specs.View.{tree_of, Arena}
use Rattle.plan_context.specs.Records.{plan_t, tree-held}
use Rattle.partial_sort_by_number.specs.AtNumber.{Became}
use Rattle.partial_sort_by_number.specs.ByNumber.{Sorting}
use Rattle.arena.specs.declared.At.{At}
use Rattle.call_parts.specs.declared.Stop.TheVariants.{Refused, NoRoom}
use Rattle.call_answers.specs.Answers.{gives, rewritten}
use Rattle.call_parts.specs.Calls.{Called, CalledAs, short_of, Formed}
use Rattle.call_parts.specs.PartialSorts.{plan_size}

set_size : (n : ℕ) (p : Op) (f : Plan) → size (set_node n p f) ≡ size f
set_size n p none = refl
set_size zero p (tree o c r) = refl
set_size (suc n) p (tree o c r) = go (ltb n (size c)) (set_size n p c) (set_size (n - size c) p r)
  where
    go : (b : Bool) → size (set_node n p c) ≡ size c → size (set_node (n - size c) p r) ≡ size r
        → size (cond b (tree o (set_node n p c) r) (tree o c (set_node (n - size c) p r))) ≡ size (tree o c r)
    go true x y = omega arith
    go false x y = omega arith

module _ (m : List ℕ) (u h : ℕ) (p : Formed m u h) (few : u ≤ 126) (m' : List ℕ) (l : length m' ≡ length m) (a : Arena m' u)
    (k : (v : ℕ) → held m' v ≡ held m v) (i : ℕ) (ei : i ≡ size_t (tree_of m' h)) where
  same_tree : tree_of m' h ≡ tree_of m h
  same_tree = tree-held m m' h k

  -- too little room: then the arena is not a full one
  pub partial_no_room : (n : ℕ) (out : List ℕ) → length m' / slot_size < u + i → CalledAs (Err NoRoom) (rewritten (partially_sorted n (plan_t (tree_of m h)))) out out
      (short_of m)
  partial_no_room n out g = let s = p.size in let q = ap size_t same_tree in (refl, omega arith)

  pub partial_asks : u + i ≤ length m' / slot_size → Sorting m' u h
  partial_asks g = let s = p.size in let q = ap size_t same_tree in record { arena = a; here = p.here; room = omega arith; small = omega arith }

  module _ (n : ℕ) (out : List ℕ) where
    pub partial_refuses : (x : Refusal) → partially_sorted n (plan_t (tree_of m' h)) ≡ refused x
        → CalledAs (Err (Refused x)) (rewritten (partially_sorted n (plan_t (tree_of m h)))) out out (short_of m)
    partial_refuses x e =
        subst (λ R. CalledAs (Err (Refused x)) R out out (short_of m)) (sym (ap rewritten (ap (λ t. partially_sorted n (plan_t t)) (sym same_tree) ∙ e)))
        (refl, refl, refl)

    module _ (m'' : List ℕ) (b : At) (d : Became m' u m'' h n b) where
      -- as many nodes as before
      pub partial_count : (i ≡ size_t (tree_of m'' b.root)) × (i ≤ 126)
      partial_count =
          let x = plan_size (tree_of m'' b.root) in let y = ap size d.plan in let z = set_size n d.op (plan_t (tree_of m' h)) in
          let w = plan_size (tree_of m' h) in let q = ap size_t same_tree in let s = p.size in
          (omega arith, omega arith)

      pub partial_wrote : (r : Called) (out' : List ℕ) → ((short : ℕ) → CalledAs r (gives (plan_t (tree_of m'' b.root))) out out' short)
          → CalledAs r (rewritten (partially_sorted n (plan_t (tree_of m h)))) out out' (short_of m)
      partial_wrote r out' f = subst (λ R. CalledAs r R out out' (short_of m))
          (sym (ap rewritten (ap (λ t. partially_sorted n (plan_t t)) (sym same_tree) ∙ d.is))) (f (short_of m))
