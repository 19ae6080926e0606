-- One step, backwards: where `Ahead` holds after it, it holds before it, and the roots' streams are the same. `step_back`.
use Rattle.std.specs.Prelude.{◌≡◌, refl, Bool, true, false, cond, List, [], ◌∷◌, ◌++◌, map, ℕ, zero, suc, ◌+◌, eqb, length}
use Rattle.std.proofs.Common.{sym, ap, ap₂, ◌∙◌, subst, append-nil, eq-eqb, ne_eqb}
use Rattle.row_order.specs.Iso.{Row}
use Rattle.row_order.specs.Lists.{concat, All, all_nil, all_cons}
use Rattle.row_order.specs.ListLaws.{all_append, all_over, all_map}
use Rattle.plan.specs.Forest.{Forest, none, tree, roots}
use Rattle.plan.specs.Op.{Op, Plan}
use Rattle.semantics.specs.Facts.{Facts, at0, facts_op, facts}
use Rattle.semantics.specs.Properties.{Cut, cuts}
use Rattle.semantics.specs.Runs.{Streams, in0}
use Rattle.stepping.specs.Outlets.{Placed, place, Outlet, on, tally, keeps, put, inputs}
use Rattle.stepping.specs.Moves.{manner, way, outputs, shown, Taken, nothing_taken, taken, take_by, opens, choices, States, sent, own_moves, inside, moves}
use Rattle.stepping.specs.Coming.{joined, rest, Coming, Ahead, ahead_none, ahead_tree}
use Rattle.stepping.proofs.Theorems.Popping.{Popped, popped_length, put_joined, joined_length}
use Rattle.stepping.proofs.Theorems.Thinning.{each_sub, Thinner, thin_tree, thin_refl}
use Rattle.stepping.proofs.Theorems.Formed.{Formed, Steppable, steppable-none, steppable-tree, ahead_roots}
use Rattle.stepping.proofs.Theorems.Rules.{Took, Goes, goes, Back, made_back}
use Rattle.stepping.proofs.Theorems.Taking.{Restored, Restores}
use Rattle.stepping.proofs.Theorems.Manners.{lone, restored}

pub record Earlier (f : Plan) (st : Forest Outlet) (out' : Forest Streams) : Type 0 where
  pub out : Forest Streams
  pub ahead : Ahead f st out
  pub same : roots out ≡ roots out'
  pub thin : Thinner out' out

abbrev pub StepBack : Plan → Forest Outlet → Forest Outlet → Type 0
StepBack f st st' = (out' : Forest Streams) → Ahead f st' out' → Earlier f st out'

-- ---- a row put on stream k
pub on_append : (k : ℕ) (l m : List Placed) → on k (l ++ m) ≡ on k l ++ on k m
on_append k [] m = refl
on_append k (p ∷ l) m = go (eqb p.stream k) (on_append k l m)
  where
    go : (b : Bool) → on k (l ++ m) ≡ on k l ++ on k m → cond b (p.row ∷ on k (l ++ m)) (on k (l ++ m)) ≡ cond b (p.row ∷ on k l) (on k l) ++ on k m
    go true e = ap (λ (t : List Row). p.row ∷ t) e
    go false e = e

put_here : (k : ℕ) (y : Row) (l : List Placed) (b : Bool) → on k (cond b (l ++ (place k y ∷ [])) l) ≡ cond b (on k l ++ (y ∷ [])) (on k l)
put_here k y l true = on_append k l (place k y ∷ []) ∙ ap (λ (c : Bool). on k l ++ cond c (y ∷ []) []) (eq-eqb k k refl)
put_here k y l false = refl

put_other : (k n : ℕ) (y : Row) (l : List Placed) (b : Bool) → (n ≡ k → ⊥) → on n (cond b (l ++ (place k y ∷ [])) l) ≡ on n l
put_other k n y l true h =
    on_append n l (place k y ∷ []) ∙ ap (λ (c : Bool). on n l ++ cond c (y ∷ []) []) (ne_eqb k n (λ e. h (sym e))) ∙ append-nil (on n l)
put_other k n y l false h = refl

-- what comes is the same before and after
put_same : (q : Cut) (d : Outlet) (k : ℕ) (y : Row) {raw raw' : Streams} → Popped y k raw raw' →
    joined q (λ n. on n d.waiting) (λ n. tally n d.came) raw ≡ joined q (λ n. on n (put q k y d).waiting) (λ n. tally n (put q k y d).came) raw'
put_same q d k y p = put_joined q y (λ n. on n d.waiting) (λ n. on n (put q k y d).waiting) (λ n. tally n d.came) (λ n. tally n (put q k y d).came) p
    (λ n h. (
      put_other k n y d.waiting (keeps q (tally k d.came)) h,
      ap (λ (b : Bool). cond b (suc (tally n d.came)) (tally n d.came)) (ne_eqb k n (λ e. h (sym e))),
    ))
    (put_here k y d.waiting (keeps q (tally k d.came)))
    (ap (λ (b : Bool). cond b (suc (tally k d.came)) (tally k d.came)) (eq-eqb k k refl))

ahead_first : {f : Plan} {st : Forest Outlet} {out : Forest Streams} → Ahead f st out → length (in0 (roots out)) ≡ (at0 (facts f)).streams
ahead_first ahead_none = refl
ahead_first (ahead_tree {o = o} {d = d} h a b) =
    ap length h.is ∙ joined_length (cuts o) (λ n. on n d.waiting) (λ n. tally n d.came) h.raw ∙ h.many

-- ---- the operator that moves
module _ (o : Op) (c r : Plan) (d : Outlet) (sc sr : Forest Outlet) (n : Formed o (length (roots c))) where
  moved : (x : Row) (i k : ℕ) (sc' : Forest Outlet) → Restores c sc (λ y. Took (manner o (facts c)) y i) (taken x sc') → Goes (way o) i k →
      {out' : Forest Streams} → Ahead (tree o c r) (tree (put (cuts o) k (shown o x) d) sc' sr) out' → Earlier (tree o c r) (tree d sc sr) out'
  moved x i k sc' f g (ahead_tree {s = s} {cs = cs'} {rs = rs} h a b) =
      let p = f cs' a in
      let m = made_back o (facts c) (roots p.out) (roots cs') h.raw x i k (subst (Formed o) (sym (ahead_roots p.ahead)) n)
      (ahead_roots a ∙ sym (ahead_roots p.ahead)) (ahead_first p.ahead) p.that g h.made in
      record {
        out = tree s p.out rs;
        ahead = ahead_tree
            (record {
              raw = m.raw;
              made = m.made;
              many = popped_length m.popped ∙ h.many;
              is = h.is ∙ sym (put_same (cuts o) d k (shown o x) m.popped);
            }) p.ahead b;
        same = refl;
        thin = thin_tree (each_sub s) p.thin (thin_refl rs);
      }

  sent_back : (i : ℕ) (t : Taken) → Restores c sc (λ y. Took (manner o (facts c)) y i) t → All (StepBack (tree o c r) (tree d sc sr)) (sent o d sr i t)
  sent_back i nothing_taken f = all_nil
  sent_back i (taken x sc') f = all_over (λ k. tree (put (cuts o) k (shown o x) d) sc' sr) (λ k g out' a. moved x i k sc' f g a) (goes (way o) i)

  own_back : (can : List ℕ) → All (λ i. Restores c sc (λ y. Took (manner o (facts c)) y i) (take_by (manner o (facts c)) (facts c) i sc)) can →
      All (All (All (StepBack (tree o c r) (tree d sc sr)))) (own_moves o (facts c) d sc sr can)
  own_back [] h = all_nil
  own_back (i ∷ can) h = all_cons (all_over (λ j. sent o d sr j (take_by (manner o (facts c)) (facts c) j sc))
      (λ j f. sent_back j (take_by (manner o (facts c)) (facts c) j sc) f) h) all_nil

  -- ---- the nodes around it
  below_back : {sc' : Forest Outlet} → StepBack c sc sc' → {out' : Forest Streams} → Ahead (tree o c r) (tree d sc' sr) out' → Earlier (tree o c r) (tree d sc sr) out'
  below_back f (ahead_tree {s = s} {cs = cs'} {rs = rs} h a b) =
      let e = f cs' a in
      record { out = tree s e.out rs; ahead = ahead_tree (subst (λ (css : List Streams). Coming o (facts c) css d s) (sym e.same) h) e.ahead b; same = refl; thin = thin_tree (each_sub s) e.thin (thin_refl rs) }

  beside_back : {sr' : Forest Outlet} → StepBack r sr sr' → {out' : Forest Streams} → Ahead (tree o c r) (tree d sc sr') out' → Earlier (tree o c r) (tree d sc sr) out'
  beside_back f (ahead_tree {s = s} {cs = cs} {rs = rs'} h a b) =
      let e = f rs' b in
      record { out = tree s cs e.out; ahead = ahead_tree h a e.ahead; same = ap (λ (l : List Streams). s ∷ l) e.same; thin = thin_tree (each_sub s) (thin_refl cs) e.thin }

pub inside_all : {P Q : Forest Outlet → Type 0} (g : Forest Outlet → Forest Outlet) → ((x : Forest Outlet) → P x → Q (g x)) → {ms : List (List States)} →
    All (All (All P)) ms → All (All (All Q)) (inside g ms)
inside_all g h = all_over (map (map g)) (λ l. all_over (map g) (λ m. all_over g h))

pub step_back : (f : Plan) (st : Forest Outlet) → Steppable f → All (All (All (StepBack f st))) (moves f st)
step_back none st s = all_nil
step_back (tree o c r) none s = all_nil
step_back (tree o c r) (tree d sc sr) (steppable-tree n s t) =
    all_append (own_back o c r d sc sr n (choices (manner o (facts c)) (concat (opens c sc)) (inputs (facts c) (roots sc)))
    (restored (manner o (facts c)) c sc s (lone o (facts c) (length (roots c)) n)))
    (all_append (inside_all (λ x. tree d x sr) (λ x f out' a. below_back o c r d sc sr n f a) (step_back c sc s))
    (inside_all (λ x. tree d sc x) (λ x f out' a. beside_back o c r d sc sr n f a) (step_back r sr t)))
