-- The walk of a subtree: its children left to right, then the step.
use Rattle.std.specs.Prelude.{◌≡◌, refl, true, false, cond, List, [], ◌⊎◌, ℕ, suc, ◌+◌, ◌*◌, ◌-◌, ◌≤◌, ◌<◌, Result, Ok, Err, length, get_or, take, drop, set}
use Rattle.std.proofs.Common.{sym, ap₂, ◌∙◌, subst, inl, inr, arith, add-one, drop_of_length-le, drop-cons, length-take-le}
use Rattle.std.proofs.Math.Path.{ap}
use Rattle.plan.specs.Forest.{none, tree, size}
use Rattle.plan.specs.Op.{Op, Plan}
use Rattle.plan.specs.declared.Refusal.TheVariants.{TooManyNodes}
use Rattle.plan_format.specs.Record.{children}
use Rattle.plan_codec.specs.Decode.{decode}
use Rattle.plan_codec.specs.Encode.{encode}
use Rattle.arena.specs.Arena.{slot, index, Below}
use Rattle.arena.specs.declared.At.{At}
use Rattle.arena.specs.Laws.{below_at}
use Rattle.walks.specs.Marks.{Tree, node, plant, op_t, size_t, rebuild, strip, bare, transform_up}
use Rattle.walks.specs.Terms.{◌⊕◌}
use Rattle.walks.specs.Trees.{OkT, FitsA, arity}
use Rattle.walks.proofs.Theorems.Common.Trees.{ok_fit, strip-size}
use Rattle.walks.specs.Trees as walks
use Rattle.walks.proofs.Theorems.Common.Keeps.{kept_node, like_refl, walk_kept, strip-bare}
use Rattle.walks.specs.Counted.{stopped, counted, bind, too_many, stepped, count_up}
use Rattle.plan_context.specs.View.{tree_in, tree_of, forest}
use Rattle.plan_context.specs.Laws.{same_trans, slot_same, in_same}
use Rattle.plan_context.specs.Nodes.{Seen, seen}
use Rattle.plan_updates.specs.Kids.{kids_none, kids_more, kids_forest, plus_none}
use Rattle.transform_up.specs.declared.Walk.{Walk}
use Rattle.step_ends.specs.declared.Walked.{Walked}
use Rattle.step_ends.specs.declared.Stop.{Stop}
use Rattle.step_ends.specs.declared.Stop.TheVariants as stop
use Rattle.transform_up.specs.Walking.{step_of, may_add}
use Rattle.transform_up.proofs.Walking.{step_keeps}
use Rattle.transform_up.specs.Counting.{count_is, Going, going-none, going_more, going_stop}
use Rattle.step_ends.specs.Tidying.{tidy_from}
use Rattle.transform_up.specs.Finishing.{total, Finish, Finished}
use Rattle.transform_up.specs.Frame.{Walkable, count_of, Walks, Outcome, Walking}

-- ---- contracts

module _ (w : Walk) (m₀ : List ℕ) (v i n : ℕ) (c : List ℕ) (p : Walkable m₀ v i n c) where
  abbrev ks : List ℕ
  ks = (slot m₀ i).kids

  pub shown : Seen m₀ i
  shown = seen m₀ i (p.arena.all i p.here).proper

  whole-size : size_t (tree_in m₀ i) ≡ suc (size (forest m₀ (slot m₀ i).kids))
  whole-size = ap size_t shown.tree

  pub walking_none : (kids : List ℕ) → length kids ≡ 8 → Walking w m₀ v i n 0 v n kids m₀
  unfolding forest
  walking_none kids l =
      let s = whole-size in let a = p.part in let b = p.low in
      record {
        made = kids_none m₀ v kids p.arena l;
        going = going-none (step_of w) n (strip (forest m₀ ks));
        many = p.many;
        less = omega arith;
        part = omega arith;
        low = omega arith;
      }

  -- the slot is as it was
  pub slot_is : (j u k : ℕ) (kids m : List ℕ) → Walking w m₀ v i n j u k kids m → slot m i ≡ slot m₀ i
  slot_is j u k kids m q = slot_same v m₀ m q.made.old i p.here

  module _ (j u k : ℕ) (kids m : List ℕ) (q : Walking w m₀ v i n j u k kids m) (l : j < length (slot m₀ i).kids) where
    abbrev h : ℕ
    h = get_or (slot m₀ i).kids j 0

    split : forest m₀ (drop j (slot m₀ i).kids) ≡ plant (tree_of m₀ (get_or (slot m₀ i).kids j 0)) (forest m₀ (drop (suc j) (slot m₀ i).kids))
    unfolding forest
    split = ap (forest m₀) (drop-cons ks j 0 l)

    below_here : get_or (slot m₀ i).kids j 0 < 2 * i
    below_here = below_at (2 * i) ks j shown.below l

    same_tree : tree_in m (index (get_or (slot m₀ i).kids j 0)) ≡ tree_in m₀ (index (get_or (slot m₀ i).kids j 0))
    same_tree = let x = below_here in let y = p.here in in_same v m₀ m q.made.old (index h) (omega arith)

    pub walking_next : (c' : List ℕ) → length c' ≡ length c → (index (get_or (slot m₀ i).kids j 0) < i)
        × Walkable m u (index (get_or (slot m₀ i).kids j 0)) k c'
    walking_next c' lc =
        let lo = q.made.long in
        let x = below_here in let y = p.here in let z = q.made.more in let s = ap size split in let t = ap size_t same_tree in
        let a = q.part in let b = q.low in (
          omega arith,
          record {
            arena = q.made.arena;
            here = omega arith;
            many = q.many;
            part = omega arith;
            low = omega arith;
            scratch = λ f. let sc = p.scratch (omega arith) in omega arith;
          },
        )

    module _ (m' : List ℕ) (lm : length m' ≡ length m) (used root count : ℕ)
        (d : Walks w m u (index (get_or (slot m₀ i).kids j 0)) k m' used root count) where
      abbrev at' : At
      at' = record { used = used; root = root }

      child_is : count_of w k (tree_of m₀ (get_or (slot m₀ i).kids j 0)) ≡ counted (tree_of m' root) count
      child_is = ap (count_of w k) (sym same_tree) ∙ d.is

      pub walking_more : Walking w m₀ v i n (j + 1) used count (set kids j root) m'
      walking_more =
          let f = shown.few in let s = ap size split in let t = ap size_t same_tree in
          let a = q.part in let b = q.low in let e = d.sum in let le = q.less in
          record {
            made = kids_more m₀ v j u kids m q.made (omega arith) m' lm at' (tree_of m' root) used d.grown;
            going = subst (λ x. Going (step_of w) n (strip (forest m₀ ks)) (forest m' (take (j + 1) (set kids j root))) count
                (strip (forest m₀ (drop x ks)))) (sym (add-one j)) more;
            many = d.many;
            less = rw (add-one j) (omega arith);
            part = rw (add-one j) (omega arith);
            low = rw (add-one j) (low d.low);
          }
        where
          more : Going (step_of w) n (strip (forest m₀ ks)) (forest m' (take (j + 1) (set kids j root))) count (strip (forest m₀ (drop (suc j) ks)))
          more =
              let f = shown.few in
              going_more (step_of w) n (strip (forest m₀ ks)) (forest m (take j kids)) k (op_t (tree_of m₀ h)) (strip (tree_of m₀ h).kids)
              (strip (forest m₀ (drop (suc j) ks))) (tree_of m' root) count
              (forest m' (take (j + 1) (set kids j root)))
              (kids_forest m₀ v j u kids m q.made (omega arith) m' lm at' (tree_of m' root) used d.grown) child_is
              (subst (λ x. Going (step_of w) n (strip (forest m₀ ks)) (forest m (take j kids)) k (strip x)) split q.going)

          low : (used ≤ tidy_from) ⊎ (used ≤ u + size_t (tree_of m' root)) → used + suc (size (forest m₀ (drop (suc j) ks))) ≤ tidy_from + count
          low (inl x) =
              let s = ap size split in let t = ap size_t same_tree in let a = q.part in let e = d.sum in omega arith
          low (inr x) =
              let s = ap size split in let t = ap size_t same_tree in let b = q.low in let e = d.sum in omega arith

    -- a child's walk that stops ends this one
    pub walking_stops : (s : Stop) (m' : List ℕ) → Outcome (Err s) w m u (index (get_or (slot m₀ i).kids j 0)) k m' → Outcome (Err s) w m₀ v i n m'
    walking_stops stop.TooManyNodes m' e =
        ap (count_of w n) shown.tree
        ∙ going_stop (step_of w) n (decode (slot m₀ i).rec) (strip (forest m₀ ks)) (forest m (take j kids)) k (op_t (tree_of m₀ h))
        (strip (tree_of m₀ h).kids) (strip (forest m₀ (drop (suc j) ks)))
        (ap (count_of w k) (sym same_tree) ∙ e)
        (subst (λ x. Going (step_of w) n (strip (forest m₀ ks)) (forest m (take j kids)) k (strip x)) split q.going)
    walking_stops stop.NoRoom m' e = let l = q.made.long in omega arith

  -- all children are walked
  module _ (j a u k : ℕ) (kids m : List ℕ) (q : Walking w m₀ v i n j u k kids m) (f : a ≡ j) (e : a ≡ children (slot m₀ i).rec) where
    ends : drop j (slot m₀ i).kids ≡ []
    ends = let x = shown.count in drop_of_length-le ks {i = j} (omega arith)

    answer : count_up (step_of w) n (strip (forest m₀ (slot m₀ i).kids)) ≡ counted (forest m (take a kids)) k
    unfolding forest
    answer =
        q.going ∙ ap (λ l. bind (count_up (step_of w) k (strip (forest m₀ l))) (λ s i. counted (forest m (take j kids) ⊕ s) i)) ends
        ∙ ap (λ x. counted x k) (plus_none (forest m (take j kids)) ∙ ap (λ x. forest m (take x kids)) (sym f))

    whole : (forest m (take a kids) ≡ transform_up (step_of w) (strip (forest m₀ (slot m₀ i).kids)))
        × (k + size (strip (forest m₀ (slot m₀ i).kids)) ≡ n + size (forest m (take a kids)))
    whole = let x = p.part in let y = whole-size in let z = strip-size (forest m₀ ks) in
        count_is (step_of w) n (strip (forest m₀ ks)) (forest m (take a kids)) k (omega arith) answer

    -- the count before the step, as the code has it
    pub before_is : (was : ℕ) → was ≡ size_t (tree_in m₀ i) → (k + was - n ≡ suc (size (forest m (take a kids)))) × (n ≤ k + was)
    before_is was b = let x = whole.1 in let y = whole-size in let z = strip-size (forest m₀ ks) in (omega arith, omega arith)

    ok_whole : walks.Ok (tree (decode (slot m₀ i).rec) (strip (forest m₀ (slot m₀ i).kids)) none)
    ok_whole = let o = shown.ok in (o.0, o.1, tt)

    ok_open : OkT (node (decode (slot m₀ i).rec) false (forest m (take a kids)))
    ok_open =
        let g : Plan = strip (forest m₀ ks) in
        let o : Op = decode (slot m₀ i).rec in
        let s = strip-bare g in
        let fits = ok_fit (tree o g none) ok_whole in
        let kept = kept_node {a = may_add w} {b = true} {h = true} o o false false (bare g) (transform_up (step_of w) g) (like_refl o)
        (subst (λ x. FitsA (arity o) (walks.count x)) (sym s) fits.0) (walk_kept (step_of w) (step_keeps w) g fits.1) in
        let y = subst (λ x. walks.Ok (tree o x none)) (sym s) ok_whole in
        subst (λ x. OkT (node o false x)) (sym whole.0) (kept.ok refl (y.0, y.1))

    pub walking_end : (c' : List ℕ) → length c' ≡ length c → (before : ℕ) → before ≡ suc (size (forest m (take a kids)))
        → Finish m v u (take a kids) i k before c'
    walking_end c' lc before b =
        let lo = q.made.long in let x = p.part in let y = whole.1 in let z = q.low in let wd = q.made.wide in let fc = shown.count in
        let fw = shown.few in
        let ws = whole-size in let ss = strip-size (forest m₀ ks) in
        let si = slot_is j u k kids m q in
        let t : length (take a kids) ≡ length ks = length-take-le a kids (omega arith) ∙ e ∙ fc in
        record {
          arena = q.made.arena;
          more = q.made.more;
          hint = p.here;
          below = subst (λ x. Below (2 * u) (take x kids)) (sym f) q.made.below;
          canon = subst (λ s. s.rec ≡ encode (length (take a kids)) (decode s.rec)) (sym si)
              (shown.canon ∙ ap (λ x. encode x (decode (slot m₀ i).rec)) (sym t));
          ok = subst (λ s. OkT (node (decode s.rec) false (forest m (take a kids)))) (sym si) ok_open;
          many = q.many;
          counts = b;
          part = omega arith;
          low = omega arith;
          scratch = λ f. let sc = p.scratch (omega arith) in omega arith;
        }

    abbrev t : Tree
    t = rebuild (decode (slot m₀ i).rec) false (forest m (take a kids))

    stepped-is : count_of w n (tree_in m₀ i)
        ≡ cond (too_many (total w (rebuild (decode (slot m₀ i).rec) false (forest m (take a kids))) k)) (stopped TooManyNodes)
        (counted (step_of w (rebuild (decode (slot m₀ i).rec) false (forest m (take a kids))))
        (total w (rebuild (decode (slot m₀ i).rec) false (forest m (take a kids))) k))
    stepped-is = ap (count_of w n) shown.tree ∙ ap (λ x. bind x (λ d m. stepped (step_of w) (decode (slot m₀ i).rec) d m (λ t k. counted t k))) answer

    pub walking_done : (m' : List ℕ) (r : Result Walked Stop) → Finished r w (rebuild (decode (slot m i).rec) false (forest m (take a kids))) k m v m'
        → Outcome r w m₀ v i n m'
    walking_done m' r x = go r (subst (λ s. Finished r w (rebuild (decode s.rec) false (forest m (take a kids))) k m v m') (slot_is j u k kids m q) x)
      where
        go : (r : Result Walked Stop) → Finished r w (rebuild (decode (slot m₀ i).rec) false (forest m (take a kids))) k m v m' → Outcome r w m₀ v i n m'
        go (Err stop.TooManyNodes) e = stepped-is ∙ ap (λ z. cond z (stopped TooManyNodes) (counted (step_of w t) (total w t k))) e
        go (Err stop.NoRoom) e = let l = q.made.long in omega arith
        go (Ok d) e =
            let x = p.part in let y = whole.1 in let c₁ = e.counts in let s = ap size_t e.tree in let ws = whole-size in
            let ss = strip-size (forest m₀ ks) in
            record {
              is = stepped-is ∙ ap (λ z. cond z (stopped TooManyNodes) (counted (step_of w t) (total w t k))) e.fits ∙ ap₂ counted (sym e.tree)
                  (sym c₁);
              grown = record {
                arena = e.arena;
                old = same_trans v v m₀ m m' (omega arith) q.made.old e.old;
                more = e.more;
                here = e.here;
                tree = refl;
                room = omega arith;
              };
              low = subst (λ z. (d.used ≤ tidy_from) ⊎ (d.used ≤ v + size_t z)) (sym e.tree) e.low;
              many = e.most;
              sum = omega arith;
            }
