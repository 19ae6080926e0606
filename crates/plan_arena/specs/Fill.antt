-- The arena is filled from the file's last record to its first; the numbers of the finished trees stand on a stack.
use Rattle.std.specs.Prelude.{◌≡◌, Bool, true, false, ◌||◌, leb, eqb, length, take, set}
use Rattle.std.proofs.Math.Path.{ap, ap₂, sym, subst}
use Rattle.std.proofs.Common.{◌∙◌, drop_of_length-le, length-take-le, leb-true, eqb-true}
use mathlib.Core.List.{List, [], ◌∷◌}
use Prim.Native.Nat.{ℕ, suc, ◌+◌, ◌*◌, ◌-◌, ◌≤◌, ◌<◌}
use native.Mathlib.Omega.{arith}
use Rattle.std.proofs.Math.Decide.{ℕ_discrete}
use Rattle.std.proofs.Math.ListN.{get_or, drop, length-drop}
use Rattle.std.proofs.Math.Seq.{drop-cons, drop-length}
use Rattle.scan.specs.Below.{all_at, and_right, or_false}
use Rattle.scan.specs.ByteLaws.{cut, length_part}
use Rattle.plan.specs.Forest.{none, tree}
use Rattle.plan.specs.WellFormed.{between}
use Rattle.plan_format.specs.Record.{children, kind_byte, either, children_ok, kind_ok}
use Rattle.plan_format.specs.Blocks.{block_count, record_count, record_start, record_at, span}
use Rattle.plan_format.specs.Reading.{children_at, kinds_ok, tree_ok}
use Rattle.plan_format.specs.Tree.{take_f, drop_f, build, tree_of}
use Rattle.plan_passes.specs.Stack.{child_byte, record_lent, child_byte_lem, rest, rest_back, Stack, stack_start, children_found, pushed, stack_more, stack_end}
use Rattle.arena.specs.Arena.{Node, slot_size, index, held, leaf, beside, forest, planted, trees, tree_at, at, Below, GoodNode, Good, same, more}
use Rattle.arena.specs.Laws.{index_even, at_new, length-trees, ext_tree, below_more, below_take, below_drop, forest_new, forest-take, forest-drop}
use Rattle.arena.specs.Held.{node_of, length-held, Appends, Appended, held_more}
use Rattle.plan_arena.specs.Parts.{Part, here, part_new}

-- What the file s leaves in the memory m: its nodes in the first u slots and no others, its tree at the handle r. What is kept of them is free
pub record HoldsTree (s m : List ℕ) (u r : ℕ) : Type 0 where
  pub used : u ≡ record_count s
  pub good : Good (held m u)
  pub here : r < 2 * u
  pub parts : (j : ℕ) → j < u → Part (tree_at (held m u) (2 * j)) (tree_of s)
  pub tree : tree_at (held m u) r ≡ tree_of s

-- Before record i of c: u nodes; the stack holds the numbers of the finished trees
pub record Filled (s : List ℕ) (c i u t : ℕ) (w m : List ℕ) : Type 0 where
  pub new : u + i ≡ c
  pub stack : Stack s c i t w
  pub good : Good (held m u)
  pub below : Below (2 * u) (drop t w)
  pub are : forest (trees (held m u)) (drop t w) ≡ build (rest s c i)
  pub parts : (j : ℕ) → j < u → Part (tree_at (held m u) (2 * j)) (build (rest s c i))

pub fill_start : (s : List ℕ) (c : ℕ) (w m : List ℕ) → c ≤ 126 → length w ≡ 126 → Filled s c c 0 126 w m
unfolding span held trees forest
fill_start s c w m h l =
    let z : c - c ≡ 0 = omega arith in
    let e : drop 126 w ≡ [] = ap (λ (n : ℕ). drop n w) (sym l) ∙ drop-length w in
    record { new = omega arith; stack = stack_start s c w h l; good = tt; below = rw e tt; are = rw (e, z); parts = λ j l. absurd (omega arith) }

-- a child count that the kind can have is at most eight
kind_few : (r : List ℕ) → kind_ok r ≡ true → children r ≤ 8
kind_few r e = go (eqb k 4) (eqb k 11 || eqb k 12) (eqb k 1) (and_right (between 1 15 k) (children_ok k n) e)
  where
    k : ℕ
    k = kind_byte r

    n : ℕ
    n = children r

    go : (u j s : Bool) → either u (between 2 8 n) (either j (eqb n 2) (either s (eqb n 0) (eqb n 1))) ≡ true → n ≤ 8
    go true j s e = leb-true n 8 (and_right (leb 2 n) (leb n 8) (sym (or_false (between 2 8 n)) ∙ e))
    go false true s e = omega (arith, eqb-true n 2 (sym (or_false (eqb n 2)) ∙ e))
    go false false true e = omega (arith, eqb-true n 0 (sym (or_false (eqb n 0)) ∙ e))
    go false false false e = omega (arith, eqb-true n 1 e)

-- What `fill` asks
pub record Fillable (s : List ℕ) (c room : ℕ) : Type 0 where
  pub count : c ≡ record_count s
  pub blocks : c ≤ 7 * block_count s
  pub most : c ≤ 126
  pub kinds : kinds_ok s ≡ true
  pub shape : tree_ok s ≡ true
  pub fits : c * slot_size ≤ room

module _ (s : List ℕ) (c room : ℕ) (a : Fillable s c room) where
  pub few_children : (j : ℕ) → j < c → children_at s j ≤ 8
  unfolding kinds_ok
  few_children j h = let e = a.count in kind_few (record_at s j) (all_at (λ i. kind_ok (record_at s i)) (record_count s) a.kinds j (omega arith))

  pub long_record : (j : ℕ) → j < c → length (record_at s j) ≡ 64
  long_record j h = let b = a.blocks in length_part s (record_start j) 64 (omega arith)

  module _ (i u t : ℕ) (w m : List ℕ) (z : 0 < i) (p : Filled s c i u t w m) where
    -- the record finds its children
    found : children_at s (i - 1) ≤ length (drop t w)
    found = children_found s c i t w z p.stack a.count a.shape

    pub fill_fine : (k : ℕ) → k ≡ children_at s (i - 1) → (length (take k (drop t w)) ≡ children (record_at s (i - 1))) × Below (2 * u) (take k (drop t w))
    fill_fine k e = let f = found in (length-take-le k (drop t w) (omega arith) ∙ e, below_take (2 * u) k (drop t w) p.below)

    -- each node's tree is a part of the new forest
    part_more : (k j : ℕ) → k ≡ children_at s (i - 1) → j < u + 1 → Dec (j ≡ u)
        → Part (tree_at (node_of (record_at s (i - 1)) (take k (drop t w)) ∷ held m u) (2 * j)) (build (record_at s (i - 1) ∷ rest s c i))
    unfolding trees
    part_more k j e v (yes q) =
        let ns : List Node = held m u in
        let r : List ℕ = record_at s (i - 1) in
        let new : at leaf (trees (node_of r (take k (drop t w)) ∷ ns)) (index (2 * j)) ≡ planted (trees ns) (node_of r (take k (drop t w))) =
        at_new leaf _ (trees ns) (index (2 * j)) (index_even j ∙ q ∙ sym (length-held m u) ∙ sym (length-trees ns)) in
        let kids : forest (trees ns) (take k (drop t w)) ≡ take_f (children r) (build (rest s c i)) = forest-take (trees ns) k (drop t w)
        ∙ ap₂ take_f e p.are in
        subst (λ x. Part x (build (r ∷ rest s c i))) (sym (ap (λ x. beside x none) new ∙ ap (λ f. tree r f none) kids)) here
    part_more k j e v (no f) =
        let l : j < u = omega arith in
        subst (λ x. Part x (build (record_at s (i - 1) ∷ rest s c i)))
        (sym (ext_tree {a = held m u} {b = node_of (record_at s (i - 1)) (take k (drop t w)) ∷ held m u} (more same) (2 * j)
        (rw (index_even j, length-held) l)))
        (part_new (record_at s (i - 1)) (children_at s (i - 1)) (p.parts j l))

    pub fill_more : (k : ℕ) (m' : List ℕ) → k ≡ children_at s (i - 1) → held m' (u + 1) ≡ node_of (record_at s (i - 1)) (take k (drop t w)) ∷ held m u
        → Filled s c (i - 1) (u + 1) (t + k - 1) (set w (t + k - 1) (2 * u)) m'
    fill_more k m' e h =
        let n = p.new in
        let ws : List ℕ = drop t w in
        let ns : List Node = held m u in
        let node : Node = node_of (record_at s (i - 1)) (take k ws) in
        let lu : length ns ≡ u = length-held m u in
        let st : drop (t + k - 1) (set w (t + k - 1) (2 * u)) ≡ 2 * u ∷ drop k ws = pushed s c i t w z p.stack a.count a.shape k e (2 * u) in
        let back : rest s c (i - 1) ≡ record_at s (i - 1) ∷ rest s c i = rest_back s c i z (omega arith) in
        let bk : Below (2 * u) (drop k ws) = below_drop (2 * u) k ws p.below in
        let fine : GoodNode u node = record {
          below = (fill_fine k e).1;
          long = long_record (i - 1) (omega arith);
          count = (fill_fine k e).0;
          few = few_children (i - 1) (omega arith);
        } in
        let new : forest (trees (node ∷ ns)) (2 * u ∷ drop k ws) ≡ tree (record_at s (i - 1)) (forest (trees ns) (take k ws))
        (forest (trees ns) (drop k ws)) =
        (ap (λ (x : ℕ). forest (trees (node ∷ ns)) (2 * x ∷ drop k ws)) (sym lu) ∙ forest_new ns node (drop k ws) (rw lu bk)) in
        record {
          new = omega arith;
          stack = stack_more s c i t w z p.stack a.count a.shape k e (2 * u);
          good = rw h (p.good, rw lu fine);
          below = rw st (omega arith, below_more (drop k ws) (omega arith) bk);
          are = ap₂ (λ (x : List Node) (y : List ℕ). forest (trees x) y) h st ∙ new
              ∙ ap₂ (tree (record_at s (i - 1))) (forest-take (trees ns) k ws ∙ ap₂ take_f e p.are) (forest-drop (trees ns) k ws ∙ ap₂ drop_f e p.are)
              ∙ sym (ap build back);
          parts = λ j v. rw back (rw h (part_more k j e v (ℕ_discrete j u)));
        }

    -- as the code lends the record, which starts at b, and the children
    module _ (b : ℕ) (g : b ≡ record_start (i - 1)) where
      pub fill_appends : c * slot_size ≤ length m → Appends m u (take (b + 64 - b) (drop b s)) (take (t + child_byte s b - t) (drop t w))
      fill_appends h =
          let n = p.new in let l = a.most in
          let f = fill_fine (child_byte s b) (child_byte_lem s (i - 1) b g) in
          rw (record_lent s (i - 1) b g, cut w t (child_byte s b)) record {
            room = omega arith;
            long = long_record (i - 1) (omega arith);
            count = f.0;
            few = few_children (i - 1) (omega arith);
            small = below_more (take (child_byte s b) (drop t w)) (omega arith) f.1;
          }

      pub fill_next : (m' : List ℕ) → Appended m u (take (b + 64 - b) (drop b s)) (take (t + child_byte s b - t) (drop t w)) m'
          → Filled s c (i - 1) (u + 1) (t + child_byte s b - 1) (set w (t + child_byte s b - 1) (2 * u)) m'
      fill_next m' h =
          fill_more (child_byte s b) m' (child_byte_lem s (i - 1) b g) (rw (record_lent s (i - 1) b g, cut w t (child_byte s b)) at (held_more m u _ _ m' h))

  pub fill_end : (i u t : ℕ) (w m : List ℕ) → i ≤ 0 → Filled s c i u t w m → (t < 126) × HoldsTree s m u (get_or w t 0)
  unfolding forest
  fill_end i u t w m z p =
      let i₀ : i ≡ 0 = omega arith in
      let e₀ = a.count in let n = p.new in let l = p.stack.long in
      let pc = stack_end s c i t w p.stack e₀ a.shape z in
      let d = length-drop t w in
      let lt : t < 126 = omega arith in
      let d₁ = length-drop (suc t) w in
      let one : drop t w ≡ get_or w t 0 ∷ [] = drop-cons w t 0 (omega arith) ∙ ap (λ (x : List ℕ). get_or w t 0 ∷ x)
      (drop_of_length-le w {i = suc t} (omega arith)) in
      let c₀ : c - 0 ≡ record_count s = omega arith in
      let whole : build (rest s c i) ≡ tree_of s = ap (λ (x : ℕ). build (rest s c x)) i₀ ∙ ap (λ (x : ℕ). build (span (record_at s) 0 x)) c₀ in (
        lt,
        record {
          used = omega arith;
          good = p.good;
          here = (rw one at p.below).0;
          parts = λ j l. subst (Part (tree_at (held m u) (2 * j))) whole (p.parts j l);
          tree = sym (ap (forest (trees (held m u))) one) ∙ p.are ∙ whole;
        },
      )
