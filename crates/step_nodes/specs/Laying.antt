-- The walk over the arena's trees that fills the tables.
use Rattle.std.specs.Prelude.{◌≡◌, refl, Bool, true, List, [], ◌∷◌, ◌++◌, ℕ, suc, ◌+◌, ◌*◌, ◌-◌, ◌≤◌, ◌<◌, length, get_or, take, drop, set}
use Rattle.std.proofs.Common.{sym, ap₂, ◌∙◌, append-nil, append_assoc, arith, add-one, length-append, drop_of_length-le, drop-cons, get_or-set_same}
use Rattle.std.proofs.Math.Path.{ap, subst}
use Rattle.plan.specs.Forest.{none, tree, size}
use Rattle.plan.specs.Op.{Op, Plan}
use Rattle.plan.specs.Numbers.{code}
use Rattle.plan.specs.WellFormed.{children_ok}
use Rattle.semantics.specs.Facts.{Facts, nothing, facts, facts_op}
use Rattle.walks.specs.Marks.{strip, known, op_t, fact, size_t}
use Rattle.walks.proofs.Theorems.Common.Trees.{strip-size}
use Rattle.plan_codec.specs.Decode.{decode}
use Rattle.stepping.specs.Moves.{manner, way}
use Rattle.record_fields.specs.Encoded.{code_byte}
use Rattle.record_fields.specs.Proper.{Proper}
use Rattle.plan_updates.specs.ProperRecords.{record_proper}
use Rattle.arena.specs.Arena.{slot_size, index, slot, kept_part}
use Rattle.arena.specs.Keeping.{kept_long}
use Rattle.facts.specs.Known.{Coherent}
use Rattle.fact_slots.specs.Slots.{loaded}
use Rattle.asked_facts.specs.Asked.{told, FactRow}
use Rattle.arena.specs.Laws.{below_at}
use Rattle.plan_format.specs.Record.{children}
use Rattle.plan_context.specs.View.{tree_in, tree_of, forest, SettledSlot, Arena}
use Rattle.plan_context.specs.Records.{plan_t}
use Rattle.plan_context.specs.Laws.{facts_at, length_facts}
use Rattle.plan_context.specs.Nodes.{counts_of, Seen, seen}
use Rattle.plan_context.specs.Facts.{ok_plan}
use Rattle.step_tables.specs.Places.{total, inner, kind_of as kind_number, is_straight, node_of}
use Rattle.step_tables.specs.Passes.{number_of, manner_at, manner_back, node_in}
use Rattle.step_tables.specs.declared.StepNode.{StepNode}
use Rattle.step_tables.specs.declared.StepManner.{StepManner}
use Rattle.step_nodes.specs.Layout.{plan_in, Entry, entries, Along, Stands, TreeLaid, TreeLays, LaidOut}
use Rattle.step_nodes.specs.Rows.{along_behind, along_map, less_front, stands_same, manner_numbered, row_of, written, row_written, entry_count, entries_split, lists, slots_are}
use Rattle.step_nodes.specs.FewPlaces.{few_places}
use Rattle.step_nodes.specs.declared.Next.{Next}

-- The operator in slot i, and the plans of its children
abbrev pub op_in : List ℕ → ℕ → Op
op_in m i = decode (slot m i).rec

abbrev pub below_in : List ℕ → ℕ → Plan
below_in m i = strip (forest m (slot m i).kids)

-- ---- what a slot shows

module _ (m : List ℕ) (u i : ℕ) (a : Arena m u) (l : i < u) where
  pub in_room : (i + 1) * slot_size ≤ length m
  in_room = let s = a.slots in omega arith

  settled : SettledSlot m i
  settled = a.all i l

  pub shown : Seen m i
  shown = seen m i settled.proper

  pub slot_proper : (r : List ℕ) → r ≡ (slot m i).rec → Proper r
  slot_proper r e = subst Proper (sym e) (record_proper (slot m i).rec (length (slot m i).kids) (forest m (slot m i).kids) shown.canon shown.ok)

  pub own_row : (b : List ℕ) → b ≡ kept_part m i → FactRow b
  own_row b e = let k = ap length e ∙ kept_long m i in_room in record { long = omega arith; fine = subst (λ x. Coherent (loaded x)) (sym e) settled.facts.fine }

  pub plan_is : plan_in m i ≡ tree (op_in m i) (below_in m i) none
  plan_is = ap plan_t shown.tree

  pub own_facts : (b : List ℕ) → b ≡ kept_part m i → told b ≡ facts_op (op_in m i) (facts (below_in m i))
  own_facts b e = ap told e ∙ settled.facts.is ∙ ap fact shown.tree

  pub kind_byte_lem : get_or (slot m i).rec 0 0 ≡ code (op_in m i)
  kind_byte_lem = code_byte (slot m i).rec (length (slot m i).kids) shown.canon

  pub kids_ok : children_ok (op_in m i) (length (slot m i).kids) ≡ true
  kids_ok = subst (λ n. children_ok (op_in m i) n ≡ true) (length_facts m (slot m i).kids)
      (counts_of (op_in m i) (known (forest m (slot m i).kids)) shown.ok.0).count

  -- what reading child k's handle asks; the child is there, in an older slot
  pub child_asks : (k : ℕ) → k < children (slot m i).rec
      → ((i + 1) * slot_size ≤ length m) × (k < children (slot m i).rec) × (children (slot m i).rec ≤ 8)
  child_asks k q = let x = shown.count in let y = shown.few in (in_room, omega arith, omega arith)

  module _ (k : ℕ) (q : k < length (slot m i).kids) (c : ℕ) (e : c ≡ get_or (slot m i).kids k 0) where
    pub child_lower : c < 2 * i
    child_lower = subst (λ x. x < 2 * i) (sym e) (below_at (2 * i) (slot m i).kids k shown.below q)

    pub child_there : c < 2 * u
    child_there = let x = child_lower in omega arith

    pub child_facts : (F : Facts) → F ≡ fact (tree_of m c) → F ≡ get_or (facts (below_in m i)) k nothing
    child_facts F g = g ∙ ap (λ x. fact (tree_of m x)) e ∙ sym (facts_at m (slot m i).kids k q)

-- ---- the sum of the children's streams, from the last to the first

pub record Summed (fs : List Facts) (k s : ℕ) : Type 0 where
  pub low : k ≤ length fs
  pub is : s ≡ total (drop k fs)
  pub few : s + 65472 * k ≤ 65472 * length fs

pub summed_none : (fs : List Facts) (k : ℕ) → k ≡ length fs → Summed fs k 0
summed_none fs k e = record { low = omega arith; is = ap total (sym (drop_of_length-le fs {i = k} (omega arith))); few = omega arith }

pub summed_more : (fs : List Facts) (k s x : ℕ) → 0 < k → Summed fs k s → x ≡ (get_or fs (k - 1) nothing).streams → x ≤ 65472 → Summed fs (k - 1) (s + x)
summed_more fs k s x z q e f =
    let l = q.low in let w = q.few in
    let g : suc (k - 1) ≡ k = omega arith in
    let d : drop (k - 1) fs ≡ get_or fs (k - 1) nothing ∷ drop k fs = drop-cons fs (k - 1) nothing (omega arith) ∙ ap (λ n. get_or fs (k - 1) nothing ∷ drop n fs) g in
    let y = ap total d in let v = q.is in
    record { low = omega arith; is = omega arith; few = omega arith }

pub summed_all : (fs : List Facts) (k s : ℕ) → k ≤ 0 → Summed fs k s → s ≡ total fs
summed_all fs k s h q = let e : k ≡ 0 = omega arith in q.is ∙ ap (λ n. total (drop n fs)) e

-- ---- the loop over the children

-- The tree of o over c; its first children are done, those of q are left. t, s: the tables when the loop starts
pub record Going (m : List ℕ) (u : ℕ) (t : List StepNode) (s : List ℕ) (p n a b : ℕ) (o : Op) (c q : Plan) (t' : List StepNode) (s' : List ℕ) (next free out : ℕ) : Type 0 where
  pub count : next + size q ≡ suc n + size c
  pub places : free + inner q ≡ b + total (facts c) + inner c
  pub outs : out + total (facts q) ≡ b + total (facts c)
  pub rows : take n t' ≡ take n t
  pub slots : take n s' ≡ take n s
  pub done : List Entry
  pub long : n + length done ≡ next
  pub stand : Along (Stands m u t' s') n done
  pub whole : entries p n a b (tree o c none) ≡ done ++ entries n next out free q

pub going-none : (m : List ℕ) (u : ℕ) (t : List StepNode) (s : List ℕ) (p n a b : ℕ) (o : Op) (c : Plan)
    → Stands m u t s n (record { node = node_of p a b o c; plan = tree o c none })
    → Going m u t s p n a b o c c t s (n + 1) (b + total (facts c)) b
going-none m u t s p n a b o c h =
    let z : suc n ≡ n + 1 = omega arith in
    record {
      count = omega arith;
      places = refl;
      outs = refl;
      rows = refl;
      slots = refl;
      done = record { node = node_of p a b o c; plan = tree o c none } ∷ [];
      long = omega arith;
      stand = (h, tt);
      whole = ap (λ l. record { node = node_of p a b o c; plan = tree o c none } ∷ l) (append-nil (entries n (suc n) b (b + total (facts c)) c)
          ∙ ap (λ j. entries n j b (b + total (facts c)) c) z);
    }

module _ (m : List ℕ) (u : ℕ) (t : List StepNode) (s : List ℕ) (p n a b : ℕ) (o : Op) (c : Plan) (t' : List StepNode) (s' : List ℕ) (next free out : ℕ) where
  -- one child more
  module _ (o' : Op) (c' q : Plan) (g : Going m u t s p n a b o c (tree o' c' q) t' s' next free out) where
    pub going_asks : Arena m u → suc n + size c ≤ length t' → suc n + size c ≤ length s' → b + total (facts c) + inner c ≤ 1000000
        → TreeLays m u t' s' next free (tree o' c' none)
    going_asks x h k l = let y = g.count in let z = g.places in record { arena = x; table = omega arith; list = omega arith; few = omega arith }

    pub going_next : (t'' : List StepNode) (s'' : List ℕ) (r : Next) (x : ℕ) → TreeLaid m u t' s' t'' s'' n next out free (tree o' c' none) r → x ≡ (facts_op o' (facts c')).streams
        → Going m u t s p n a b o c q t'' s'' r.node r.place (out + x)
    going_next t'' s'' r x d e =
        let f = d.node in let w = d.place in let y = g.count in let z = g.places in let v = g.outs in
        let k = g.long in
        let l : n ≤ next = omega arith in
        let j : suc next + size c' ≡ r.node = omega arith in
        let i : free + total (facts c') + inner c' ≡ r.place = omega arith in
        let mine : List Entry = entries n next out free (tree o' c' none) in
        let h = length-append g.done mine in
        let b' = entry_count n next out free (tree o' c' none) in
        record {
          count = omega arith;
          places = omega arith;
          outs = omega arith;
          rows = less_front n next t' t'' (omega arith) d.rows ∙ g.rows;
          slots = less_front n next s' s'' l d.slots ∙ g.slots;
          done = g.done ++ mine;
          long = omega arith;
          stand = along_behind (Stands m u t'' s'') n next g.done mine k
              (along_map (Stands m u t' s') (Stands m u t'' s'') n next g.done (omega arith) (stands_same m u next t' s' t'' s'' d.rows d.slots) g.stand)
              d.stand;
          whole = g.whole ∙ ap (λ l. g.done ++ l) (entries_split n next out free o' c' q)
              ∙ sym (append_assoc g.done mine _)
              ∙ ap (λ l. (g.done ++ mine) ++ l)
              (ap₂ (λ (x y : ℕ). entries n x (out + (facts_op o' (facts c')).streams) y q) j i ∙ ap (λ (y : ℕ). entries n r.node (out + y) r.place q) (sym e));
        }

  pub going_all : Going m u t s p n a b o c none t' s' next free out → TreeLaid m u t s t' s' p n a b (tree o c none) (record { node = next; place = free })
  going_all g =
      let y = g.count in let z = g.places in
      record {
        node = omega arith;
        place = omega arith;
        rows = g.rows;
        slots = g.slots;
        stand = subst (Along (Stands m u t' s') n) (sym (g.whole ∙ append-nil g.done)) g.stand;
      }

-- ---- in the arena

-- The row, as the code writes it
pub node_put : (t : List StepNode) (n p a b : ℕ) (o : Op) (c : Plan) (k : StepManner) (q : Bool) (x y : ℕ) → number_of k ≡ kind_number (manner o (facts c))
    → q ≡ is_straight (way o) → x ≡ (facts_op o (facts c)).streams → y ≡ total (facts c)
    → set t n (record { manner = k; straight = q; out = a; outs = x; inp = b; inps = y; above = p }) ≡ written t n (node_of p a b o c)
node_put t n p a b o c k q x y f g h l =
    let e : k ≡ manner_at (kind_number (manner o (facts c))) = sym (manner_back k) ∙ ap manner_at f in
    let v : record { manner = k; straight = q; out = a; outs = x; inp = b; inps = y; above = p } ≡ row_of (node_of p a b o c) =
    λ i. record { manner = e i; straight = g i; out = a; outs = h i; inp = b; inps = l i; above = p } in
    ap (set t n) v

-- One row written and one slot: node n stands
pub stands_first : (m : List ℕ) (u i : ℕ) (a : Arena m u) (l : i < u) (t : List StepNode) (s : List ℕ) (t' : List StepNode) (p n x b : ℕ)
    → t' ≡ written t n (node_of p x b (op_in m i) (below_in m i)) → n < length t → n < length s
    → Stands m u t' (set s n i) n (record { node = node_of p x b (op_in m i) (below_in m i); plan = tree (op_in m i) (below_in m i) none })
stands_first m u i a l t s t' p n x b e q k =
    let z = get_or-set_same s n i 0 k in
    record {
      row = ap (λ r. node_in r n) e ∙ row_written t n (node_of p x b (op_in m i) (below_in m i)) (manner_numbered (manner (op_in m i) (facts (below_in m i)))) q;
      tree = ap (plan_in m) z ∙ plan_is m u i a l;
      there = subst (λ i. i < u) (sym z) (omega arith);
    }

-- The children left, from number k on
abbrev pub LayingKids : (m : List ℕ) (u i : ℕ) (t : List StepNode) (s : List ℕ) (p n a b k : ℕ) (t' : List StepNode) (s' : List ℕ) (next free out : ℕ) → Type 0
LayingKids m u i t s p n a b k t' s' next free out =
    Going m u t s p n a b (op_in m i) (below_in m i) (strip (forest m (drop k (slot m i).kids))) t' s' next free out

module _ (m : List ℕ) (u i : ℕ) (d : Arena m u) (l : i < u) (t : List StepNode) (s : List ℕ) (p n a b : ℕ) (t₀ : List StepNode) (s₀ : List ℕ)
    (w : TreeLays m u t₀ s₀ n b (plan_in m i)) where
  abbrev c : Plan
  c = below_in m i

  -- its bounds, over the node and its children
  pub room_is : (suc n + size (below_in m i) ≤ length t₀) × (suc n + size (below_in m i) ≤ length s₀)
      × (b + total (facts (below_in m i)) + inner (below_in m i) ≤ 1000000)
  room_is =
      let e = ap size (plan_is m u i d l) in let f = ap inner (plan_is m u i d l) in
      let x = w.table in let y = w.list in let z = w.few in
      (omega arith, omega arith, omega arith)

  module _ (k : ℕ) (q : k < length (slot m i).kids) (j : ℕ) (e : j ≡ get_or (slot m i).kids k 0) (t' : List StepNode) (s' : List ℕ) (next free out : ℕ)
      (g : LayingKids m u i t s p n a b k t' s' next free out) where
    abbrev o' : Op
    o' = op_t (tree_of m j)

    abbrev c' : Plan
    c' = strip (tree_of m j).kids

    abbrev rest : Plan
    rest = strip (forest m (drop (suc k) (slot m i).kids))

    split : strip (forest m (drop k (slot m i).kids)) ≡ tree o' c' rest
    unfolding forest
    split = ap (λ x. strip (forest m x)) (drop-cons (slot m i).kids k 0 q)
        ∙ ap (λ x. tree (op_t (tree_of m x)) (strip (tree_of m x).kids) rest) (sym e)

    going : Going m u t s p n a b (op_in m i) (below_in m i) (tree o' c' rest) t' s' next free out
    going = subst (λ x. Going m u t s p n a b (op_in m i) (below_in m i) x t' s' next free out) split g

    pub kid_asks : length t' ≡ length t₀ → length s' ≡ length s₀ → TreeLays m u t' s' next free (plan_in m (index j))
    kid_asks x y = let z = room_is.0 in let v = room_is.1 in
        going_asks m u t s p n a b (op_in m i) c t' s' next free out o' c' rest going d (omega arith) (omega arith) room_is.2

    pub kid_adds : (x : ℕ) → x ≡ (fact (tree_of m j)).streams → out + x ≤ 1000000
    kid_adds x f = let y = going.outs in let z = room_is.2 in omega arith

    pub kid_next : (t'' : List StepNode) (s'' : List ℕ) (r : Next) (x : ℕ) → TreeLaid m u t' s' t'' s'' n next out free (plan_in m (index j)) r → x ≡ (fact (tree_of m j)).streams
        → LayingKids m u i t s p n a b (k + 1) t'' s'' r.node r.place (out + x)
    kid_next t'' s'' r x y f = subst (λ z. LayingKids m u i t s p n a b z t'' s'' r.node r.place (out + x)) (sym (add-one k))
        (going_next m u t s p n a b (op_in m i) c t' s' next free out o' c' rest going t'' s'' r x y f)

  -- t₁, s₁: the tables before the node was put
  pub kids_all : (k : ℕ) (t' : List StepNode) (s' : List ℕ) (next free out : ℕ) → length (slot m i).kids ≤ k → LayingKids m u i t s p n a b k t' s' next free out
      → (t₁ : List StepNode) (s₁ : List ℕ) → take n t ≡ take n t₁ → take n s ≡ take n s₁
      → TreeLaid m u t₁ s₁ t' s' p n a b (plan_in m i) (record { node = next; place = free })
  unfolding forest
  kids_all k t' s' next free out q g t₁ s₁ x y =
      let e : strip (forest m (drop k (slot m i).kids)) ≡ none = ap (λ z. strip (forest m z)) (drop_of_length-le (slot m i).kids {i = k} q) in
      let r = going_all m u t s p n a b (op_in m i) c t' s' next free out
      (subst (λ z. Going m u t s p n a b (op_in m i) (below_in m i) z t' s' next free out) e g) in
      subst (λ f. TreeLaid m u t₁ s₁ t' s' p n a b f (record { node = next; place = free })) (sym (plan_is m u i d l))
      (record { node = r.node; place = r.place; rows = r.rows ∙ x; slots = r.slots ∙ y; stand = r.stand })

-- ---- the whole plan

module _ (m : List ℕ) (u h : ℕ) (d : Arena m u) (l : h < 2 * u) (w : size_t (tree_of m h) ≤ 126) where
  abbrev f : Plan
  f = plan_t (tree_of m h)

  plan_size : size f ≡ size_t (tree_of m h)
  plan_size = let x = strip-size (tree_of m h).kids in omega arith

  places-few : total (facts (plan_t (tree_of m h))) + inner (plan_t (tree_of m h)) ≤ 258048
  places-few = few_places f (ok_plan (tree_in m (index h)) (d.all (index h) (omega arith)).proper.ok) (let x = plan_size in omega arith)

  pub whole_asks : (t : List StepNode) (s : List ℕ) (x : ℕ) → 126 ≤ length t → 126 ≤ length s → x ≡ (fact (tree_of m h)).streams → TreeLays m u t s 0 x (plan_in m (index h))
  whole_asks t s x q k e =
      let z = plan_size in let y = places-few in
      record { arena = d; table = omega arith; list = omega arith; few = omega arith }

  pub whole_laid : (t : List StepNode) (s : List ℕ) (t' : List StepNode) (s' : List ℕ) (n x : ℕ) (r : Next) → 126 ≤ length t' → 126 ≤ length s' → n ≡ size_t (tree_of m h) → x ≡ (fact (tree_of m h)).streams
      → TreeLaid m u t s t' s' n 0 0 x (plan_in m (index h)) r
      → LaidOut m u (plan_t (tree_of m h)) t' s' (record { nodes = n; places = r.place })
  whole_laid t s t' s' n x r q k e v g =
      let z = plan_size in
      let y : n ≡ size f = e ∙ sym z in
      let b : x ≡ total (facts f) = v ∙ omega arith in
      let a : Along (Stands m u t' s') 0 (entries (size f) 0 0 (total (facts f)) f) =
      subst (Along (Stands m u t' s') 0) (ap₂ (λ (i j : ℕ). entries i 0 0 j f) y b) g.stand in
      record {
        nodes = y;
        places = g.place ∙ ap (λ i. i + inner f) b;
        few = let j = g.place in let o = places-few in omega arith;
        listed = lists m u t' s' (size f) 0 (total (facts f)) f a (omega arith);
        slotted = slots_are m u t' s' (size f) 0 (total (facts f)) f a (omega arith);
      }
