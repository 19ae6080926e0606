-- One node's end: room, the rebuilt record, the step and its end.
use Rattle.std.specs.Prelude.{◌≡◌, refl, Bool, true, false, ◌&&◌, ◌||◌, List, ◌⊎◌, ℕ, suc, ◌+◌, ◌*◌, ◌-◌, ◌/◌, ◌≤◌, ◌<◌, Result, Ok, Err, leb, length}
use Rattle.std.proofs.Common.{sym, ap, ◌∙◌, subst, inl, inr, arith, lt-ltb, le-ltb, leb-true, leb-false}
use Rattle.plan.specs.Forest.{size}
use Rattle.plan_codec.specs.Decode.{decode}
use Rattle.plan_codec.specs.Encode.{encode}
use Rattle.semantics.specs.Properties.{rebuilt}
use Rattle.walks.specs.Marks.{Tree, node, known, size_t, rebuild}
use Rattle.walks.specs.Trees.{OkT}
use Rattle.walks.specs.Counted.{too_many}
use Rattle.arena.specs.Arena.{slot_size, slot, Below}
use Rattle.arena.specs.declared.At.{At}
use Rattle.plan_context.specs.View.{tree_of, forest, Arena, Same, Grown, Over}
use Rattle.plan_context.specs.Laws.{theres, same_trans}
use Rattle.plan_updates.specs.Rebuilt.{rebuilt_tree, rebuilt_over}
use Rattle.plan_updates.specs.Opened.{Opened, step_room}
use Rattle.transform_up.specs.declared.Walk.{Walk}
use Rattle.step_ends.specs.declared.Walked.{Walked}
use Rattle.step_ends.specs.declared.Stop.{Stop}
use Rattle.step_ends.specs.declared.Stop.TheVariants.{TooManyNodes, NoRoom}
use Rattle.transform_up.specs.Walking.{step_of}
use Rattle.step_ends.specs.Tidying.{tidy_from, full_slots, enough}
use Rattle.step_ends.specs.Ending.{Ending, Ended, after}

-- What it asks: slot i's node over the walked children ks, in an arena with u nodes, v of them not of this subtree
pub record Finish (m : List ℕ) (v u : ℕ) (ks : List ℕ) (i n before : ℕ) (c : List ℕ) : Type 0 where
  pub arena : Arena m u
  pub more : v ≤ u
  pub hint : i < v
  pub below : Below (2 * u) ks
  pub canon : (slot m i).rec ≡ encode (length ks) (decode (slot m i).rec)
  pub ok : OkT (node (decode (slot m i).rec) false (forest m ks))
  pub many : n ≤ 126
  pub counts : before ≡ suc (size (forest m ks))
  pub part : before ≤ n
  pub low : u + 1 ≤ tidy_from + n
  pub scratch : full_slots * slot_size ≤ length m → 126 * slot_size ≤ length c

-- the nodes of the whole plan after the step at t
abbrev pub total : Walk → Tree → ℕ → ℕ
total w t n = (n + size_t (step_of w t)) - size_t t

pub record Ends (w : Walk) (t : Tree) (n : ℕ) (m : List ℕ) (v : ℕ) (m' : List ℕ) (used root count : ℕ) : Type 0 where
  pub fits : too_many (total w t n) ≡ false
  pub counts : count ≡ total w t n
  pub most : count ≤ 126
  pub arena : Arena m' used
  pub old : Same v m m'
  pub more : v ≤ used
  pub here : root < 2 * used
  pub tree : tree_of m' root ≡ step_of w t
  pub low : (used ≤ tidy_from) ⊎ (used ≤ v + size_t (step_of w t))

abbrev pub Finished : Result Walked Stop → Walk → Tree → ℕ → List ℕ → ℕ → List ℕ → Type 0
Finished (Ok x) w t n m v m' = Ends w t n m v m' x.used x.root x.total
Finished (Err TooManyNodes) w t n m v m' = too_many (total w t n) ≡ true
Finished (Err NoRoom) w t n m v m' = length m < full_slots * slot_size

-- ---- room

short : (a b d : Bool) → (a && (b || d)) ≡ false → (a ≡ false) ⊎ (d ≡ false)
short false b d e = inl refl
short true b false e = inr refl
short true true true e = absurd (let z : ◌≡◌ {A = ℕ} 0 1 = cc in omega arith)
short true false true e = absurd (let z : ◌≡◌ {A = ℕ} 0 1 = cc in omega arith)

long : (a b d : Bool) → (a && (b || d)) ≡ true → (a ≡ true) × ((b ≡ true) ⊎ (d ≡ true))
long false b d e = absurd (let z : ◌≡◌ {A = ℕ} 0 1 = cc in omega arith)
long true true d e = (refl, inl refl)
long true false d e = (refl, inr e)

module _ (m : List ℕ) (v u : ℕ) (ks : List ℕ) (i n before : ℕ) (c : List ℕ) (p : Finish m v u ks i n before c) where
  abbrev r : List ℕ
  r = (slot m i).rec

  abbrev need : ℕ
  need = u + 2 * before + 10

  -- too little room: then the arena is not a full one
  pub no_room : enough (length m / slot_size) (u + 2 * before + 10) ≡ false → length m < full_slots * slot_size
  no_room e = go (short (leb need (length m / slot_size)) (leb need tidy_from) (leb full_slots (length m / slot_size)) e)
    where
      go : (leb (u + 2 * before + 10) (length m / slot_size) ≡ false) ⊎ (leb full_slots (length m / slot_size) ≡ false) → length m < full_slots * slot_size
      go (inl x) = let z = leb-false need (length m / slot_size) x in let q = p.low in let k = p.many in let l = p.part in omega arith
      go (inr y) = let z = leb-false full_slots (length m / slot_size) y in omega arith

  module _ (big : enough (length m / slot_size) (u + 2 * before + 10) ≡ true) where
    pub room_is : (u + 2 * before + 10) * slot_size ≤ length m
    room_is = let z = leb-true need (length m / slot_size)
        (long (leb need (length m / slot_size)) (leb need tidy_from) (leb full_slots (length m / slot_size)) big).0 in omega arith

    -- the arena is a full one where the tree may be copied together
    full_room : tidy_from < u + 2 * before + 10 → full_slots * slot_size ≤ length m
    full_room h = go (long (leb need (length m / slot_size)) (leb need tidy_from) (leb full_slots (length m / slot_size)) big).1
      where
        go : (leb (u + 2 * before + 10) tidy_from ≡ true) ⊎ (leb full_slots (length m / slot_size) ≡ true) → full_slots * slot_size ≤ length m
        go (inl x) = let z = leb-true need tidy_from x in absurd (omega arith)
        go (inr y) = let z = leb-true full_slots (length m / slot_size) y in omega arith

    -- ---- the record x, rebuilt over the children
    pub finish_over : Over m (slot m i).rec ks
    finish_over =
        let x = p.part in let y = p.many in let z = p.counts in
        record { there = theres m u ks p.arena p.below; canon = p.canon; ok = p.ok; few = omega arith }

    module _ (x : List ℕ) (e : x ≡ encode (length ks) (rebuilt (decode (slot m i).rec) (known (forest m ks)))) where
      tree_is : node (decode x) false (forest m ks) ≡ rebuild (decode (slot m i).rec) false (forest m ks)
      tree_is = rebuilt_tree m r ks finish_over x e

      pub finish_opened : Opened m u x ks i
      finish_opened =
          let o = rebuilt_over m r ks finish_over x e in
          let l = p.low in let y = p.many in let z = p.part in let k = p.counts in let h = p.hint in let q = p.more in let rm = room_is in
          record {
            arena = p.arena;
            room = omega arith;
            small = omega arith;
            below = p.below;
            canon = o.canon;
            ok = o.ok;
            few = omega arith;
            hint = omega arith;
          }

      module _ (w : Walk) (m₁ : List ℕ) (l₁ : length m₁ ≡ length m) (s : At)
          (g : Grown m u m₁ s (step_of w (node (decode x) false (forest m ks))) (u + step_room (suc (size (forest m ks))))) where
        stepped_tree : tree_of m₁ s.root ≡ step_of w (rebuild (decode (slot m i).rec) false (forest m ks))
        stepped_tree = g.tree ∙ ap (step_of w) tree_is

        pub finish_ending : Ending m₁ v s n before c
        finish_ending =
            let y = p.part in let l = p.low in let o = p.many in let q = p.more in let k = g.more in let rm = g.room in let z = p.counts in
            record {
              arena = g.arena;
              more = omega arith;
              here = g.here;
              many = p.many;
              part = p.part;
              room = λ b. let t = full_room (omega arith) in
                  (omega arith, p.scratch t);
              small = omega arith;
            }

        count_is : after m₁ s n before ≡ total w (rebuild (decode (slot m i).rec) false (forest m ks)) n
        count_is = let y = ap size_t stepped_tree in let z = p.counts in omega arith

        pub finish_ended : (y : Result Walked Stop) (m₂ : List ℕ) → Ended y m₁ v s n before m₂
            → Finished y w (rebuild (decode (slot m i).rec) false (forest m ks)) n m v m₂
        finish_ended (Ok x) m₂ e =
            let k = e.2 in
            record {
              fits = ap too_many (sym count_is) ∙ le-ltb 126 (after m₁ s n before) (let h = e.0 in let l = e.1 in omega arith);
              counts = e.0 ∙ count_is;
              most = e.1;
              arena = k.arena;
              old = same_trans v v m m₁ m₂ (omega arith) (same_trans v u m m m₁ p.more refl g.old) k.old;
              more = k.more;
              here = k.here;
              tree = k.tree ∙ stepped_tree;
              low = subst (λ t. (x.used ≤ tidy_from) ⊎ (x.used ≤ v + size_t t)) stepped_tree k.low;
            }
        finish_ended (Err TooManyNodes) m₂ e = ap too_many (sym count_is) ∙ lt-ltb 126 (after m₁ s n before) e
        finish_ended (Err NoRoom) m₂ e = absurd e
