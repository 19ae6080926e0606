-- Room: a finished subtree that used many slots is copied together, so that no walk outgrows a full arena.
use Rattle.std.specs.Prelude.{◌≡◌, refl, Bool, false, ◌&&◌, ◌||◌, List, ◌⊎◌, ℕ, ◌+◌, ◌*◌, ◌/◌, ◌≤◌, ◌<◌, leb, ltb, length}
use Rattle.std.proofs.Common.{ap, ◌∙◌, inl, inr, arith, ltb-false}
use Rattle.semantics.proofs.Theorems.Common.Bools.{or_false}
use Rattle.walks.specs.Marks.{Tree, size_t}
use Rattle.arena.specs.Arena.{slot_size}
use Rattle.arena.specs.declared.At.{At}
use Rattle.plan_context.specs.View.{tree_of, Arena, Same, Grown}
use Rattle.plan_context.specs.Laws.{fewer}
use Rattle.plan_copies.specs.Copy.{Copies}

abbrev pub tidy_from : ℕ
tidy_from = 382

-- The slots that are enough for every walk of every plan
abbrev pub full_slots : ℕ
full_slots = 772

-- A walk that may use so many slots has them
abbrev pub enough : ℕ → ℕ → Bool
enough slots need = leb need slots && (leb need tidy_from || leb full_slots slots)

pub record Tidies (m : List ℕ) (v : ℕ) (s : At) (k : ℕ) (c : List ℕ) : Type 0 where
  pub arena : Arena m s.used
  pub more : v ≤ s.used
  pub here : s.root < 2 * s.used
  pub count : k ≡ size_t (tree_of m s.root)
  pub few : k ≤ 126
  pub room : tidy_from < s.used → ((v + 126) * slot_size ≤ length m) × (126 * slot_size ≤ length c)
  pub small : v + 126 ≤ 32768

pub record Tidied (m : List ℕ) (v : ℕ) (m' : List ℕ) (r : At) (t : Tree) : Type 0 where
  pub arena : Arena m' r.used
  pub old : Same v m m'
  pub more : v ≤ r.used
  pub here : r.root < 2 * r.used
  pub tree : tree_of m' r.root ≡ t
  pub low : (r.used ≤ tidy_from) ⊎ (r.used ≤ v + size_t t)

module _ (m : List ℕ) (v : ℕ) (s : At) (k : ℕ) (c : List ℕ) (p : Tidies m v s k c) where
  pub as_is : s.used ≤ tidy_from → Tidied m v m s (tree_of m s.root)
  as_is h = record { arena = p.arena; old = refl; more = p.more; here = p.here; tree = refl; low = inl h }

  -- there is room to copy the tree, out and home
  abbrev pub Fits : Type 0
  Fits = ((v + k) * slot_size ≤ length m) × (k * slot_size ≤ length c)

  pub full_fits : tidy_from < s.used → Fits
  full_fits h = let f = p.few in let r = p.room h in let x = r.0 in let y = r.1 in (omega arith, omega arith)

  pub small_fits : (a : Bool) → ((a || ltb (length m / slot_size) (v + k)) || ltb (length c / slot_size) k) ≡ false → Fits
  small_fits a e =
      let f = or_false (a || ltb (length m / slot_size) (v + k)) (ltb (length c / slot_size) k) e in
      let x = ltb-false (length m / slot_size) (v + k) (or_false a (ltb (length m / slot_size) (v + k)) f.0).1 in
      let y = ltb-false (length c / slot_size) k f.1 in
      (omega arith, omega arith)

  module _ (q : Fits) where
    pub out_asks : Copies m s.used s.root c 0
    out_asks =
        let f = p.few in let n = p.count in let x = q.1 in
        record {
          from = p.arena;
          here = p.here;
          arena = record { slots = omega arith; small = omega arith; all = λ i h. absurd (omega arith) };
          room = omega arith;
          small = omega arith;
        }

    module _ (c' : List ℕ) (x : At) (g : Grown c 0 c' x (tree_of m s.root) (0 + size_t (tree_of m s.root))) where
      same_size : size_t (tree_of c' x.root) ≡ size_t (tree_of m s.root)
      same_size = ap size_t g.tree

      pub back_asks : Copies c' x.used x.root m v
      back_asks =
          let f = p.few in let n = p.count in let r = q.0 in let l = p.small in let z = same_size in
          record { from = g.arena; here = g.here; arena = fewer m s.used v p.more p.arena; room = omega arith; small = omega arith }

      pub back : (m' : List ℕ) (y : At) → Grown m v m' y (tree_of c' x.root) (v + size_t (tree_of c' x.root)) → Tidied m v m' y (tree_of m s.root)
      back m' y k = let z = same_size in let r = k.room in
          record { arena = k.arena; old = k.old; more = k.more; here = k.here; tree = k.tree ∙ g.tree; low = inr (omega arith) }
