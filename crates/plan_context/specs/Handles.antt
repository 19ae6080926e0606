-- Marks and children by handles.
use Rattle.std.specs.Prelude.{◌≡◌, refl, Bool, true, false, List, [], ◌∷◌, ℕ, ◌+◌, ◌*◌, ◌/◌, ◌%◌, ◌≤◌, ◌<◌, eqb, length, get_or}
use Rattle.std.proofs.Common.{sym, ap, ap₂, ◌∙◌, arith}
use Rattle.scan.specs.Bytes.{one_if}
use Rattle.plan_format.specs.Record.{children}
use Rattle.arena.specs.Arena.{slot_size, index, slot}
use Rattle.walks.specs.Marks.{Tree, set_mark, kid0}
use Rattle.plan_context.specs.View.{tree_in, tree_of, forest, Here}
use Rattle.plan_context.specs.Nodes.{seen}

-- The handle r of the same slot, with the mark b, whatever the memory
pub record Marks (h : ℕ) (b : Bool) (r : ℕ) : Type 0 where
  pub slot : index r ≡ index h
  pub tree : (m : List ℕ) → tree_of m r ≡ set_mark b (tree_of m h)

pub marks : (h : ℕ) (b : Bool) → Marks h b (2 * (index h) + one_if b)
marks h true =
    let s : (2 * (index h) + 1) / 2 ≡ index h = omega arith in
    let t : (2 * (index h) + 1) % 2 ≡ 1 = omega arith in
    record { slot = s; tree = λ m. ap₂ (λ x y. set_mark (eqb x 1) (tree_in m y)) t s }
marks h false =
    let s : (2 * (index h) + 0) / 2 ≡ index h = omega arith in
    let t : (2 * (index h) + 0) % 2 ≡ 0 = omega arith in
    record { slot = s; tree = λ m. ap₂ (λ x y. set_mark (eqb x 1) (tree_in m y)) t s }

-- the first child
pub kid_is : (m ks : List ℕ) (d : Tree) → 0 < length ks → tree_of m (get_or ks 0 0) ≡ kid0 d (forest m ks)
unfolding forest
kid_is m [] d g = absurd (omega arith)
kid_is m (k ∷ ks) d g = refl

pub first_kid : (m : List ℕ) (h : ℕ) → Here m h → 0 < length (slot m (index h)).kids → (k : ℕ) → k ≡ get_or (slot m (index h)).kids 0 0
    → tree_of m k ≡ kid0 (tree_of m h) (tree_of m h).kids
first_kid m h x l k e =
    let s = seen m (index h) x.holds.proper in
    ap (tree_of m) e ∙ kid_is m (slot m (index h)).kids (tree_of m h) l ∙ ap (λ t. kid0 (tree_of m h) t.kids) (sym s.tree)

pub kid_asks : (m : List ℕ) (h : ℕ) → Here m h → 0 < length (slot m (index h)).kids → ((index h + 1) * slot_size ≤ length m)
    × (0 < children (slot m (index h)).rec) × (children (slot m (index h)).rec ≤ 8)
kid_asks m h x l = let s = seen m (index h) x.holds.proper in let c = s.count in let f = s.few in (x.slot, omega arith, omega arith)

pub num_small : (b : Bool) → one_if b ≤ 1
num_small true = omega arith
num_small false = omega arith
