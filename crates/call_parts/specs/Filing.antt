-- A tree of the arena as the records of its file.
use Rattle.std.specs.Prelude.{◌≡◌, Err, ltb}
use Rattle.std.proofs.Math.Path.{refl, ap₂}
use Rattle.std.proofs.Common.{sym, ap, ◌∙◌, subst, arith, length-append}
use Rattle.std.proofs.Math.Bool.{cond}
use mathlib.Core.List.{List, [], ◌∷◌, ◌++◌}
use Prim.Native.Nat.{ℕ, zero, suc, ◌+◌, ◌*◌, ◌≤◌, ◌<◌}
use Rattle.std.proofs.Math.Decide.{ℕ_discrete}
use Rattle.std.proofs.Math.ListN.{length, drop}
use Rattle.plan.specs.Forest.{Forest, none, tree, nodes, roots, size}
use Rattle.plan.specs.Op.{Plan}
use Rattle.plan.specs.Numbers.{Accepted}
use Rattle.plan.specs.declared.Refusal.TheVariants.{OutputTooShort}
use Rattle.plan_format.specs.Writing as bytes
use Rattle.plan_format.specs.Writing.{joined, blocks_for, file_of_bytes, write_refusal}
use Rattle.plan_roundtrip.specs.Back.{length_file}
use Rattle.plan_codec.specs.Decode.{decode}
use Rattle.plan_codec.specs.Encode.{encode}
use Rattle.plan_codec.proofs.OneRecord.{encode_long}
use Rattle.plan_codec.proofs.Trees.{recorded, nodes-recorded}
use Rattle.plan_codec.specs.Writing.{file_of_plan, records_of}
use Rattle.semantics.specs.Facts.{facts}
use Rattle.walks.specs.Marks.{Tree, strip, op_t, size_t}
use Rattle.walks.specs.Trees.{Ok}
use Rattle.walks.proofs.Theorems.Common.Trees.{strip-size}
use Rattle.arena.specs.Arena as records
use Rattle.arena.specs.Arena.{index, slot, held, at, tree_at, Below, Good}
use Rattle.arena.specs.Laws.{at_new, at_old, length-trees}
use Rattle.arena.specs.Held.{length-held}
use Rattle.arena_writer.specs.Flat.{Flattens}
use Rattle.plan_context.specs.View.{tree_in, tree_of, forest, ProperSlot, Arena}
use Rattle.plan_context.specs.Nodes.{counts_of, seen}
use Rattle.plan_context.specs.Records.{plan_t}
use Rattle.settling.specs.Reading.{Loaded}
use Rattle.call_answers.specs.Answers.{gives, refusal_in, output_in}

pub arena_loaded : (m : List ℕ) (u : ℕ) → Arena m u → Loaded m u
arena_loaded m u a = record { slots = a.slots; small = a.small; proper = λ i h. (a.all i h).proper }

-- ---- each slot is the record that the file has

good : (m : List ℕ) (u : ℕ) → ((i : ℕ) → i < u → ProperSlot m i) → Good (held m u)
unfolding held
good m zero p = tt
good m (suc u) p =
    let s = seen m u (p u (omega arith)) in let l = length-held m u in (
      good m u (λ i h. p i (omega arith)),
      record {
        below = subst (λ n. Below (2 * n) (slot m u).kids) (sym l) s.below;
        long = s.long;
        count = sym s.count;
        few = let k = s.few in let c = s.count in omega arith;
      },
    )

root_count : (m hs : List ℕ) → length (roots (strip (forest m hs))) ≡ length hs
unfolding forest
root_count m [] = refl
root_count m (h ∷ hs) = ap suc (root_count m hs)

abbrev as_tree : Tree → records.Tree
as_tree t = record { root = encode (length (roots (strip t.kids))) (op_t t); below = recorded (strip t.kids) }

module _ (m : List ℕ) (u₀ : ℕ) (p : (i : ℕ) → i < u₀ → ProperSlot m i) where
  kids_are : (u : ℕ) (hs : List ℕ) → Below (2 * u) hs → ((i : ℕ) → i < u → at records.leaf (records.trees (held m u)) i ≡ as_tree (tree_in m i))
      → records.forest (records.trees (held m u)) hs ≡ recorded (strip (forest m hs))
  unfolding records.forest forest
  kids_are u [] b f = refl
  kids_are u (h ∷ hs) b f = let k = b.0 in ap₂ (λ (t : records.Tree) (r : Forest (List ℕ)). records.beside t r) (f (index h) (omega arith))
      (kids_are u hs b.1 f)

  here-is : (u : ℕ) → u < u₀ → ((i : ℕ) → i < u → at records.leaf (records.trees (held m u)) i ≡ as_tree (tree_in m i))
      → records.planted (records.trees (held m u)) (slot m u) ≡ as_tree (tree_in m u)
  here-is u h f =
      let s = seen m u (p u h) in
      let e : (slot m u).rec ≡ encode (length (roots (strip (forest m (slot m u).kids)))) (decode (slot m u).rec) =
      s.canon ∙ ap (λ n. encode n (decode (slot m u).rec)) (sym (root_count m (slot m u).kids)) in
      let k = kids_are u (slot m u).kids s.below f in
      (λ i. record { root = e i; below = k i }) ∙ ap as_tree (sym s.tree)

  slots_are : (u : ℕ) → u ≤ u₀ → (i : ℕ) → i < u → at records.leaf (records.trees (held m u)) i ≡ as_tree (tree_in m i)
  unfolding held records.trees
  slots_are zero l i h = absurd (omega arith)
  slots_are (suc u) l i h = go (ℕ_discrete i u) (λ j k. slots_are u (omega arith) j k)
    where
      n : length (records.trees (held m u)) ≡ u
      n = length-trees (held m u) ∙ length-held m u

      go : Dec (i ≡ u) → ((j : ℕ) → j < u → at records.leaf (records.trees (held m u)) j ≡ as_tree (tree_in m j))
          → at records.leaf (records.trees (slot m u ∷ held m u)) i ≡ as_tree (tree_in m i)
      go (yes e) f = at_new records.leaf _ (records.trees (held m u)) i (e ∙ sym n) ∙ here-is u (omega arith) f ∙ ap (λ j. as_tree (tree_in m j)) (sym e)
      go (no q) f = at_old records.leaf _ (records.trees (held m u)) i (let x = n in omega arith) ∙ f i (omega arith)

-- ---- as long as a file's records are

size-recorded : (f : Plan) → size (recorded f) ≡ size f
size-recorded none = refl
size-recorded (tree o c r) = let x = size-recorded c in let y = size-recorded r in omega arith

join_long : (x y : List (List ℕ)) → length (joined (x ++ y)) ≡ length (joined x) + length (joined y)
join_long [] y = omega arith
join_long (r ∷ x) y = let a = length-append r (joined (x ++ y)) in let b = length-append r (joined x) in let c = join_long x y in omega arith

rows_long : (f : Plan) → Ok f → length (joined (records_of f)) ≡ 64 * size f
rows_long none k = refl
rows_long (tree o c r) k =
    let e = encode_long (length (roots c)) o (counts_of o (facts c) k.0).fields in
    let a = length-append (encode (length (roots c)) o) (joined (records_of c ++ records_of r)) in
    let b = join_long (records_of c) (records_of r) in let x = rows_long c k.1 in let y = rows_long r k.2 in
    omega arith

-- ---- the file of the tree at h

module _ (m : List ℕ) (u h : ℕ) (a : Loaded m u) (l : h < 2 * u) (out : List ℕ) where
  tree_is : tree_at (held m u) h ≡ recorded (plan_t (tree_of m h))
  tree_is = ap (λ t. records.beside t none) (slots_are m u a.proper u (omega arith) (index h) (omega arith))

  abbrev rs : List ℕ
  rs = joined (nodes (tree_at (held m u) h))

  rows_are : joined (nodes (tree_at (held m u) h)) ≡ joined (records_of (plan_t (tree_of m h)))
  rows_are = ap (λ t. joined (nodes t)) tree_is ∙ ap joined (nodes-recorded (plan_t (tree_of m h)))

  file_is : file_of_bytes (joined (nodes (tree_at (held m u) h))) ≡ file_of_plan (plan_t (tree_of m h))
  file_is = ap file_of_bytes rows_are

  tree-size : size (tree_at (held m u) h) ≡ size_t (tree_of m h)
  tree-size = let x = ap size tree_is in let y = size-recorded (plan_t (tree_of m h)) in let z = strip-size (tree_of m h).kids in omega arith

  pub flattens : (n : ℕ) → n ≡ size_t (tree_of m h) → n ≤ 126 → Flattens m u h n
  flattens n e f = record { slots = a.slots; good = good m u a.proper; here = l; count = e ∙ sym tree-size; few = f }

  file_long : blocks_for (length (joined (nodes (tree_at (held m u) h)))) * 512 ≡ length (file_of_plan (plan_t (tree_of m h)))
  file_long =
      let o = (a.proper (index h) (omega arith)).ok in
      let e : length rs ≡ 64 * size (plan_t (tree_of m h)) = ap length rows_are ∙ rows_long (plan_t (tree_of m h)) (o.0, o.1, tt) in
      sym (length_file rs (size (plan_t (tree_of m h))) e) ∙ ap length file_is

  -- what the writer answers and leaves
  pub write_refusal_lem : write_refusal (joined (nodes (tree_at (held m u) h))) out ≡ refusal_in (gives (plan_t (tree_of m h))) out
  write_refusal_lem = ap (λ n. cond (ltb (length out) n) (Err OutputTooShort) Accepted) file_long

  pub write_output : bytes.written (joined (nodes (tree_at (held m u) h))) out ≡ output_in (gives (plan_t (tree_of m h))) out
  unfolding bytes.written
  write_output = ap₂ (λ n f. cond (ltb (length out) n) out (f ++ drop n out)) file_long file_is
