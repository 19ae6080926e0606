-- A coalesce gives its place to what stands below it, past repartitions that are equal to its parent.
use Rattle.std.specs.Prelude.{◌≡◌, refl, Bool, true, false, cond, List, [], ◌∷◌, ℕ, ◌+◌, ◌*◌, ◌≤◌, ◌<◌, length, get_or}
use Rattle.std.proofs.Common.{sym, ap, ◌∙◌, subst, arith}
use Rattle.plan.specs.Op.{Op}
use Rattle.plan_format.specs.Record.{children}
use Rattle.plan_codec.specs.Decode.{decode}
use Rattle.arena.specs.Arena.{slot_size, index, slot}
use Rattle.walks.specs.Marks.{Tree, op_t}
use Rattle.walks.specs.Terms.{passing}
use Rattle.walks.specs.Trees.{FitsA}
use Rattle.walks.proofs.Theorems.Common.Trees.{children_fit}
use Rattle.walks.proofs.Theorems.Common.Keeps.{pass_one}
use Rattle.walks.proofs.Theorems.Parallelize.Kept.{bottleneck-pass, part_pass}
use Rattle.walks.specs.ParallelizeSorts.{bottleneck, same_partitioning, skip_same}
use Rattle.plan_context.specs.View.{tree_of, forest, Arena}
use Rattle.plan_updates.specs.ChildLoop.{up_to}
use Rattle.bottleneck_removal.specs.Shown.{counted, kid_asks, kid_low, tree_of_lem}

-- The tree at h is a coalesce without a fetch
pub record Skips (m : List ℕ) (h : ℕ) : Type 0 where
  pub arena : Arena m (index h + 1)
  pub coalesce : bottleneck (op_t (tree_of m h)) ≡ true

-- k, below h, stands where a look at repartitions is due
pub record Skipping (m : List ℕ) (o : Op) (h k : ℕ) : Type 0 where
  pub low : k < h
  pub is : cond (same_partitioning o (op_t (tree_of m k))) (skip_same o (tree_of m k) (tree_of m k).kids) (tree_of m k) ≡ skip_same o (tree_of m h)
      (tree_of m h).kids

-- kinds 5 to 8 have one child
passing-one : (m : List ℕ) (i : ℕ) → Arena m (i + 1) → passing (decode (slot m i).rec) ≡ true → length (slot m i).kids ≡ 1
passing-one m i a e = subst (λ z. FitsA z (length (slot m i).kids)) (pass_one (decode (slot m i).rec) e)
    (children_fit (decode (slot m i).rec) (length (slot m i).kids) (counted m i a))

first_skip : (o : Op) (d : Tree) (m : List ℕ) (hs : List ℕ) → 0 < length hs → skip_same o d (forest m hs) ≡ cond
    (same_partitioning o (op_t (tree_of m (get_or hs 0 0)))) (skip_same o (tree_of m (get_or hs 0 0)) (tree_of m (get_or hs 0 0)).kids) (tree_of m (get_or hs 0 0))
unfolding forest
first_skip o d m [] l = absurd (omega arith)
first_skip o d m (h ∷ hs) l = refl

-- the next handle, below a node of one child
module _ (m : List ℕ) (o : Op) (h : ℕ) (a : Arena m (index h + 1)) (p : passing (op_t (tree_of m h)) ≡ true) where
  one : length (slot m (index h)).kids ≡ 1
  one = passing-one m (index h) a (ap (λ t. passing (op_t t)) (sym (tree_of_lem m h a)) ∙ p)

  down_asks : ((index h + 1) * slot_size ≤ length m) × (0 < children (slot m (index h)).rec) × (children (slot m (index h)).rec ≤ 8)
  down_asks = let x = one in kid_asks m (index h) a 0 (omega arith)

  down : (k : ℕ) → k ≡ get_or (slot m (index h)).kids 0 0 → Skipping m o h k
  down k e =
      let x = one in let y = kid_low m (index h) a 0 (omega arith) in
      let z = first_skip o (tree_of m h) m (slot m (index h)).kids (omega arith) in
      record {
        low = omega arith;
        is = ap (λ c. cond (same_partitioning o (op_t (tree_of m c))) (skip_same o (tree_of m c) (tree_of m c).kids) (tree_of m c)) e ∙ sym z
            ∙ ap (λ t. skip_same o (tree_of m h) t.kids) (sym (tree_of_lem m h a));
      }

module _ (m : List ℕ) (h : ℕ) (p : Skips m h) (o : Op) where
  pub skip_asks : ((index h + 1) * slot_size ≤ length m) × (0 < children (slot m (index h)).rec) × (children (slot m (index h)).rec ≤ 8)
  skip_asks = down_asks m o h p.arena (bottleneck-pass (op_t (tree_of m h)) p.coalesce)

  pub skip_first : (k : ℕ) → k ≡ get_or (slot m (index h)).kids 0 0 → Skipping m o h k
  skip_first k e = down m o h p.arena (bottleneck-pass (op_t (tree_of m h)) p.coalesce) k e

  module _ (k : ℕ) (q : Skipping m o h k) where
    pub older : Arena m (index k + 1)
    older = let l = q.low in up_to {h = k} p.arena (omega arith)

    op_is : op_t (tree_of m k) ≡ decode (slot m (index k)).rec
    op_is = ap op_t (tree_of_lem m k older)

    module _ (b : Bool) (e : b ≡ same_partitioning o (decode (slot m (index k)).rec)) where
      same-is : same_partitioning o (op_t (tree_of m k)) ≡ b
      same-is = ap (same_partitioning o) op_is ∙ sym e

      pub skip_asks_more : b ≡ true → ((index k + 1) * slot_size ≤ length m) × (0 < children (slot m (index k)).rec)
          × (children (slot m (index k)).rec ≤ 8)
      skip_asks_more t = down_asks m o k older (part_pass o (op_t (tree_of m k)) (same-is ∙ t))

      pub skip_more : b ≡ true → (j : ℕ) → j ≡ get_or (slot m (index k)).kids 0 0 → (j < k) × Skipping m o h j
      skip_more t j f =
          let d = down m o k older (part_pass o (op_t (tree_of m k)) (same-is ∙ t)) j f in let x = d.low in let y = q.low in (
            x,
            record {
              low = omega arith;
              is = d.is ∙ ap (λ x. cond x (skip_same o (tree_of m k) (tree_of m k).kids) (tree_of m k)) (sym (same-is ∙ t))
                  ∙ q.is;
            },
          )

      pub skip_end : b ≡ false → tree_of m k ≡ skip_same o (tree_of m h) (tree_of m h).kids
      skip_end t = ap (λ x. cond x (skip_same o (tree_of m k) (tree_of m k).kids) (tree_of m k)) (sym (same-is ∙ t)) ∙ q.is
