-- The file of a tree of the arena, block after block: each block takes the next records from the stack.
use Rattle.std.specs.Prelude.{◌≡◌, refl, cond, List, [], ◌∷◌, ℕ, ◌+◌, ◌*◌, ◌-◌, ◌/◌, ◌≤◌, ◌<◌, length, take, drop, set, Err}
use Rattle.std.proofs.Common.{ap, sym, ◌∙◌, length-set, drop-drop, lt-ltb, le-ltb}
use native.Mathlib.Omega.{arith}
use Rattle.std.proofs.Math.Seq.{drop-length}
use Rattle.scan.specs.Parts.{splice}
use Rattle.plan.specs.Forest.{size, nodes}
use Rattle.plan.specs.Numbers.{Accepted}
use Rattle.plan.specs.declared.Refusal.TheVariants.{OutputTooShort}
use Rattle.plan_format.specs.Writing.{joined, block_of, blocks_for, write_refusal}
use Rattle.plan_writer.specs.Laws.{Blocks, blocks_none, blocks_more}
use Rattle.arena.specs.Arena.{held, forest, tree_at}
use Rattle.arena_writer.specs.Flat.{push_top, rows_of, length-rows, Flattens, Stack, Took}

-- What `write_blocks` asks: the tree at the handle i, with room for its nodes in w and for its blocks in out
pub record Lent (m : List ℕ) (u i blocks : ℕ) (w out : List ℕ) : Type 0 where
  pub tree : Flattens m u i (size (tree_at (held m u) i))
  pub room : size (tree_at (held m u) i) ≤ length w
  pub all : blocks ≡ blocks_for (length (joined (nodes (tree_at (held m u) i))))
  pub fits : blocks * 512 ≤ length out

module _ {m : List ℕ} {u i n : ℕ} (a : Flattens m u i n) where
  -- as many blocks as the records fill
  pub block_count_lem : (n + 6) / 7 ≡ blocks_for (length (joined (nodes (tree_at (held m u) i))))
  unfolding forest
  block_count_lem = let c = a.count in let l = length-rows m u a.good n (i ∷ []) (omega arith) (a.here, tt) in omega arith

  pub lent : (w out : List ℕ) → n ≤ length w → (n + 6) / 7 * 512 ≤ length out → Lent m u i ((n + 6) / 7) w out
  lent w out h l = let c = a.count in record { tree = rw c at a; room = omega arith; all = block_count_lem; fits = l }

  module _ (out : List ℕ) where
    pub too_short : length out < (n + 6) / 7 * 512 → Err OutputTooShort ≡ write_refusal (joined (nodes (tree_at (held m u) i))) out
    too_short h = ap (λ t. cond t (Err OutputTooShort) Accepted) (sym (lt-ltb (length out) _ (rw block_count_lem at h)))

    pub long_enough : (n + 6) / 7 * 512 ≤ length out → Accepted ≡ write_refusal (joined (nodes (tree_at (held m u) i))) out
    long_enough h = ap (λ t. cond t (Err OutputTooShort) Accepted) (sym (le-ltb (length out) _ (rw block_count_lem at h)))

-- k blocks are written, the rest is on the stack
pub record Streamed (m : List ℕ) (u i blocks : ℕ) (w₀ out₀ : List ℕ) (k t : ℕ) (w rs out : List ℕ) : Type 0 where
  pub wide : length w ≡ length w₀
  pub long : length rs ≡ 448
  pub stack : Stack m u t w
  pub left : rows_of m u (drop t w) ≡ drop (k * 448) (joined (nodes (tree_at (held m u) i)))
  pub front : Blocks out₀ (joined (nodes (tree_at (held m u) i))) blocks k out

-- the root is on the stack
pub streamed_start : {m : List ℕ} {u i blocks : ℕ} {w out : List ℕ} (rs : List ℕ) → length rs ≡ 448 → Lent m u i blocks w out
    → Streamed m u i blocks (set w (length w - 1) i) out 0 (length w - 1) (set w (length w - 1) i) rs out
unfolding forest
streamed_start {m} {u} {i} {blocks} {w} {out} rs l a =
    let r = a.room in
    let e : drop (length w - 1) (set w (length w - 1) i) ≡ i ∷ [] = push_top w (length w) i (omega arith) (omega arith)
    ∙ ap (λ (x : List ℕ). i ∷ x) (drop-length w) in
    let g : length (set w (length w - 1) i) ≡ length w = length-set w (length w - 1) i in
    record {
      wide = refl;
      long = l;
      stack = record { slots = a.tree.slots; good = a.tree.good; top = omega arith; below = rw e (a.tree.here, tt); room = rw (e, g) r };
      left = rw e;
      front = blocks_none out (joined (nodes (tree_at (held m u) i))) blocks;
    }

pub streamed_more : {m : List ℕ} {u i blocks : ℕ} {w₀ out₀ : List ℕ} {k t : ℕ} {w rs out : List ℕ} {c t' : ℕ} {w' rs' : List ℕ} (p : List ℕ)
    → blocks * 512 ≤ length out₀ → k < blocks → length w' ≡ length w → length rs' ≡ length rs → Took m u (rows_of m u (drop t w)) c t' w' rs'
    → p ≡ block_of blocks k (take (64 * c) rs') → Streamed m u i blocks w₀ out₀ k t w rs out
    → Streamed m u i blocks w₀ out₀ (k + 1) t' w' rs' (splice out (k * 512) (k * 512 + 512 - k * 512) p)
streamed_more {m} {u} {i} {blocks} {w₀} {out₀} {k} {t} {w} {rs} {out} p f h lw lr x e s =
    let R : List ℕ = joined (nodes (tree_at (held m u) i)) in
    let q : k * 448 + 448 ≡ (k + 1) * 448 = omega arith in
    record {
      wide = lw ∙ s.wide;
      long = lr ∙ s.long;
      stack = x.stack;
      left = x.left ∙ ap (drop 448) s.left ∙ drop-drop 448 (k * 448) R ∙ ap (λ (n : ℕ). drop n R) q;
      front = blocks_more out₀ R out p blocks k f h (e ∙ ap (block_of blocks k) (x.taken ∙ ap (take 448) s.left)) s.front;
    }
