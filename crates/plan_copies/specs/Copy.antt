-- A tree is copied from one arena into another with its facts: what is not reached stays behind.
use Rattle.std.specs.Prelude.{◌≡◌, refl, false, List, ℕ, suc, ◌+◌, ◌*◌, ◌/◌, ◌%◌, ◌≤◌, ◌<◌, eqb, length, get_or, take, drop, set}
use Rattle.std.proofs.Common.{sym, ap, ap₂, ◌∙◌, subst, add-one, length-take-le}
use native.Mathlib.Omega.{arith}
use Rattle.plan.specs.Forest.{tree, size}
use Rattle.plan_format.specs.Record.{children}
use Rattle.plan_codec.specs.Decode.{decode}
use Rattle.plan_codec.specs.Encode.{encode}
use Rattle.semantics.specs.Facts.{facts_op}
use Rattle.facts.specs.Known.{Says}
use Rattle.fact_slots.specs.Slots.{loaded}
use Rattle.walks.specs.Marks.{Tree, node, known, fact, size_t, set_mark, plant}
use Rattle.walks.specs.Trees.{OkT}
use Rattle.walks.specs.Terms.{◌⊕◌}
use Rattle.arena.specs.Arena.{slot_size, index, marked, slot, kept_part, Below}
use Rattle.arena.specs.declared.At.{At}
use Rattle.arena.specs.Laws.{below_at}
use Rattle.plan_context.specs.View.{tree_in, tree_of, forest, summary_in, most_nodes, most_slots, Sums, SettledSlot, Arena, Grown, Puts}
use Rattle.plan_context.specs.Laws.{same_trans}
use Rattle.plan_context.specs.Nodes.{Seen}
use Rattle.plan_updates.specs.Kids.{Kids, kids_none, kids_more, kids_forest}
use Rattle.plan_updates.specs.ChildLoop.{drop_next, no_more, view, whole}

-- a new slot under a handle with the mark of h
pub remarked : (m' : List ℕ) (u' h : ℕ) (t : Tree) → tree_of m' (2 * u') ≡ set_mark false t → tree_of m' (2 * u' + h % 2) ≡ set_mark (marked h) t
remarked m' u' h t e =
    let a : (2 * u' + h % 2) / 2 ≡ 2 * u' / 2 = omega arith in
    let b : (2 * u' + h % 2) % 2 ≡ h % 2 = omega arith in
    ap₂ (λ x y. set_mark (eqb x 1) (tree_in m' y)) b a ∙ ap (set_mark (marked h)) e

-- What `copy` asks: the tree at h of the arena in a, and room behind the v nodes of b
pub record Copies (a : List ℕ) (ua h : ℕ) (b : List ℕ) (v : ℕ) : Type 0 where
  pub from : Arena a ua
  pub here : h < 2 * ua
  pub arena : Arena b v
  pub room : (v + size_t (tree_of a h)) * slot_size ≤ length b
  pub small : v + size_t (tree_of a h) ≤ most_slots

-- The first j children are copied
pub record ChildrenCopied (a : List ℕ) (h : ℕ) (b₀ : List ℕ) (v j w : ℕ) (kids b : List ℕ) : Type 0 where
  pub made : Kids b₀ v j w kids b
  pub is : forest b (take j kids) ⊕ forest a (drop j (slot a (index h)).kids) ≡ forest a (slot a (index h)).kids
  pub left : w + size (forest a (drop j (slot a (index h)).kids)) ≤ v + size (forest a (slot a (index h)).kids)

module _ (a : List ℕ) (ua h : ℕ) (b₀ : List ℕ) (v : ℕ) (c : Copies a ua h b₀ v) where
  abbrev ks : List ℕ
  ks = (slot a (index h)).kids

  pub shown : Seen a (index h)
  shown = view c.from c.here

  pub copied_none : (kids : List ℕ) → length kids ≡ 8 → ChildrenCopied a h b₀ v 0 v kids b₀
  unfolding forest
  copied_none kids l = record { made = kids_none b₀ v kids c.arena l; is = refl; left = omega arith }

  module _ (j w : ℕ) (kids b : List ℕ) (p : ChildrenCopied a h b₀ v j w kids b) (l : j < length (slot a (index h)).kids) where
    abbrev k : ℕ
    k = get_or (slot a (index h)).kids j 0

    split : forest a (drop j (slot a (index h)).kids) ≡ plant (tree_of a (get_or (slot a (index h)).kids j 0))
        (forest a (drop (suc j) (slot a (index h)).kids))
    split = drop_next a ks j l

    pub copied_next : (size_t (tree_of a (get_or (slot a (index h)).kids j 0)) < size_t (tree_of a h)) × Copies a ua (get_or (slot a (index h)).kids j 0) b w
    copied_next =
        let s = ap size split in let t = whole c.from c.here in let q = p.left in let o = p.made.long in let r = c.room in let m = c.small in
        let x = p.made.more in
        let z = below_at (2 * (index h)) ks j shown.below l in let y = c.here in
        (omega arith, record { from = c.from; here = omega arith; arena = p.made.arena; room = omega arith; small = omega arith })

    pub copied_more : (b' : List ℕ) → length b' ≡ length b → (r : At) → Grown b w b' r (tree_of a (get_or (slot a (index h)).kids j 0))
        (w + size_t (tree_of a (get_or (slot a (index h)).kids j 0)))
        → ChildrenCopied a h b₀ v (j + 1) r.used (set kids j r.root) b'
    copied_more b' lb r g =
        let f = shown.few in
        let s = ap size split in let q = p.left in let top = g.room in
        record {
          made = kids_more b₀ v j w kids b p.made (omega arith) b' lb r (tree_of a k) (w + size_t (tree_of a k)) g;
          is = kids_forest b₀ v j w kids b p.made (omega arith) b' lb r (tree_of a k) (w + size_t (tree_of a k)) g (forest a (drop (j + 1) ks))
              ∙ rw (add-one j) (ap (λ x. forest b (take j kids) ⊕ x) (sym split)) ∙ p.is;
          left = rw (add-one j) (omega arith);
        }

  -- all children are copied
  module _ (j n w : ℕ) (kids b : List ℕ) (p : ChildrenCopied a h b₀ v j w kids b) (f : n ≡ j) (e : n ≡ children (slot a (index h)).rec) where
    counted : length (take n kids) ≡ length (slot a (index h)).kids
    counted = let x = shown.count in let y = shown.few in let z = p.made.wide in length-take-le n kids (omega arith) ∙ e ∙ x

    all_same : forest b (take n kids) ≡ forest a (slot a (index h)).kids
    all_same = let x = shown.count in ap (λ i. forest b (take i kids)) f ∙ no_more a ks b (take j kids) j (λ c. c) (forest a ks) (omega arith) refl p.is

    pub copied_puts : Puts b w (slot a (index h)).rec (take n kids)
    copied_puts =
        let s = shown in let q = p.left in let t = whole c.from c.here in let o = p.made.long in let r = c.room in let m = c.small in
        let sm = s.small in
        record {
          arena = p.made.arena;
          room = omega arith;
          small = omega arith;
          below = subst (λ i. Below (2 * w) (take i kids)) (sym f) p.made.below;
          canon = s.canon ∙ ap (λ i. encode i (decode (slot a (index h)).rec)) (sym counted);
          ok = subst (λ x. OkT (node (decode (slot a (index h)).rec) false x)) (sym all_same) s.ok;
          few = subst (λ x. suc (size x) ≤ most_nodes) (sym all_same) sm;
        }

    -- what was kept is kept
    here_held : SettledSlot a (index h)
    here_held = let l = c.here in c.from.all (index h) (omega arith)

    pub copied_says : Says (facts_op (decode (slot a (index h)).rec) (known (forest b (take n kids)))) (loaded (kept_part a (index h)))
    copied_says =
        subst (λ x. Says (facts_op (decode (slot a (index h)).rec) (known x)) (loaded (kept_part a (index h)))) (sym all_same)
        (subst (λ t. Says (fact t) (loaded (kept_part a (index h)))) shown.tree here_held.facts)

    pub copied_sums : Sums (node (decode (slot a (index h)).rec) false (forest b (take n kids))) (summary_in (kept_part a (index h)))
    copied_sums =
        subst (λ x. Sums (node (decode (slot a (index h)).rec) false x) (summary_in (kept_part a (index h)))) (sym all_same)
        (subst (λ t. Sums t (summary_in (kept_part a (index h)))) shown.tree here_held.summary)

    pub copied_end : (b' : List ℕ) → Grown b w b' (record { used = w + 1; root = 2 * w })
        (node (decode (slot a (index h)).rec) false (forest b (take n kids))) (w + 1)
        → Grown b₀ v b' (record { used = w + 1; root = 2 * w + h % 2 }) (tree_of a h) (v + size_t (tree_of a h))
    copied_end b' g =
        let q = p.left in let t = whole c.from c.here in let m = p.made.more in
        let s : tree_of b' (2 * w) ≡ set_mark false (tree_in a (index h)) = g.tree ∙ ap (node (decode (slot a (index h)).rec) false) all_same
        ∙ ap (set_mark false) (sym shown.tree) in
        record {
          arena = g.arena;
          old = same_trans v w b₀ b b' m p.made.old g.old;
          more = omega arith;
          here = omega arith;
          tree = remarked b' w h (tree_in a (index h)) s;
          room = omega arith;
        }
