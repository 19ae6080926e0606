-- A node with one child, and another node in its place, over the same child with another mark.
use Rattle.std.specs.Prelude.{◌≡◌, Bool, true, false, ℕ, ◌+◌, ◌*◌, ◌≤◌, ◌<◌, eqb, get_or}
use Rattle.std.proofs.Math.Path.{refl, ap}
use Rattle.std.proofs.Common.{sym, ap₂, ◌∙◌, subst, arith}
use mathlib.Core.List.{List, [], ◌∷◌, map}
use Rattle.std.proofs.Math.ListN.{length}
use Rattle.plan.specs.Forest.{Forest, none, tree, size}
use Rattle.plan.specs.Op.{Op}
use Rattle.plan.specs.Numbers.{code}
use Rattle.plan_codec.specs.Decode.{decode}
use Rattle.plan_codec.specs.Encode.{encode}
use Rattle.plan_codec.proofs.OneRecord.{decode-encode}
use Rattle.semantics.specs.Properties.{remark}
use Rattle.arena.specs.Arena.{slot}
use Rattle.arena.specs.declared.At.{At}
use Rattle.arena.specs.Laws.{below_at}
use Rattle.walks.specs.Marks.{Marked, Tree, known, node, plant, set_mark, rebuild}
use Rattle.walks.specs.Trees.{OkT}
use Rattle.walks.proofs.Theorems.Common.Keeps.{remark_like}
use Rattle.walks.specs.OrderPreserving.{mark_first}
use Rattle.walks.proofs.Theorems.Preserve.Kept.{strip_first}
use Rattle.plan_context.specs.View.{tree_of, forest, Arena, Grown, Puts}
use Rattle.plan_context.specs.Laws.{fewer, same_trans, length_facts}
use Rattle.plan_updates.specs.Kids.{Kids}
use Rattle.plan_context.specs.Nodes.{seen, rule, counts_of}
use Rattle.plan_updates.specs.Putting.{put_over}
use Rattle.plan_updates.specs.Covering.{one}
use Rattle.plan_context.specs.Handles.{Marks}
use Rattle.order_preservation_marks.specs.Kinds.{treated, one_kid_lem, treated_5}
use Rattle.order_preservation_marks.specs.Marking.{marks_ok_lem}

pub grown_as : {m : List ℕ} {u : ℕ} {m' : List ℕ} {a : At} {t t' : Tree} {top : ℕ} → t ≡ t' → Grown m u m' a t top → Grown m u m' a t' top
grown_as {m} {u} {m'} {a} {t} {t'} {top} e g = subst (λ x. Grown m u m' a x top) e g

-- over the children that a loop has made
pub made_then : {m₀ : List ℕ} {u j w : ℕ} {kids m m' : List ℕ} {a : At} {t : Tree} {top : ℕ} (top' : ℕ) → Kids m₀ u j w kids m → Grown m w m' a t top
    → top ≤ top' → Grown m₀ u m' a t top'
made_then {m₀} {u} {j} {w} {kids} {m} {m'} top' p g h =
    let x = p.more in let y = g.more in let z = g.room in
    record { arena = g.arena; old = same_trans u w m₀ m m' x p.old g.old; more = omega arith; here = g.here; tree = g.tree; room = omega arith }

pub first_size : (b : Bool) (d : Forest Marked) → size (mark_first b d) ≡ size d
first_size b none = refl
first_size b (tree m c r) = refl

module _ (m : List ℕ) (w : ℕ) (r ks : List ℕ) (p : Puts m w r ks) where
  pub single : treated (decode r) ≡ true → length ks ≡ 1
  single t = one_kid_lem (length ks) (decode r) t (rule m r ks (put_over m w r ks p)).count

  module _ (n : length ks ≡ 1) (b : Bool) where
    -- with another preserve mark
    pub remark_ok : (g : Bool → Bool) → OkT (node (remark g (decode r)) false (mark_first b (forest m ks)))
    remark_ok g =
        let x = marks_ok_lem (decode r) (forest m ks) (mark_first b (forest m ks)) (strip_first b (forest m ks)) p.ok in
        ((remark_like g (decode r)).ok (map (λ F. F.width) (known (mark_first b (forest m ks)))) x.0, x.1)

    module _ (h : ℕ) (k : Marks (get_or ks 0 0) b h) where
      first-is : forest m (h ∷ []) ≡ mark_first b (forest m ks)
      unfolding forest
      first-is = one m h ∙ ap (λ t. plant t none) (k.tree m) ∙ go ks n
        where
          go : (l : List ℕ) → length l ≡ 1 → plant (set_mark b (tree_of m (get_or l 0 0))) none ≡ mark_first b (forest m l)
          go [] e = absurd (omega arith)
          go (x ∷ []) e = refl
          go (x ∷ y ∷ l) e = absurd (omega arith)

      first_low : h < 2 * w
      first_low = let s = k.slot in let l = below_at (2 * w) ks 0 p.below (omega arith) in omega arith

      -- x: the record of the new node o
      module _ (o : Op) (x : List ℕ) (e : x ≡ encode 1 o) (ok : OkT (node o false (mark_first b (forest m ks)))) where
        decoded : decode x ≡ o
        decoded = ap decode e ∙ decode-encode 1 o (counts_of o (known (mark_first b (forest m ks))) ok.0).fields

        tree_is : node (decode x) false (forest m (h ∷ [])) ≡ node o false (mark_first b (forest m ks))
        tree_is = ap₂ (λ y f. node y false f) decoded first-is

        pub replaced_puts : Puts m w x (h ∷ [])
        replaced_puts =
            let s = ap size first-is ∙ first_size b (forest m ks) in let f = p.few in
            record {
              arena = p.arena;
              room = p.room;
              small = p.small;
              below = (first_low, tt);
              canon = e ∙ ap (encode 1) (sym decoded);
              ok = subst OkT (sym tree_is) ok;
              few = omega arith;
            }

        pub replaced_grown : (m' : List ℕ) (a : At) (top : ℕ) → Grown m w m' a (node (decode x) false (forest m (h ∷ []))) top
            → Grown m w m' a (node o false (mark_first b (forest m ks))) top
        replaced_grown m' a top g = subst (λ t. Grown m w m' a t top) tree_is g

        pub rebuilt_grown : (m' : List ℕ) (a : At) (top : ℕ) → Grown m w m' a (rebuild (decode x) false (forest m (h ∷ []))) top
            → Grown m w m' a (rebuild o false (mark_first b (forest m ks))) top
        rebuilt_grown m' a top g = subst (λ t. Grown m w m' a t top) (ap₂ (λ y f. rebuild y false f) decoded first-is) g

-- A node in slot i, before its children changed, whose record is put over them
module _ (m : List ℕ) (w i : ℕ) (r ks : List ℕ) (p : Puts m w r ks) (h : i < w) where
  pub slot_arena : Arena m (i + 1)
  slot_arena = fewer m w (i + 1) (omega arith) p.arena

  module _ (er : r ≡ (slot m i).rec) (e : eqb (code (decode r)) 5 ≡ true) where
    pub some_kid : 0 < length (slot m i).kids
    some_kid =
        let s = seen m i (p.arena.all i h).proper in
        let o = decode (slot m i).rec in
        let c = (counts_of o (known (forest m (slot m i).kids)) s.ok.0).count in
        let l = one_kid_lem _ o (ap (λ x. treated (decode x)) (sym er) ∙ treated_5 (decode r) e) c in
        let k = length_facts m (slot m i).kids in omega arith

    pub one_child : length ks ≡ 1
    one_child = single m w r ks p (treated_5 (decode r) e)
