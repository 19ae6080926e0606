-- The record of a node put back over its children can be put there.
use Rattle.std.specs.Prelude.{◌≡◌, true, false, List, map, ℕ, length}
use Rattle.std.proofs.Common.{sym, ap, ◌∙◌, subst}
use Rattle.plan.specs.WellFormed.{node_ok}
use Rattle.plan_codec.specs.Decode.{decode}
use Rattle.plan_codec.specs.Encode.{encode}
use Rattle.plan_codec.proofs.OneRecord.{decode-encode}
use Rattle.semantics.specs.Facts.{counts, at0}
use Rattle.semantics.specs.Properties.{rebuilt}
use Rattle.walks.specs.Marks.{node, known, rebuild}
use Rattle.walks.specs.Trees.{OkT}
use Rattle.walks.proofs.Theorems.Common.Keeps.{remark_like}
use Rattle.arena.specs.declared.At.{At}
use Rattle.plan_context.specs.View.{forest, Over, Puts, Grown}
use Rattle.plan_context.specs.Nodes.{counts_of}
use Rattle.plan_updates.specs.Putting.{put_over}

module _ (m r ks : List ℕ) (a : Over m r ks) (x : List ℕ) (e : x ≡ encode (length ks) (rebuilt (decode r) (known (forest m ks)))) where
  rule : node_ok (rebuilt (decode r) (known (forest m ks))) (map (λ F. F.width) (known (forest m ks))) ≡ true
  rule = (remark_like (λ q. counts q (at0 (known (forest m ks)))) (decode r)).ok (map (λ F. F.width) (known (forest m ks))) a.ok.0

  decoded : decode x ≡ rebuilt (decode r) (known (forest m ks))
  decoded = ap decode e ∙ decode-encode (length ks) (rebuilt (decode r) (known (forest m ks)))
      (counts_of (rebuilt (decode r) (known (forest m ks))) (known (forest m ks)) rule).fields

  pub rebuilt_tree : node (decode x) false (forest m ks) ≡ rebuild (decode r) false (forest m ks)
  rebuilt_tree = ap (λ o. node o false (forest m ks)) decoded

  pub rebuilt_over : Over m x ks
  rebuilt_over = record {
    there = a.there;
    canon = e ∙ ap (encode (length ks)) (sym decoded);
    ok = subst OkT (sym rebuilt_tree) (rule, a.ok.1);
    few = a.few;
  }

pub rebuilt_puts : (m : List ℕ) (u : ℕ) (r ks : List ℕ) → Puts m u r ks → (x : List ℕ) → x ≡ encode (length ks) (rebuilt (decode r) (known (forest m ks)))
    → Puts m u x ks
rebuilt_puts m u r ks p x e =
    let o = rebuilt_over m r ks (put_over m u r ks p) x e in
    record { arena = p.arena; room = p.room; small = p.small; below = p.below; canon = o.canon; ok = o.ok; few = o.few }

pub rebuilt_grown : (m : List ℕ) (u : ℕ) (r ks : List ℕ) → Puts m u r ks → (x : List ℕ) → x ≡ encode (length ks) (rebuilt (decode r) (known (forest m ks)))
    → (m' : List ℕ) (a : At) (top : ℕ)
    → Grown m u m' a (node (decode x) false (forest m ks)) top → Grown m u m' a (rebuild (decode r) false (forest m ks)) top
rebuilt_grown m u r ks p x e m' a top g = subst (λ t. Grown m u m' a t top) (rebuilt_tree m r ks (put_over m u r ks p) x e) g
