-- One node over its children, by their handles.
use Rattle.std.specs.Prelude.{◌≡◌, true, false, ◌&&◌, List, map, ℕ, suc, ◌*◌, ◌≤◌, ◌<◌, leb, length, get_or}
use Rattle.std.proofs.Common.{sym, ◌∙◌, subst, arith, eqb-true, leb-true}
use Rattle.std.proofs.Math.Path.{ap}
use Rattle.std.proofs.lemmas.List.{length-map}
use Rattle.scan.specs.Below.{and_left, and_right}
use Rattle.plan.specs.Op.{Op, source, filter, projection, union, repartition, coalesce, sort_op, merge_op, global_limit, local_limit, sort_merge_join, hash_join, output_requirement, partial_sort, aggregate, kind}
use Rattle.plan.specs.Numbers.{kind_of}
use Rattle.plan.specs.WellFormed.{fields_ok, children_ok, union_ok, columns_ok, width, node_ok}
use Rattle.plan.specs.declared.Kind.TheVariants.{Union}
use Rattle.plan_format.specs.Record.{children, record_ok}
use Rattle.plan_codec.specs.Decode.{from_bytes, operator_of, decode}
use Rattle.plan_codec.specs.Encode.{encode}
use Rattle.plan_codec.proofs.OneRecord.{encode-children, encode_long, encode-rules}
use Rattle.semantics.specs.Facts.{Facts, union_facts, facts_op}
use Rattle.facts.specs.declared.Facts.{Facts as Coded}
use Rattle.facts.specs.Known.{Says}
use Rattle.walks.specs.Marks.{known, node, size_t}
use Rattle.walks.specs.Trees.{OkT}
use Rattle.plan.specs.Forest.{size}
use Rattle.arena.specs.Arena.{slot, Below}
use Rattle.plan_context.specs.View.{tree_in, forest, most_nodes, ProperSlot, Over}
use Rattle.plan_context.specs.Laws.{length_facts, tree_in_lem}

-- a union has eight children at most, every other kind fewer
pub few_any : (o : Op) (n : ℕ) → children_ok o n ≡ true → n ≤ 8
few_any (source s) n e = omega (arith, eqb-true n 0 e)
few_any filter n e = omega (arith, eqb-true n 1 e)
few_any (projection cols) n e = omega (arith, eqb-true n 1 e)
few_any union n e = leb-true n 8 (and_right (leb 2 n) (leb n 8) e)
few_any (repartition p k h ks) n e = omega (arith, eqb-true n 1 e)
few_any (coalesce t) n e = omega (arith, eqb-true n 1 e)
few_any (sort_op p ks t) n e = omega (arith, eqb-true n 1 e)
few_any (merge_op ks t) n e = omega (arith, eqb-true n 1 e)
few_any (global_limit s t note) n e = omega (arith, eqb-true n 1 e)
few_any (local_limit t note) n e = omega (arith, eqb-true n 1 e)
few_any (sort_merge_join t on) n e = omega (arith, eqb-true n 2 e)
few_any (hash_join t on) n e = omega (arith, eqb-true n 2 e)
few_any (output_requirement ks d t) n e = omega (arith, eqb-true n 1 e)
few_any (partial_sort p ks k t) n e = omega (arith, eqb-true n 1 e)
few_any (aggregate ks k) n e = omega (arith, eqb-true n 1 e)

-- what a node's rule says of its operator and its number of children
pub record Counts (o : Op) (n : ℕ) : Type 0 where
  pub fields : fields_ok o ≡ true
  pub count : children_ok o n ≡ true

pub counts_of : (o : Op) (fs : List Facts) → node_ok o (map (λ F. F.width) fs) ≡ true → Counts o (length fs)
counts_of o fs e =
    let ws : List ℕ = map (λ F. F.width) fs in
    let x : fields_ok o && children_ok o (length ws) ≡ true = and_left (fields_ok o && children_ok o (length ws))
    (union_ok o ws && (columns_ok o ws && leb (width o ws) 32)) e in
    record {
      fields = and_left (fields_ok o) (children_ok o (length ws)) x;
      count = ap (children_ok o) (sym (length-map fs (λ F. F.width)))
          ∙ and_right (fields_ok o) (children_ok o (length ws)) x;
    }

-- a canonical record
pub record Canonical (r : List ℕ) (n : ℕ) : Type 0 where
  pub long : length r ≡ 64
  pub count : children r ≡ n
  pub rules : record_ok r ≡ true

pub canonical : (r : List ℕ) (n : ℕ) → fields_ok (decode r) ≡ true → r ≡ encode n (decode r) → Canonical r n
canonical r n f e = record {
  long = ap length e ∙ encode_long n (decode r) f;
  count = ap children e ∙ encode-children n (decode r);
  rules = ap record_ok e ∙ encode-rules n (decode r) f;
}

module _ (m r ks : List ℕ) (a : Over m r ks) where
  pub rule : Counts (decode r) (length ks)
  rule = subst (Counts (decode r)) (length_facts m ks) (counts_of (decode r) (known (forest m ks)) a.ok.0)

  pub proper : Canonical r (length ks)
  proper = canonical r (length ks) rule.fields a.canon

  pub few_over : length ks ≤ 8
  few_over = few_any (decode r) (length ks) rule.count

  -- a union
  module _ (e : kind_of (get_or r 0 0) ≡ Union) where
    is_union : decode r ≡ union
    unfolding decode
    is_union = ap (λ k. operator_of k (from_bytes r)) e

    pub union_some : 0 < length ks
    union_some =
        let l = leb-true 2 (length ks)
        (and_left (leb 2 (length ks)) (leb (length ks) 8) (ap (λ o. children_ok o (length ks)) (sym is_union) ∙ rule.count)) in
        omega arith

    pub union_says : (f : Coded) → Says (union_facts (known (forest m ks))) f → Says (facts_op (decode r) (known (forest m ks))) f
    union_says f s = subst (λ F. Says F f) (sym (ap (λ o. facts_op o (known (forest m ks))) is_union)) s

-- ---- what reading slot i shows

pub record Seen (m : List ℕ) (i : ℕ) : Type 0 where
  pub tree : tree_in m i ≡ node (decode (slot m i).rec) false (forest m (slot m i).kids)
  pub below : Below (2 * i) (slot m i).kids
  pub canon : (slot m i).rec ≡ encode (length (slot m i).kids) (decode (slot m i).rec)
  pub ok : OkT (node (decode (slot m i).rec) false (forest m (slot m i).kids))
  pub small : suc (size (forest m (slot m i).kids)) ≤ most_nodes
  pub count : children (slot m i).rec ≡ length (slot m i).kids
  pub long : length (slot m i).rec ≡ 64
  pub few : length (slot m i).kids ≤ 8

pub seen : (m : List ℕ) (i : ℕ) → ProperSlot m i → Seen m i
seen m i h =
    let t = tree_in_lem m i h.below in
    let o : OkT (node (decode (slot m i).rec) false (forest m (slot m i).kids)) = subst OkT t h.ok in
    let c = subst (Counts (decode (slot m i).rec)) (length_facts m (slot m i).kids)
    (counts_of (decode (slot m i).rec) (known (forest m (slot m i).kids)) o.0) in
    let k = canonical (slot m i).rec (length (slot m i).kids) c.fields h.canon in
    record {
      tree = t;
      below = h.below;
      canon = h.canon;
      ok = o;
      small = subst (λ x. size_t x ≤ most_nodes) t h.few;
      count = k.count;
      long = k.long;
      few = few_any (decode (slot m i).rec) (length (slot m i).kids) c.count;
    }
