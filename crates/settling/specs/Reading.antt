-- What the reader leaves can be settled, and is the plan of the file.
use Rattle.std.specs.Prelude.{◌≡◌, refl, Bool, true, ◌&&◌, List, ◌++◌, ℕ, suc, ◌+◌, ◌*◌, ◌≤◌, ◌<◌, eqb, leb, length}
use Rattle.std.proofs.Common.{sym, ap, ◌∙◌, arith}
use Rattle.scan.specs.Below.{and_left, and_right}
use Rattle.plan.specs.Forest.{Forest, none, tree, nodes, roots, size, map_f}
use Rattle.plan.specs.WellFormed.{every, widths, node_ok, nodes_ok}
use Rattle.plan.specs.Numbers.{Accepted}
use Rattle.plan_format.specs.Blocks.{block_count}
use Rattle.plan_format.specs.Reading.{refusal_of}
use Rattle.plan_format.specs.Record.{kind_ok, record_ok}
use Rattle.plan_format.specs.Tree as file
use Rattle.plan_codec.proofs.Bits.{both}
use Rattle.plan_codec.specs.Decode.{decode}
use Rattle.plan_codec.specs.Encode.{encode}
use Rattle.plan_codec.proofs.OneRecord.{encode-decode}
use Rattle.plan_codec.proofs.Plans.{every_left, every_right}
use Rattle.plan_codec.specs.Reading.{plan, plan_of, reading}
use Rattle.plan_codec.proofs.RoundTrip.{read_well_formed}
use Rattle.plan_roundtrip.specs.Files.{byte}
use Rattle.scan.specs.Bytes.{AllBytes}
use Rattle.plan_roundtrip.proofs.Plans.{accepted_tree}
use Rattle.plan_arena.specs.Parts.{Part, here, under, beside}
use Rattle.plan_arena.specs.Fill.{HoldsTree}
use Rattle.plan_arena.specs.ReadFile.{block_slots, fillable}
use Rattle.plan_arena.specs.Sizes.{size-tree}
use Rattle.arena.specs.Arena as records
use Rattle.arena.specs.Arena.{slot_size, slot, held}
use Rattle.arena.specs.Held.{view}
use Rattle.arena.specs.Laws.{index_even}
use Rattle.walks.proofs.Theorems.Common.Trees.{ok_of, strip-size}
use Rattle.plan_context.specs.View.{tree_in, tree_of, most_slots, ProperSlot, Arena, Settles, Settled}
use Rattle.plan_context.specs.Laws.{fewer, slot_held, moved_proper}
use Rattle.settling.specs.Settling.{in_held, settled_arena, settled_nodes}
use Rattle.plan_context.specs.Records.{plan_t, views}

-- What is asked before all slots are settled
pub record Loaded (m : List ℕ) (u : ℕ) : Type 0 where
  pub slots : u * slot_size ≤ length m
  pub small : u ≤ most_slots
  pub proper : (i : ℕ) → i < u → ProperSlot m i

-- ---- slot after slot

-- The first i slots are settled; the nodes are those of m₀
pub record Settling (m₀ : List ℕ) (u i : ℕ) (m : List ℕ) : Type 0 where
  pub low : i ≤ u
  pub long : length m ≡ length m₀
  pub arena : Arena m i
  pub nodes : (v : ℕ) → held m v ≡ held m₀ v

module _ (m₀ : List ℕ) (u : ℕ) (a : Loaded m₀ u) where
  pub settling_none : Settling m₀ u 0 m₀
  settling_none = record {
    low = omega arith;
    long = refl;
    arena = record { slots = omega arith; small = omega arith; all = λ i h. absurd (omega arith) };
    nodes = λ v. refl;
  }

  module _ (i : ℕ) (m : List ℕ) (h : i < u) (p : Settling m₀ u i m) where
    pub settling_asks : Settles m i
    settling_asks =
        let s = a.slots in let l = p.long in let n = a.small in
        record {
          arena = p.arena;
          room = omega arith;
          small = omega arith;
          proper = moved_proper m₀ m i (slot_held m₀ m i (p.nodes (suc i))) (in_held m₀ m i (p.nodes (suc i))) (a.proper i h);
        }

    pub settling_more : (m' : List ℕ) → length m' ≡ length m → Settled m i m' → Settling m₀ u (i + 1) m'
    settling_more m' l s =
        record {
          low = omega arith;
          long = l ∙ p.long;
          arena = settled_arena m i settling_asks m' s l;
          nodes = λ v. settled_nodes m i settling_asks m' s l v ∙ p.nodes v;
        }

  pub settling_all : (i : ℕ) (m : List ℕ) → u ≤ i → Settling m₀ u i m → Arena m u × ((v : ℕ) → held m v ≡ held m₀ v)
  settling_all i m h p = let l = p.low in (fewer m i u (omega arith) p.arena, p.nodes)

-- ---- a part of a tree keeps its rules

abbrev at_root : (List ℕ → Bool) → Forest (List ℕ) → Bool
at_root p none = true
at_root p (tree a c r) = p a

part_root : (p : List ℕ → Bool) {t f : Forest (List ℕ)} → Part t f → every p (nodes f) ≡ true → at_root p t ≡ true
part_root p (here {a} {c} {r}) e = and_left (p a) (every p (nodes c ++ nodes r)) e
part_root p (under {a} {t} {c} {r} q) e = part_root p q (every_left p (nodes c) (nodes r) (and_right (p a) (every p (nodes c ++ nodes r)) e))
part_root p (beside {a} {t} {c} {r} q) e = part_root p q (every_right p (nodes c) (nodes r) (and_right (p a) (every p (nodes c ++ nodes r)) e))

part_size : {A : Type 0} {t f : Forest A} → Part t f → size t ≤ size f
part_size here = omega arith
part_size (under p) = let h = part_size p in omega arith
part_size (beside p) = let h = part_size p in omega arith

part_ok : {t f : Forest (List ℕ)} → Part t f → nodes_ok (map_f decode f) ≡ true → nodes_ok (map_f decode t) ≡ true
part_ok (here {a} {c} {r}) e =
    let o = node_ok (decode a) (widths (map_f decode c)) in
    let k = and_right o (nodes_ok (map_f decode c) && nodes_ok (map_f decode r)) e in
    both o (nodes_ok (map_f decode c) && true) (and_left o (nodes_ok (map_f decode c) && nodes_ok (map_f decode r)) e)
    (both (nodes_ok (map_f decode c)) true (and_left (nodes_ok (map_f decode c)) (nodes_ok (map_f decode r)) k) refl)
part_ok (under {a} {t} {c} {r} p) e =
    part_ok p (and_left (nodes_ok (map_f decode c)) (nodes_ok (map_f decode r))
    (and_right (node_ok (decode a) (widths (map_f decode c))) (nodes_ok (map_f decode c) && nodes_ok (map_f decode r)) e))
part_ok (beside {a} {t} {c} {r} p) e =
    part_ok p (and_right (nodes_ok (map_f decode c)) (nodes_ok (map_f decode r))
    (and_right (node_ok (decode a) (widths (map_f decode c))) (nodes_ok (map_f decode c) && nodes_ok (map_f decode r)) e))

size_map : {A B : Type 0} (f : A → B) (t : Forest A) → size (map_f f t) ≡ size t
size_map f none = refl
size_map f (tree a c r) = let x = size_map f c in let y = size_map f r in omega arith

-- ---- an accepted file s

module _ (s : List ℕ) (e : refusal_of s ≡ Accepted) where
  pub is_plan : reading s ≡ plan (plan_of s)
  unfolding reading
  is_plan = rw e

  module _ (by : AllBytes s) (m : List ℕ) (u r : ℕ) (l : block_slots * block_count s ≤ length m) (h : HoldsTree s m u r) where
    at_root_lem : (i : ℕ) → i < u → (p : List ℕ → Bool) → every p (nodes (file.tree_of s)) ≡ true → p (slot m i).rec ≡ true
    at_root_lem i g p q = ap (at_root p) (sym (view m u i h.good g).tree) ∙ part_root p (h.parts i g) q

    sound : nodes_ok (map_f decode (file.tree_of s)) ≡ true
    sound =
        let w = read_well_formed s (plan_of s) by is_plan in
        and_right (leb (size (plan_of s)) 126) (nodes_ok (plan_of s))
        (and_right (eqb (length (roots (plan_of s))) 1) (leb (size (plan_of s)) 126 && nodes_ok (plan_of s)) w)

    -- the tree in slot i, as a plan
    in_slot : (i : ℕ) → i < u → map_f decode (records.tree_at (held m u) (2 * i)) ≡ plan_t (tree_in m i)
    in_slot i g = views m u (2 * i) h.good (omega arith) ∙ ap (λ j. plan_t (tree_in m j)) (index_even i)

    pub loaded_all : Loaded m u
    loaded_all =
        let t = (accepted_tree s by e).records in
        let f = fillable s u (length m) e h.used l in let k = f.most in
        record {
          slots = f.fits;
          small = omega arith;
          proper = λ i g.
              let v = (view m u i h.good g).fine in
              let p = in_slot i g in
              let o = ok_of (plan_t (tree_in m i)) (ap nodes_ok (sym p) ∙ part_ok (h.parts i g) sound) in
              let x = ap size p in let y = size_map decode (records.tree_at (held m u) (2 * i)) in let z = part_size (h.parts i g) in
              let w = strip-size (tree_in m i).kids in let n = size-tree s in let q = h.used in
              record {
                below = v.below;
                canon =
                    sym (encode-decode (slot m i).rec v.long (at_root_lem i g (every byte) t.bytes) (at_root_lem i g kind_ok t.kinds)
                    (at_root_lem i g record_ok t.fields))
                    ∙ ap (λ n. encode n (decode (slot m i).rec)) (sym v.count);
                ok = (o.0, o.1);
                few = omega arith;
              };
        }

    -- the file's plan
    pub plan_is : plan_t (tree_of m r) ≡ plan_of s
    plan_is = sym (views m u r h.good h.here) ∙ ap (map_f decode) h.tree
