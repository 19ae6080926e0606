-- The records of an accepted plan file: where they stand, and that each is the proper record of its plan's node. Assumes nothing.
use Rattle.std.specs.Prelude.{◌≡◌, refl, true, ◌&&◌, List, [], ◌∷◌, ◌++◌, map, ℕ, zero, suc, ◌+◌, ◌≤◌, ◌<◌, leb, length, get_or}
use Rattle.std.proofs.Common.{sym, ap, ap₂, ◌∙◌, subst, arith, leb-true, length-append}
use Rattle.row_order.specs.Lists.{All, all_nil, all_cons}
use Rattle.row_order.specs.ListLaws.{all_head, all_tail, all_append}
use Rattle.scan.specs.Below.{and_left, and_right}
use Rattle.scan.specs.Bytes.{AllBytes}
use Rattle.plan.specs.Forest.{Forest, none, tree, roots, size, nodes, map_f}
use Rattle.plan.specs.Op.{Op, Plan}
use Rattle.plan.specs.Numbers.{Accepted, number_of}
use Rattle.plan.specs.WellFormed.{fields_ok, children_ok, union_ok, columns_ok, width, widths, node_ok, nodes_ok}
use Rattle.plan_format.specs.Blocks.{record_count, record_start, record_at, span, records}
use Rattle.plan_format.specs.Reading.{refusal_of}
use Rattle.plan_format.specs.Tree.{tree_of}
use Rattle.plan_format.specs.Passed.{accepted, passed, passed_last, few_records}
use Rattle.plan_roundtrip.specs.Files.{length-span}
use Rattle.plan_roundtrip.proofs.Tree.{nodes-build}
use Rattle.plan_roundtrip.proofs.Plans.{accepted_tree}
use Rattle.plan_codec.specs.Decode.{decode}
use Rattle.plan_codec.specs.Encode.{encode}
use Rattle.plan_codec.proofs.OneRecord.{decode-encode}
use Rattle.plan_codec.proofs.Trees.{recorded, last_tree}
use Rattle.plan_codec.proofs.Plans.{Fit, recorded_back, nodes_fine}
use Rattle.plan_codec.specs.Reading.{plan_of}
use Rattle.record_fields.specs.Proper.{Proper}
use Rattle.record_fields.specs.Encoded.{proper}

-- ---- the records of a well-formed plan are proper

widths_small : (f : Plan) → nodes_ok f ≡ true → (j : ℕ) → get_or (widths f) j 0 ≤ 32
widths_small none e j = omega arith
widths_small (tree o c r) e zero =
    let a = and_left (node_ok o (widths c)) (nodes_ok c && nodes_ok r) e in
    let b = and_right (fields_ok o && children_ok o (length (widths c))) (union_ok o (widths c) && (columns_ok o (widths c) && leb (width o (widths c)) 32)) a in
    leb-true (width o (widths c)) 32
    (and_right (columns_ok o (widths c)) (leb (width o (widths c)) 32)
    (and_right (union_ok o (widths c)) (columns_ok o (widths c) && leb (width o (widths c)) 32) b))
widths_small (tree o c r) e (suc j) =
    widths_small r (and_right (nodes_ok c) (nodes_ok r) (and_right (node_ok o (widths c)) (nodes_ok c && nodes_ok r) e)) j

node_proper : (k : ℕ) (o : Op) (c : Plan) → nodes_ok c ≡ true → node_ok o (widths c) ≡ true → Proper (encode k o)
node_proper k o c n a =
    let f = and_left (fields_ok o) (children_ok o (length (widths c)))
    (and_left (fields_ok o && children_ok o (length (widths c))) (union_ok o (widths c) && (columns_ok o (widths c) && leb (width o (widths c)) 32)) a) in
    let b = and_right (fields_ok o && children_ok o (length (widths c))) (union_ok o (widths c) && (columns_ok o (widths c) && leb (width o (widths c)) 32)) a in
    let g = and_left (columns_ok o (widths c)) (leb (width o (widths c)) 32)
    (and_right (union_ok o (widths c)) (columns_ok o (widths c) && leb (width o (widths c)) 32) b) in
    let d = decode-encode k o f in
    proper (encode k o) k (widths c) (sym (ap (encode k) d)) (ap fields_ok d ∙ f) (ap (λ (x : Op). columns_ok x (widths c)) d ∙ g)
    (widths_small c n 0) (widths_small c n 1)

nodes-proper : (f : Plan) → nodes_ok f ≡ true → All Proper (nodes (recorded f))
nodes-proper none e = all_nil
nodes-proper (tree o c r) e =
    let b = and_right (node_ok o (widths c)) (nodes_ok c && nodes_ok r) e in
    let n = and_left (nodes_ok c) (nodes_ok r) b in
    all_cons (node_proper (length (roots c)) o c n (and_left (node_ok o (widths c)) (nodes_ok c && nodes_ok r) e))
    (all_append (nodes-proper c n) (nodes-proper r (and_right (nodes_ok c) (nodes_ok r) b)))

-- ---- lists by their places

map-span : {A B : Type 0} (g : A → B) (f : ℕ → A) (i n : ℕ) → map g (span f i n) ≡ span (λ j. g (f j)) i n
unfolding span
map-span g f i zero = refl
map-span {B = B} g f i (suc n) = ap (λ (l : List B). g (f i) ∷ l) (map-span g f (suc i) n)

all_span : {A : Type 0} (P : A → Type 0) (f : ℕ → A) (i n : ℕ) → All P (span f i n) → (j : ℕ) → j < n → P (f (i + j))
unfolding span
all_span P f i zero a j h = absurd (omega arith)
all_span P f i (suc n) a zero h = let z : i + 0 ≡ i = omega arith in rw z (all_head a)
all_span P f i (suc n) a (suc j) h = let z : i + suc j ≡ suc i + j = omega arith in rw z (all_span P f (suc i) n (all_tail a) j (omega arith))

nodes-map : {A B : Type 0} (g : A → B) (f : Forest A) → nodes (map_f g f) ≡ map g (nodes f)
nodes-map g none = refl
nodes-map {B = B} g (tree a c r) = ap (λ (l : List B). g a ∷ l) (ap₂ ◌++◌ (nodes-map g c) (nodes-map g r) ∙ sym (map_join (nodes c) (nodes r)))
  where
    map_join : (x y : List _) → map g (x ++ y) ≡ map g x ++ map g y
    map_join [] y = refl
    map_join (a ∷ x) y = ap (λ (l : List B). g a ∷ l) (map_join x y)

-- ---- an accepted file of n records

-- The operator of record j
abbrev pub op_at : List ℕ → ℕ → Op
op_at s j = decode (record_at s j)

-- The nodes of its plan are its records, read as operators
pub nodes_are : (s : List ℕ) → nodes (plan_of s) ≡ span (op_at s) 0 (record_count s)
nodes_are s = nodes-map decode (tree_of s) ∙ ap (map decode) (nodes-build (records s)) ∙ map-span decode (record_at s) 0 (record_count s)

pub size-nodes : {A : Type 0} (f : Forest A) → size f ≡ length (nodes f)
size-nodes none = refl
size-nodes (tree a c r) = let p = size-nodes c in let q = size-nodes r in let l = length-append (nodes c) (nodes r) in omega arith

-- as many nodes as records
pub size_is : (s : List ℕ) → size (plan_of s) ≡ record_count s
size_is s = size-nodes (plan_of s) ∙ ap length (nodes_are s) ∙ length-span (op_at s) 0 (record_count s)

-- What the calls ask of a plan file, and that its bytes are bytes
pub record Taken (s : List ℕ) (n : ℕ) : Type 0 where
  pub fine : refusal_of s ≡ Accepted
  pub bytes : AllBytes s
  pub count : n ≡ record_count s

pub taken : (s : List ℕ) (n : ℕ) → (number_of (refusal_of s) ≡ 0) × (n ≡ record_count s) → AllBytes s → Taken s n
taken s n p b = record { fine = accepted (refusal_of s) p.0; bytes = b; count = p.1 }

module _ (s : List ℕ) (n : ℕ) (t : Taken s n) where
  fit : Fit (tree_of s)
  fit =
      let v = accepted_tree s t.bytes t.fine in
      record {
        longs = v.records.longs;
        bytes = v.records.bytes;
        kinds = v.records.kinds;
        rules = v.records.fields;
        counts = v.counts;
        last = last_tree (records s) (passed_last s t.fine);
      }

  all_proper : All Proper (records s)
  all_proper =
      subst (All Proper) (ap nodes (recorded_back (tree_of s) fit) ∙ nodes-build (records s)) (nodes-proper (plan_of s) (nodes_fine (tree_of s) fit))

  pub proper_at : (j : ℕ) → j < n → Proper (record_at s j)
  proper_at j h = let e = t.count in let z : 0 + j ≡ j = omega arith in
      subst (λ (k : ℕ). Proper (record_at s k)) z (all_span Proper (record_at s) 0 (record_count s) all_proper j (omega arith))

  -- a record lies in the file
  pub inside : (j : ℕ) → j < n → record_start j + 64 ≤ length s
  inside j h = let f = few_records s (passed s t.fine) in let b = f.2 in let e = t.count in omega arith
