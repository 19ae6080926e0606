-- The records of a well-formed plan are fine, and a fine tree of records is that of a well-formed plan.
use Rattle.std.specs.Prelude.{◌≡◌, refl, Bool, true, false, cond, ◌&&◌, leb, eqb, get_or, Err}
use Rattle.std.proofs.Common.{sym, ◌∙◌, arith}
use Rattle.std.proofs.Math.Path.{ap, ap₂}
use mathlib.Core.List.{List, [], ◌∷◌, ◌++◌, append-nil, map}
use Prim.Native.Nat.{ℕ, zero, suc, ◌≤◌}
use Rattle.std.proofs.Math.ListN.{length}
use borrow.Author.Tests.{eqb-true, eq-eqb, leb-true}
use Rattle.scan.specs.Below.{and_left, and_right}
use Rattle.plan.specs.Forest.{Forest, none, tree, roots, size, nodes, map_f}
use Rattle.plan.specs.Op.{Op, Plan}
use Rattle.plan.specs.Numbers.{Accepted, number_of}
use Rattle.plan.specs.WellFormed.{every, fields_ok, children_ok, union_ok, columns_ok, width, widths, node_ok, nodes_ok, well_formed}
use Rattle.plan.specs.declared.Refusal.TheVariants.{Field, Column, Width}
use Rattle.plan_format.specs.Record.{children, fields, kind_ok, record_ok}
use Rattle.plan_format.specs.LastPass.{width_of, node_refusal}
use Rattle.plan_format.specs.Reading.{finished, enough}
use Rattle.plan_format.specs.Tree.{build}
use Rattle.plan_roundtrip.proofs.Tree.{arity, widths_f, build-nodes, roots-build}
use Rattle.plan_roundtrip.specs.Files.{long, byte, every_append}
use Rattle.plan_roundtrip.proofs.Plans.{FineTree, join_none}
use Rattle.plan_codec.specs.Decode.{decode}
use Rattle.plan_codec.specs.Encode.{encode}
use Rattle.plan_codec.specs.Writing.{records_of}
use Rattle.plan_codec.proofs.Bits.{both}
use Rattle.plan_codec.proofs.NodeRules.{width_same}
use Rattle.plan_codec.proofs.OneRecord.{decode-encode, encode_long, encode-rules, encode-kind, encode_bytes, node_same, encode-decode, decode-fields, decode-children}
use Rattle.plan_codec.proofs.Trees.{recorded, nodes-recorded, length_records, roots-recorded, roots-map, length-widths, arity-recorded, enough-nodes, passes, tree_last}

-- ---- one node

-- what is asked of an operator over children of widths ws
record NodeFine (o : Op) (ws : List ℕ) : Type 0 where
  fields : fields_ok o ≡ true
  counts : children_ok o (length ws) ≡ true
  union : union_ok o ws ≡ true
  columns : columns_ok o ws ≡ true
  narrow : leb (width o ws) 32 ≡ true

node_fine : (o : Op) (ws : List ℕ) → node_ok o ws ≡ true → NodeFine o ws
node_fine o ws e =
    let a = and_left (fields_ok o && children_ok o (length ws)) (union_ok o ws && (columns_ok o ws && leb (width o ws) 32)) e in
    let b = and_right (fields_ok o && children_ok o (length ws)) (union_ok o ws && (columns_ok o ws && leb (width o ws) 32)) e in
    let c = and_right (union_ok o ws) (columns_ok o ws && leb (width o ws) 32) b in
    record {
      fields = and_left (fields_ok o) (children_ok o (length ws)) a;
      counts = and_right (fields_ok o) (children_ok o (length ws)) a;
      union = and_left (union_ok o ws) (columns_ok o ws && leb (width o ws) 32) b;
      columns = and_left (columns_ok o ws) (leb (width o ws) 32) c;
      narrow = and_right (columns_ok o ws) (leb (width o ws) 32) c;
    }

fine_node : (o : Op) (ws : List ℕ) → NodeFine o ws → node_ok o ws ≡ true
fine_node o ws v = ap₂ ◌&&◌ (ap₂ ◌&&◌ v.fields v.counts) (ap₂ ◌&&◌ v.union (ap₂ ◌&&◌ v.columns v.narrow))

-- the first refusal of three tests is none exactly where they all hold
three : (a b c : Bool) → a ≡ true → b ≡ true → c ≡ true → number_of (cond a (cond b (cond c Accepted (Err Width)) (Err Column)) (Err Field)) ≡ 0
three a b c p q r = rw (p, q, r)

three_hold : (a b c : Bool) → number_of (cond a (cond b (cond c Accepted (Err Width)) (Err Column)) (Err Field)) ≡ 0 → (a ≡ true) × (b ≡ true) × (c ≡ true)
three_hold true true true e = (refl, refl, refl)
three_hold true true false e = absurd (omega arith)
three_hold true false c e = absurd (omega arith)
three_hold false b c e = absurd (omega arith)

-- ---- a well-formed plan

module _ (o : Op) (c r : Plan) (e : nodes_ok (tree o c r) ≡ true) where
  here : NodeFine o (widths c)
  here = node_fine o (widths c) (and_left (node_ok o (widths c)) (nodes_ok c && nodes_ok r) e)

  below : nodes_ok c ≡ true
  below = and_left (nodes_ok c) (nodes_ok r) (and_right (node_ok o (widths c)) (nodes_ok c && nodes_ok r) e)

  beside : nodes_ok r ≡ true
  beside = and_right (nodes_ok c) (nodes_ok r) (and_right (node_ok o (widths c)) (nodes_ok c && nodes_ok r) e)

-- no node is wider than 32 columns
narrow_at : (f : Plan) → nodes_ok f ≡ true → (i : ℕ) → get_or (widths f) i 0 ≤ 32
narrow_at none e i = omega arith
narrow_at (tree o c r) e zero = leb-true (width o (widths c)) 32 (here o c r e).narrow
narrow_at (tree o c r) e (suc i) = narrow_at r (beside o c r e) i

-- a test of every record
each : (p : List ℕ → Bool) → ((o : Op) (c : Plan) → NodeFine o (widths c) → nodes_ok c ≡ true → p (encode (length (roots c)) o) ≡ true) → (f : Plan)
    → nodes_ok f ≡ true → every p (records_of f) ≡ true
each p t none e = refl
each p t (tree o c r) e =
    both (p (encode (length (roots c)) o)) (every p (records_of c ++ records_of r)) (t o c (here o c r e) (below o c r e))
    (every_append p (records_of c) (records_of r) (each p t c (below o c r e)) (each p t r (beside o c r e)))

counted : (o : Op) (c : Plan) → NodeFine o (widths c) → children_ok o (length (roots c)) ≡ true
counted o c v = ap (children_ok o) (sym (length-widths c)) ∙ v.counts

widths-recorded : (f : Plan) → widths_f (recorded f) ≡ widths f
widths-recorded none = refl
widths-recorded (tree o c r) =
    let a : List ℕ = encode (length (roots c)) o in
    ap₂ ◌∷◌ (ap (width_of (fields a) a) (widths-recorded c) ∙ width_same (length (roots c)) o (widths c)) (widths-recorded r)

passes-recorded : (f : Plan) → nodes_ok f ≡ true → passes (recorded f) ≡ true
passes-recorded none e = refl
passes-recorded (tree o c r) e =
    let v = here o c r e in
    let k : ℕ = length (roots c) in
    let ws : List ℕ = widths c in
    let z : number_of (node_refusal (encode k o) (widths_f (recorded c))) ≡ 0 =
    ap (λ (ws : List ℕ). number_of (node_refusal (encode k o) ws)) (widths-recorded c) ∙ ap number_of (node_same k o v.fields ws)
    ∙ three (union_ok o ws) (columns_ok o ws) (leb (width o ws) 32) v.union v.columns v.narrow in
    ap₂ ◌&&◌ (eq-eqb (number_of (node_refusal (encode k o) (widths_f (recorded c)))) 0 z)
    (ap₂ ◌&&◌ (passes-recorded c (below o c r e)) (passes-recorded r (beside o c r e)))

pub decoded : (f : Plan) → nodes_ok f ≡ true → map_f decode (recorded f) ≡ f
decoded none e = refl
decoded (tree o c r) e = λ i. tree (decode-encode (length (roots c)) o (here o c r e).fields i) (decoded c (below o c r e) i)
    (decoded r (beside o c r e) i)

pub plan_fine : (f : Plan) → well_formed f ≡ true → FineTree (recorded f)
plan_fine f e =
    let one = eqb-true (length (roots f)) 1 (and_left (eqb (length (roots f)) 1) (leb (size f) 126 && nodes_ok f) e) in
    let rest = and_right (eqb (length (roots f)) 1) (leb (size f) 126 && nodes_ok f) e in
    let most = leb-true (size f) 126 (and_left (leb (size f) 126) (nodes_ok f) rest) in
    let ok = and_right (leb (size f) 126) (nodes_ok f) rest in
    let l : List (List ℕ) = records_of f in
    let same : nodes (recorded f) ≡ l = nodes-recorded f in
    let built : build l ≡ recorded f = ap build (sym same ∙ sym (append-nil (nodes (recorded f)))) ∙ build-nodes (recorded f) [] (arity-recorded f)
    ∙ join_none (recorded f) in
    let fin : finished (map children l) ≡ 1 = sym (roots-build l) ∙ ap (λ (x : Forest (List ℕ)). length (roots x)) built ∙ roots-recorded f ∙ one in
    let enough-l : enough (map children l) ≡ true = ap (λ (x : List (List ℕ)). enough (map children x)) (sym same ∙ sym (append-nil (nodes (recorded f))))
    ∙ enough-nodes (recorded f) [] (arity-recorded f) refl in
    let n = length_records f in
    record {
      one = roots-recorded f ∙ one;
      counts = arity-recorded f;
      records = rw same (record {
        some = some_nodes f one;
        most = omega arith;
        longs = each long (λ o c v q. eq-eqb (length (encode (length (roots c)) o)) 64 (encode_long (length (roots c)) o v.fields)) f ok;
        bytes = each (every byte) (λ o c v q. encode_bytes (length (roots c)) o v.fields (widths c) (counted o c v) v.columns (narrow_at c q 0)
            (narrow_at c q 1)) f ok;
        kinds = each kind_ok (λ o c v q. encode-kind (length (roots c)) o v.fields (counted o c v)) f ok;
        shape = both (enough (map children l)) (eqb (finished (map children l)) 1) enough-l (eq-eqb (finished (map children l)) 1 fin);
        fields = each record_ok (λ o c v q. encode-rules (length (roots c)) o v.fields) f ok;
        last = tree_last l (ap passes built ∙ passes-recorded f ok);
      });
    }
  where
    some_nodes : (g : Plan) → length (roots g) ≡ 1 → 1 ≤ length (records_of g)
    some_nodes none h = absurd (omega arith)
    some_nodes (tree o c r) h = omega arith

-- ---- a fine tree of records

pub record Fit (t : Forest (List ℕ)) : Type 0 where
  pub longs : every long (nodes t) ≡ true
  pub bytes : every (every byte) (nodes t) ≡ true
  pub kinds : every kind_ok (nodes t) ≡ true
  pub rules : every record_ok (nodes t) ≡ true
  pub counts : arity t ≡ true
  pub last : passes t ≡ true

pub every_left : {A : Type 0} (p : A → Bool) (x y : List A) → every p (x ++ y) ≡ true → every p x ≡ true
every_left p [] y e = refl
every_left p (a ∷ x) y e = both (p a) (every p x) (and_left (p a) (every p (x ++ y)) e) (every_left p x y (and_right (p a) (every p (x ++ y)) e))

pub every_right : {A : Type 0} (p : A → Bool) (x y : List A) → every p (x ++ y) ≡ true → every p y ≡ true
every_right p [] y e = e
every_right p (a ∷ x) y e = every_right p x y (and_right (p a) (every p (x ++ y)) e)

module _ (a : List ℕ) (c r : Forest (List ℕ)) (v : Fit (tree a c r)) where
  root : (p : List ℕ → Bool) → every p (nodes (tree a c r)) ≡ true → p a ≡ true
  root p e = and_left (p a) (every p (nodes c ++ nodes r)) e

  others : (p : List ℕ → Bool) → every p (nodes (tree a c r)) ≡ true → every p (nodes c ++ nodes r) ≡ true
  others p e = and_right (p a) (every p (nodes c ++ nodes r)) e

  pass : Bool
  pass = eqb (number_of (node_refusal a (widths_f c))) 0

  rest : (arity c && arity r) ≡ true
  rest = and_right (eqb (children a) (length (roots c))) (arity c && arity r) v.counts

  passed : (passes c && passes r) ≡ true
  unfolding pass
  passed = and_right pass (passes c && passes r) v.last

  kids : Fit c
  kids =
      record {
        longs = every_left long (nodes c) (nodes r) (others long v.longs);
        bytes = every_left (every byte) (nodes c) (nodes r) (others (every byte) v.bytes);
        kinds = every_left kind_ok (nodes c) (nodes r) (others kind_ok v.kinds);
        rules = every_left record_ok (nodes c) (nodes r) (others record_ok v.rules);
        counts = and_left (arity c) (arity r) rest;
        last = and_left (passes c) (passes r) passed;
      }

  siblings : Fit r
  siblings =
      record {
        longs = every_right long (nodes c) (nodes r) (others long v.longs);
        bytes = every_right (every byte) (nodes c) (nodes r) (others (every byte) v.bytes);
        kinds = every_right kind_ok (nodes c) (nodes r) (others kind_ok v.kinds);
        rules = every_right record_ok (nodes c) (nodes r) (others record_ok v.rules);
        counts = and_right (arity c) (arity r) rest;
        last = and_right (passes c) (passes r) passed;
      }

  long-here : length a ≡ 64
  long-here = eqb-true (length a) 64 (root long v.longs)

  children-here : length (roots (map_f decode c)) ≡ children a
  children-here = roots-map decode c
      ∙ sym (eqb-true (children a) (length (roots c)) (and_left (eqb (children a) (length (roots c))) (arity c && arity r) v.counts))

  record_here : encode (length (roots (map_f decode c))) (decode a) ≡ a
  record_here = ap (λ (k : ℕ). encode k (decode a)) children-here ∙ encode-decode a long-here (root (every byte) v.bytes) (root kind_ok v.kinds)
      (root record_ok v.rules)

  fields-here : fields_ok (decode a) ≡ true
  fields-here = decode-fields a long-here (root (every byte) v.bytes) (root kind_ok v.kinds) (root record_ok v.rules)

  -- what the last pass says of the operator
  node_here : widths_f c ≡ widths (map_f decode c) → NodeFine (decode a) (widths (map_f decode c))
  unfolding pass
  node_here w =
      let o : Op = decode a in
      let k : ℕ = length (roots (map_f decode c)) in
      let ws : List ℕ = widths (map_f decode c) in
      let z : number_of (node_refusal a (widths_f c)) ≡ 0 = eqb-true (number_of (node_refusal a (widths_f c))) 0
      (and_left pass (passes c && passes r) v.last) in
      let q : number_of (cond (union_ok o ws) (cond (columns_ok o ws) (cond (leb (width o ws) 32) Accepted (Err Width)) (Err Column)) (Err Field)) ≡ 0 =
      ap number_of (sym (node_same k o fields-here ws) ∙ ap₂ node_refusal record_here (sym w)) ∙ z in
      let t = three_hold (union_ok o ws) (columns_ok o ws) (leb (width o ws) 32) q in
      record {
        fields = fields-here;
        counts = ap (children_ok o) (length-widths (map_f decode c) ∙ children-here) ∙ decode-children a long-here (root (every byte) v.bytes)
            (root kind_ok v.kinds) (root record_ok v.rules);
        union = t.0;
        columns = t.1;
        narrow = t.2;
      }

pub recorded_back : (t : Forest (List ℕ)) → Fit t → recorded (map_f decode t) ≡ t
recorded_back none v = refl
recorded_back (tree a c r) v = λ i. tree (record_here a c r v i) (recorded_back c (kids a c r v) i) (recorded_back r (siblings a c r v) i)

pub nodes_fine : (t : Forest (List ℕ)) → Fit t → nodes_ok (map_f decode t) ≡ true
nodes_fine none v = refl
nodes_fine (tree a c r) v =
    let w : widths_f c ≡ widths (map_f decode c) = ap widths_f (sym (recorded_back c (kids a c r v))) ∙ widths-recorded (map_f decode c) in
    both (node_ok (decode a) (widths (map_f decode c))) (nodes_ok (map_f decode c) && nodes_ok (map_f decode r))
    (fine_node (decode a) (widths (map_f decode c)) (node_here a c r v w))
    (both (nodes_ok (map_f decode c)) (nodes_ok (map_f decode r)) (nodes_fine c (kids a c r v)) (nodes_fine r (siblings a c r v)))
