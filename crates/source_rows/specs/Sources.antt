-- The sources of a plan, record by record of its file: their streams' widths, and the places of their rows. Assumes nothing.
use Rattle.std.specs.Prelude.{◌≡◌, refl, Bool, true, false, cond, not, ◌&&◌, List, [], ◌∷◌, ◌++◌, ℕ, suc, ◌+◌, ◌-◌, ◌≤◌, ◌<◌, eqb, length, get_or, drop}
use Rattle.std.proofs.Common.{sym, ap, ap₂, ◌∙◌, subst, arith, add-one, eq-eqb, ne_eqb, length-append}
use Rattle.row_order.specs.Iso.{Row}
use Rattle.row_order.proofs.Order.{no_bool}
use Rattle.row_order.specs.Lists.{concat}
use Rattle.row_order.specs.Packed.{bit}
use Rattle.scan.specs.Below.{and_left}
use Rattle.scan.specs.Bytes.{part, le32}
use Rattle.plan.specs.Forest.{none, tree, nodes}
use Rattle.plan.specs.Op.{SourceInfo, Op, source, filter, projection, union, repartition, coalesce, sort_op, merge_op, global_limit, local_limit, sort_merge_join, hash_join, output_requirement, partial_sort, aggregate, Plan}
use Rattle.plan.specs.Numbers.{code}
use Rattle.plan.specs.declared.Kind.TheVariants.{Source}
use Rattle.plan_format.specs.Blocks.{record_start, record_at, span}
use Rattle.plan_codec.specs.Decode.{decode, keys_of}
use Rattle.plan_codec.specs.Reading.{plan_of}
use Rattle.record_fields.specs.Proper.{Proper}
use Rattle.record_fields.specs.Kinds.{op_of, code-kind}
use Rattle.semantics.specs.Runs.{next_s}
use Rattle.semantics.specs.SourceRows.{own, sources_of}
use Rattle.stepping.specs.RowBytes.{streams_ok, streams_at, rows_together, stream_widths}
use Rattle.stepping.specs.Stepping.{given}
use Rattle.stepping.specs.Answers.{at_source}
use Rattle.row_bytes.specs.Streams.{alike, streams_fit, streams_end, fit_join, at_join, ends_inside, rows_few}
use Rattle.source_rows.specs.Files.{op_at, nodes_are, Taken, proper_at, inside}

-- ---- a source, or a node of another kind, which has no rows of its own

pub record Other (o : Op) : Type 0 where
  pub owns : (l : List SourceInfo) → own o l ≡ l
  pub asks : (p : SourceInfo → Bool) → at_source p o ≡ true
  pub next : (i : ℕ) → next_s o i ≡ i
  pub gives : (rows : ℕ → ℕ → List Row) (i : ℕ) → given rows i o ≡ []
  pub kind : eqb (code o) 1 ≡ false

pub data Which : Op → Type 0 where
  is_source : (s : SourceInfo) → Which (source s)
  is_other : {o : Op} → Other o → Which o

pub which : (o : Op) → Which o
which (source s) = is_source s
which filter = is_other (record { owns = λ l. refl; asks = λ p. refl; next = λ i. refl; gives = λ l i. refl; kind = refl })
which (projection cols) = is_other (record { owns = λ l. refl; asks = λ p. refl; next = λ i. refl; gives = λ l i. refl; kind = refl })
which union = is_other (record { owns = λ l. refl; asks = λ p. refl; next = λ i. refl; gives = λ l i. refl; kind = refl })
which (repartition p n h ks) = is_other (record { owns = λ l. refl; asks = λ p. refl; next = λ i. refl; gives = λ l i. refl; kind = refl })
which (coalesce f) = is_other (record { owns = λ l. refl; asks = λ p. refl; next = λ i. refl; gives = λ l i. refl; kind = refl })
which (sort_op p ks f) = is_other (record { owns = λ l. refl; asks = λ p. refl; next = λ i. refl; gives = λ l i. refl; kind = refl })
which (merge_op ks f) = is_other (record { owns = λ l. refl; asks = λ p. refl; next = λ i. refl; gives = λ l i. refl; kind = refl })
which (global_limit s f note) = is_other (record { owns = λ l. refl; asks = λ p. refl; next = λ i. refl; gives = λ l i. refl; kind = refl })
which (local_limit f note) = is_other (record { owns = λ l. refl; asks = λ p. refl; next = λ i. refl; gives = λ l i. refl; kind = refl })
which (sort_merge_join t on) = is_other (record { owns = λ l. refl; asks = λ p. refl; next = λ i. refl; gives = λ l i. refl; kind = refl })
which (hash_join t on) = is_other (record { owns = λ l. refl; asks = λ p. refl; next = λ i. refl; gives = λ l i. refl; kind = refl })
which (output_requirement ks d f) = is_other (record { owns = λ l. refl; asks = λ p. refl; next = λ i. refl; gives = λ l i. refl; kind = refl })
which (partial_sort p ks n f) = is_other (record { owns = λ l. refl; asks = λ p. refl; next = λ i. refl; gives = λ l i. refl; kind = refl })
which (aggregate ks n) = is_other (record { owns = λ l. refl; asks = λ p. refl; next = λ i. refl; gives = λ l i. refl; kind = refl })

-- ---- a record

-- "2 streams": those whose rows are given, which a source alone has
abbrev pub streams_in : List ℕ → ℕ
streams_in r = cond (eqb (get_or r 0 0) 1) (get_or r 2 0) 0

-- as the code reads it; b: the kind byte
pub streams_first : (r : List ℕ) (b k : ℕ) → b ≡ get_or r 0 0 → b ≡ 1 → k ≡ get_or r 2 0 → k ≡ streams_in r
streams_first r b k e h f = f ∙ ap (λ (x : Bool). cond x (get_or r 2 0) 0) (sym (eq-eqb (get_or r 0 0) 1 (sym e ∙ h)))

pub streams_none : (r : List ℕ) (b : ℕ) → b ≡ get_or r 0 0 → (b ≡ 1 → ⊥) → 0 ≡ streams_in r
streams_none r b e h = ap (λ (x : Bool). cond x (get_or r 2 0) 0) (sym (ne_eqb (get_or r 0 0) 1 (λ z. h (e ∙ z))))

-- "13 width"
abbrev pub width_in : List ℕ → ℕ
width_in r = get_or r 13 0

-- What a source's record declares
abbrev pub info_of : List ℕ → SourceInfo
info_of r = record { width = get_or r 13 0; streams = get_or r 2 0; constants = le32 (drop 32 r) 0; keys = keys_of (get_or r 12 0) (part 16 16 r); unbounded = bit (get_or r 3 0) 2 }

pub data Kept (r : List ℕ) : Type 0 where
  a-source : decode r ≡ source (info_of r) → streams_in r ≡ get_or r 2 0 → Kept r
  another : Other (decode r) → streams_in r ≡ 0 → Kept r

pub kept : (r : List ℕ) → Proper r → Kept r
kept r p = go (eqb (get_or r 0 0) 1) refl
  where
    no_source : {o : Op} → Which o → eqb (code o) 1 ≡ false → Other o
    no_source (is_source s) e = no_bool (sym e)
    no_source (is_other x) e = x

    go : (b : Bool) → eqb (get_or r 0 0) 1 ≡ b → Kept r
    go true e =
        a-source (op_of r Source (code-kind r Source (ap (λ (k : ℕ). eqb k 1) (sym p.kind) ∙ e))) (ap (λ (b : Bool). cond b (get_or r 2 0) 0) e)
    go false e = another (no_source (which (decode r)) (ap (λ (k : ℕ). eqb k 1) (sym p.kind) ∙ e)) (ap (λ (b : Bool). cond b (get_or r 2 0) 0) e)

pub own_widths : (r : List ℕ) → Proper r → (l : List SourceInfo) → stream_widths (own (decode r) l) ≡ alike (streams_in r) (width_in r) ++ stream_widths l
own_widths r p l = go (kept r p)
  where
    go : Kept r → stream_widths (own (decode r) l) ≡ alike (streams_in r) (width_in r) ++ stream_widths l
    go (a-source e k) = ap (λ (o : Op). stream_widths (own o l)) e ∙ sym (ap (λ (n : ℕ). alike n (width_in r) ++ stream_widths l) k)
    go (another x k) = ap stream_widths (x.owns l) ∙ sym (ap (λ (n : ℕ). alike n (width_in r) ++ stream_widths l) k)

-- ---- the sources of nodes in a list

abbrev pub own_all : List Op → List SourceInfo → List SourceInfo
own_all [] l = l
own_all (o ∷ os) l = own o (own_all os l)

own_join : (x y : List Op) (l : List SourceInfo) → own_all (x ++ y) l ≡ own_all x (own_all y l)
own_join [] y l = refl
own_join (o ∷ x) y l = ap (own o) (own_join x y l)

pub sources_are : (f : Plan) (l : List SourceInfo) → sources_of f l ≡ own_all (nodes f) l
sources_are none l = refl
sources_are (tree o c r) l = ap (own o) (sources_are c (sources_of r l) ∙ ap (own_all (nodes c)) (sources_are r l) ∙ sym (own_join (nodes c) (nodes r) l))

-- ---- from record j of n on

abbrev pub ops_from : List ℕ → ℕ → ℕ → List Op
ops_from s n j = span (op_at s) j (n - j)

abbrev pub widths_from : List ℕ → ℕ → ℕ → List ℕ
widths_from s n j = stream_widths (own_all (ops_from s n j) [])

pub ops_step : (s : List ℕ) (n j : ℕ) → j < n → ops_from s n j ≡ op_at s j ∷ ops_from s n (j + 1)
unfolding span
ops_step s n j h =
    let z : n - j ≡ suc (n - (j + 1)) = omega arith in
    ap (span (op_at s) j) z ∙ ap (λ (i : ℕ). op_at s j ∷ span (op_at s) i (n - (j + 1))) (sym (add-one j))

pub ops_none : (s : List ℕ) (n j : ℕ) → n ≤ j → ops_from s n j ≡ []
unfolding span
ops_none s n j h = let z : n - j ≡ 0 = omega arith in ap (span (op_at s) j) z

module _ (s : List ℕ) (n : ℕ) (t : Taken s n) where
  pub ops_start : ops_from s n 0 ≡ nodes (plan_of s)
  ops_start = let z : n - 0 ≡ n = omega arith in ap (span (op_at s) 0) (z ∙ t.count) ∙ sym (nodes_are s)

  pub widths_start : widths_from s n 0 ≡ stream_widths (sources_of (plan_of s) [])
  widths_start = ap (λ (os : List Op). stream_widths (own_all os [])) ops_start ∙ sym (ap stream_widths (sources_are (plan_of s) []))

  pub widths_step : (j : ℕ) → j < n → widths_from s n j ≡ alike (streams_in (record_at s j)) (width_in (record_at s j)) ++ widths_from s n (j + 1)
  widths_step j h =
      ap (λ (os : List Op). stream_widths (own_all os [])) (ops_step s n j h) ∙ own_widths (record_at s j) (proper_at s n t j h) (own_all (ops_from s n (j + 1)) [])

pub widths_none : (s : List ℕ) (n j : ℕ) → n ≤ j → widths_from s n j ≡ []
widths_none s n j h = ap (λ (os : List Op). stream_widths (own_all os [])) (ops_none s n j h)

-- ---- the loop over the records; k, w: streams and width of record j; x: the whole test
module _ (s : List ℕ) (n : ℕ) (t : Taken s n) (rows : List ℕ) (j a k w : ℕ) (h : j < n)
    (ek : k ≡ streams_in (record_at s j)) (ew : w ≡ width_in (record_at s j)) where
  step : widths_from s n j ≡ alike k w ++ widths_from s n (j + 1)
  step = widths_step s n t j h ∙ sym (ap₂ (λ (p q : ℕ). alike p q ++ widths_from s n (j + 1)) ek ew)

  pub narrow : w ≤ 32
  narrow = let e = (proper_at s n t j h).wide in omega (arith, ew)

  form-step : streams_ok rows a (widths_from s n j) ≡ streams_fit rows a (alike k w) && streams_ok rows (streams_end rows a (alike k w)) (widths_from s n (j + 1))
  form-step = ap (streams_ok rows a) step ∙ fit_join rows a (alike k w) (widths_from s n (j + 1))

  pub form_fails : (q x : Bool) → q ≡ streams_fit rows a (alike k w) → not q ≡ true → streams_ok rows a (widths_from s n j) ≡ x → false ≡ x
  form_fails true x e f g = no_bool f
  form_fails false x e f g = ap (λ (b : Bool). b && streams_ok rows (streams_end rows a (alike k w)) (widths_from s n (j + 1))) e ∙ sym form-step ∙ g

  pub form_more : (x : Bool) (e : ℕ) → streams_fit rows a (alike k w) ≡ true → e ≡ streams_end rows a (alike k w) → streams_ok rows a (widths_from s n j) ≡ x →
      streams_ok rows e (widths_from s n (j + 1)) ≡ x
  form_more x e f v g =
      ap (λ (b : ℕ). streams_ok rows b (widths_from s n (j + 1))) v
      ∙ ap (λ (b : Bool). b && streams_ok rows (streams_end rows a (alike k w)) (widths_from s n (j + 1))) (sym f) ∙ sym form-step ∙ g

  -- where the form holds
  pub form_here : streams_ok rows a (widths_from s n j) ≡ true → streams_fit rows a (alike k w) ≡ true
  form_here g = and_left (streams_fit rows a (alike k w)) (streams_ok rows (streams_end rows a (alike k w)) (widths_from s n (j + 1))) (sym form-step ∙ g)

  pub rows_more : (e m c x : ℕ) → m ≡ rows_together rows a (alike k w) → e ≡ streams_end rows a (alike k w) → c + rows_together rows a (widths_from s n j) ≡ x →
      c + m + rows_together rows e (widths_from s n (j + 1)) ≡ x
  rows_more e m c x f v g =
      let p : rows_together rows a (widths_from s n j) ≡ rows_together rows a (alike k w) + rows_together rows (streams_end rows a (alike k w)) (widths_from s n (j + 1)) =
      ap (rows_together rows a) step ∙ ap (λ (ss : List (List Row)). length (concat ss)) (at_join rows a (alike k w) (widths_from s n (j + 1)))
      ∙ concat-length (streams_at rows a (alike k w)) (streams_at rows (streams_end rows a (alike k w)) (widths_from s n (j + 1))) in
      let q : rows_together rows e (widths_from s n (j + 1)) ≡ rows_together rows (streams_end rows a (alike k w)) (widths_from s n (j + 1)) =
      ap (λ (b : ℕ). rows_together rows b (widths_from s n (j + 1))) v in
      omega (arith, p, q)
    where
      concat-length : (x y : List (List Row)) → length (concat (x ++ y)) ≡ length (concat x) + length (concat y)
      concat-length [] y = omega arith
      concat-length (l ∷ x) y =
          let i = concat-length x y in let p = length-append l (concat (x ++ y)) in let q = length-append l (concat x) in omega arith

  pub place_inside : (e : ℕ) → a ≤ length rows → streams_fit rows a (alike k w) ≡ true → e ≡ streams_end rows a (alike k w) → e ≤ length rows
  place_inside e l f v = subst (λ (b : ℕ). b ≤ length rows) (sym v) (ends_inside rows a (alike k w) l f)

  pub few_rows : (e m : ℕ) → m ≡ rows_together rows a (alike k w) → e ≡ streams_end rows a (alike k w) → a + m ≤ e
  few_rows e m f v = let q = rows_few rows a (alike k w) in omega (arith, q, f, v)

pub form_end : (s : List ℕ) (n : ℕ) (rows : List ℕ) (j a : ℕ) (x : Bool) → n ≤ j → streams_ok rows a (widths_from s n j) ≡ x → eqb a (length rows) ≡ x
form_end s n rows j a x h g = sym (ap (streams_ok rows a) (widths_none s n j h)) ∙ g

pub rows_end : (s : List ℕ) (n : ℕ) (rows : List ℕ) (j a c x : ℕ) → n ≤ j → c + rows_together rows a (widths_from s n j) ≡ x → c ≡ x
rows_end s n rows j a c x h g = let z : rows_together rows a (widths_from s n j) ≡ 0 = ap (rows_together rows a) (widths_none s n j h) in omega (arith, z)

-- What is asked where one record's source is looked at: its rows from place a on have the form
pub record SourceAt (s : List ℕ) (j : ℕ) (rows : List ℕ) (a : ℕ) : Type 0 where
  pub inside : record_start j + 64 ≤ length s
  pub proper : Proper (record_at s j)
  pub form : streams_fit rows a (alike (streams_in (record_at s j)) (width_in (record_at s j))) ≡ true

module _ (s : List ℕ) (n : ℕ) (t : Taken s n) (rows : List ℕ) (j a : ℕ) (h : j < n) where
  -- a place from which all that is left has the form
  pub source_at : streams_ok rows a (widths_from s n j) ≡ true → SourceAt s j rows a
  source_at f =
      record {
        inside = inside s n t j h;
        proper = proper_at s n t j h;
        form = form_here s n t rows j a (streams_in (record_at s j)) (width_in (record_at s j)) h refl refl f;
      }
