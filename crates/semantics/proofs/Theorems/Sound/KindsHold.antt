-- The facts of unions, filters, projections, repartitions, limits and sorts hold of what such a node makes. Assumes nothing.
use Rattle.std.specs.Prelude.{◌≡◌, refl, Bool, true, false, cond, ◌&&◌, List, [], ◌∷◌, ◌++◌, map, ℕ, ◌+◌, ◌<◌, eqb, length, get_or, Option, Some, None}
use Rattle.std.proofs.Common.{sym, ap, ap₂, ◌∙◌, subst, inr, append-nil, arith, eqb-true, eq-eqb}
use Rattle.row_order.specs.Iso.{Cell, null, Row, Key, cell}
use Rattle.row_order.specs.RowLists.{row_discrete, Sorted}
use Rattle.row_order.proofs.Order.{no_bool}
use Rattle.row_order.specs.Lists.{concat, All, all_nil, all_cons, Pw, Mix, mix_nil, mix_left, Mixes, mixes_nil, mixes_cons, tab}
use Rattle.row_order.specs.ListLaws.{all_head, all_tail, all_map, all_zip, all_append, same_all, pw_map, all_concat, all_over, pw_over, tab-true, tab_at}
use Rattle.semantics.specs.Facts.{Facts, cl, is_c, nf, common, met, ordered, lowest, both, union_facts, proj_facts, sort_streams}
use Rattle.semantics.specs.Properties.{Cut}
use Rattle.semantics.specs.Joins.{keep}
use Rattle.semantics.specs.Runs.{Streams, Each, each_nil, each_cons, OneStream, proj, Split, SortOf, Sorting, front, cut_rows}
use Rattle.semantics.specs.Holds.{RowOK, Holds, AsMany}
use Rattle.semantics.proofs.Theorems.Common.Bools.{and_left, and_right}
use Rattle.semantics.proofs.Theorems.Common.Lowest.{lowest_le, lowest_ok, tab-false}
use Rattle.semantics.proofs.Theorems.Orders.Comparing.{nf-le, common_left, common_right, met-le, cell-proj, carries, proj-le}
use Rattle.semantics.proofs.Theorems.Common.Streams.{keep_all, keep_pw, sorted_nil, all_sorted_nil, streams_map, concat_each, all_take, all_drop, pw_take, pw_drop}

-- sorted by keys: sorted by their normal form
pub nf_sorted : (F : Facts) (v : ℕ → Cell) (ks : List Key) {s : Streams} → All (All (RowOK F v)) s → All (Sorted ks) s → All (Sorted (nf F [] ks)) s
nf_sorted F v ks ps ss = streams_map ks (nf F [] ks) (λ x y px py e. nf-le F v x y px py [] ks all_nil ∙ e) ps ss

pub met_sorted : (F : Facts) (ks : List Key) {s : Streams} → Holds F s → met F ks ≡ true → All (Sorted ks) s
met_sorted F ks h e = streams_map F.order ks (λ x y px py o. met-le F h.value x y px py ks e o) h.rows h.sorted

pub nf_one : (F : Facts) (v : ℕ → Cell) (ks : List Key) {l : List Row} → All (RowOK F v) l → Sorted ks l → Sorted (nf F [] ks) l
nf_one F v ks ps ss = pw_map (λ x y px py e. nf-le F v x y px py [] ks all_nil ∙ e) ps ss

-- ---- the children together
module _ (F G : Facts) where
  abbrev alike : ℕ → ℕ → Bool
  alike c i = eqb (cl F i) (cl F c) && eqb (cl G i) (cl G c)

  alike_self : (c : ℕ) → alike c c ≡ true
  alike_self c = ap₂ ◌&&◌ (eq-eqb (cl F c) (cl F c) refl) (eq-eqb (cl G c) (cl G c) refl)

  alike-low : (c : ℕ) → alike c (lowest (alike c) c) ≡ true
  alike-low c = lowest_ok (alike c) c (inr (alike_self c))

  -- a row of either side, whose classes the union's lie in
  row_of : (H : Facts) → ((c : ℕ) → eqb (cl H (lowest (alike c) c)) (cl H c) ≡ true) → (v : ℕ → Cell) (r : Row) → RowOK H v r
      → RowOK (both F G) (λ c. null) r
  row_of H in-class v r p =
      record {
        const = λ c e. no_bool (sym (tab-false F.width c) ∙ e);
        class = λ c. tab_at (λ d. cell r d ≡ cell r c) F.width (λ d. lowest (alike d) d) c
            (λ _. sym (p.class (low c)) ∙ ap (cell r) (eqb-true (cl H (low c)) (cl H c) (in-class c)) ∙ p.class c) refl;
      }
    where
      low : ℕ → ℕ
      low c = lowest (alike c) c

  in_left : (c : ℕ) → eqb (cl F (lowest (alike c) c)) (cl F c) ≡ true
  in_left c = and_left _ (eqb (cl G (lowest (alike c) c)) (cl G c)) (alike-low c)

  in_right : (c : ℕ) → eqb (cl G (lowest (alike c) c)) (cl G c) ≡ true
  in_right c = and_right (eqb (cl F (lowest (alike c) c)) (cl F c)) _ (alike-low c)

  pub both_holds : (s t : Streams) → Holds F s → Holds G t → Holds (both F G) (s ++ t)
  both_holds s t h k =
      record {
        value = λ c. null;
        rows = all_append (all_map (λ l. all_map (row_of F in_left h.value)) h.rows)
            (all_map (λ l. all_map (row_of G in_right k.value)) k.rows);
        sorted = all_append (streams_map F.order (common F.order G.order) (λ x y _ _. common_left F.order G.order x y) h.rows h.sorted)
            (streams_map G.order (common F.order G.order) (λ x y _ _. common_right F.order G.order x y) k.rows k.sorted);
      }

pub union_holds : {fs : List Facts} {css : List Streams} → Each Holds fs css → Holds (union_facts fs) (concat css)
union_holds each_nil = record { value = λ c. null; rows = all_nil; sorted = all_nil }
union_holds (each_cons {x = F} {y = s} h each_nil) = subst (Holds F) (sym (append-nil s)) h
union_holds (each_cons {x = F} {y = s} h (each_cons {x = G} {y = t} {l = fs} {m = css} k ks)) = both_holds F (union_facts (G ∷ fs)) s (t ++ concat css) h
    (union_holds (each_cons k ks))

-- ---- the kinds
pub filter_holds : (F : Facts) (p : Row → Bool) (s : Streams) → Holds F s → Holds F (map (keep p) s)
filter_holds F p s h =
    record { value = h.value; rows = all_over (keep p) (λ l. keep_all p) h.rows; sorted = all_over (keep p) (λ l. keep_pw p) h.sorted }

module _ (F : Facts) (v : ℕ → Cell) (cols : List ℕ) where
  proj_class : (r : Row) → RowOK F v r → (j : ℕ) → cell (proj cols r) (cl (proj_facts F cols) j) ≡ cell (proj cols r) j
  proj_class r p j = tab_at (λ d. cell (proj cols r) d ≡ cell (proj cols r) j) (length cols) (λ k. lowest (q k) k) j go refl
    where
      q : ℕ → ℕ → Bool
      q k i = eqb (cl F (get_or cols i 0)) (cl F (get_or cols k 0))

      go : j < length cols → cell (proj cols r) (lowest (q j) j) ≡ cell (proj cols r) j
      go lt =
          carries F v cols r p (lowest (q j) j) (get_or cols j 0) (omega (arith, lowest_le (q j) j))
          (lowest_ok (q j) j (inr (eq-eqb (cl F (get_or cols j 0)) (cl F (get_or cols j 0)) refl))) ∙ sym (cell-proj cols r j lt)

  pub proj_row : (r : Row) → RowOK F v r → RowOK (proj_facts F cols) (λ j. v (get_or cols j 0)) (proj cols r)
  proj_row r p =
      record {
        const = λ j e. let t = tab-true (length cols) (λ k. is_c F (get_or cols k 0)) j e in cell-proj cols r j t.0 ∙ p.const (get_or cols j 0) t.1;
        class = proj_class r p;
      }

pub projection_holds : (F : Facts) (cols : List ℕ) (s : Streams) → Holds F s → Holds (proj_facts F cols) (map (map (proj cols)) s)
projection_holds F cols s h =
    record {
      value = λ j. h.value (get_or cols j 0);
      rows = all_over (map (proj cols)) (λ l. all_over (proj cols) (proj_row F h.value cols)) h.rows;
      sorted = all_over (map (proj cols)) (λ l pr. pw_over (proj cols) (λ x y px py. proj-le F h.value cols x y px py F.order) pr.0 pr.1)
          (all_zip h.rows h.sorted);
    }

pub single_holds : (F : Facts) (v : ℕ → Cell) {P : List Row → Type 0} {out : Streams} (ks : List Key) (h : OneStream P out) → All (RowOK F v) h.one
    → Sorted ks h.one → Holds (ordered F 1 ks) out
single_holds F v ks h ps ss =
    subst (Holds (ordered F 1 ks)) (sym h.is) (record { value = v; rows = all_cons ps all_nil; sorted = all_cons ss all_nil })

-- ---- repartitions
pub repartition_holds : (F : Facts) (k : Bool) (n : ℕ) {s out : Streams} → Holds F s → Split n F.order k s out
    → Holds (ordered F n (cond k F.order [])) out
repartition_holds F k n {s} {out} h e =
    record {
      value = h.value;
      rows = concat_each out (same_all row_discrete (concat out) e.same (all_concat s h.rows));
      sorted = go k e.sorted;
    }
  where
    go : (b : Bool) → (b ≡ true → All (Sorted F.order) s → All (Sorted F.order) out) → All (Sorted (cond b F.order [])) out
    go true f = f refl h.sorted
    go false f = all_sorted_nil out

pub sorts_rows : {P : Row → Type 0} {ks : List Key} {s t : Streams} → Each (SortOf ks) s t → All (All P) s → All (All P) t
sorts_rows each_nil ps = all_nil
sorts_rows (each_cons {y = t} h hs) ps = all_cons (same_all row_discrete t h.same (all_head ps)) (sorts_rows hs (all_tail ps))

pub sorts_sorted : {ks : List Key} {s t : Streams} → Each (SortOf ks) s t → All (Sorted ks) t
sorts_sorted each_nil = all_nil
sorts_sorted (each_cons h hs) = all_cons h.sorted (sorts_sorted hs)

-- ---- limits
mix_only : {A : Type 0} {l n : List A} → Mix l [] n → n ≡ l
mix_only mix_nil = refl
mix_only {A} (mix_left {x = x} h) = ap (λ (r : List A). x ∷ r) (mix_only h)

mixes_only : {A : Type 0} {s z : List A} → Mixes (s ∷ []) z → z ≡ s
mixes_only (mixes_cons mixes_nil m) = mix_only m

one_stream : {P : List Row → Type 0} (s : Streams) (z : List Row) → length s ≡ 1 → Mixes s z → All P s → P z
one_stream [] z e m ps = absurd (omega arith)
one_stream {P} (x ∷ []) z e m ps = subst P (sym (mixes_only m)) (all_head ps)
one_stream (x ∷ y ∷ s) z e m ps = absurd (omega arith)

pub limit_sorted : (F : Facts) (s : Streams) (z : List Row) → AsMany F s → Holds F s → Mixes s z → Sorted (cond (eqb F.streams 1) F.order []) z
limit_sorted F s z n h m = go (eqb F.streams 1) refl
  where
    go : (b : Bool) → eqb F.streams 1 ≡ b → Sorted (cond b F.order []) z
    go true e = one_stream {P = Sorted F.order} s z (n ∙ eqb-true F.streams 1 e) m h.sorted
    go false e = sorted_nil z

-- ---- sorts
pub sorting_holds : (F : Facts) (p : Bool) (ks : List Key) (s out : Streams) → Holds F s → Sorting p ks s out
    → Holds (ordered F (sort_streams p F) (nf F [] ks)) out
sorting_holds F true ks s out h e =
    let rs : All (All (RowOK F h.value)) out = sorts_rows e h.rows in
    record { value = h.value; rows = rs; sorted = nf_sorted F h.value ks rs (sorts_sorted e) }
sorting_holds F false ks s out h e =
    let rs : All (RowOK F h.value) e.one = same_all row_discrete e.one e.that.same (all_concat s h.rows) in
    single_holds F h.value (nf F [] ks) e rs (nf_one F h.value ks rs e.that.sorted)

-- ---- cuts
front_all : {P : Row → Type 0} (f : Option ℕ) {l : List Row} → All P l → All P (front f l)
front_all None ps = ps
front_all (Some n) ps = all_take n ps

pub cut_all : {P : Row → Type 0} (k : Cut) {s : Streams} → All (All P) s → All (All P) (map (cut_rows k) s)
cut_all k ps = all_over (cut_rows k) (λ l qs. front_all k.fetch (all_drop k.skip qs)) ps

front_pw : {R : Row → Row → Type 0} (f : Option ℕ) {l : List Row} → Pw R l → Pw R (front f l)
front_pw None ps = ps
front_pw (Some n) ps = pw_take n ps

pub cut_holds : (F : Facts) (k : Cut) (s : Streams) → Holds F s → Holds F (map (cut_rows k) s)
cut_holds F k s h =
    record {
      value = h.value;
      rows = cut_all k h.rows;
      sorted = all_over (cut_rows k) (λ l ps. front_pw k.fetch (pw_drop k.skip ps)) h.sorted;
    }
