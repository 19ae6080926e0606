-- The facts of a node (01, 'Facts of a node'): width, streams, constants, classes, known order. These are definitions.
use Rattle.std.specs.Prelude.{Bool, true, false, cond, not, ◌&&◌, ◌||◌, List, [], ◌∷◌, map, ℕ, zero, suc, ◌+◌, ◌-◌, min, eqb, ltb, leb, length, get_or}
use Rattle.std.specs.Bool.{beq}
use Rattle.row_order.specs.Iso.{Key}
use Rattle.row_order.specs.Lists.{tab}
use Rattle.row_order.specs.Packed.{bit}
use Rattle.plan.specs.Forest.{Forest, none, tree}
use Rattle.plan.specs.Op.{On, Op, source, filter, projection, union, repartition, coalesce, sort_op, merge_op, global_limit, local_limit, sort_merge_join, hash_join, output_requirement, partial_sort, aggregate, Plan}
use Rattle.plan.specs.WellFormed.{member, columns_of}
use Rattle.plan.specs.declared.JoinType.{JoinType}
use Rattle.plan.specs.declared.JoinType.TheVariants.{Inner, Left, Right, Full, LeftSemi, LeftAnti, RightSemi, RightAnti}

-- Both tables have an entry for each column below the width. `consts`: the column is constant, one value over all streams.
-- `cls`: the lowest column of its class of equal columns. An empty order is no order
pub record Facts : Type 0 where
  pub width : ℕ
  pub streams : ℕ
  pub consts : List Bool
  pub cls : List ℕ
  pub order : List Key

-- A column's class's lowest; past the table a column is alone in its class
abbrev pub cl : Facts → ℕ → ℕ
cl F c = get_or F.cls c c

-- A column is constant; past the table none is
abbrev pub is_c : Facts → ℕ → Bool
is_c F c = get_or F.consts c false

-- The known order
abbrev pub known_order : Facts → List Key
known_order F = F.order

-- ---- key lists

abbrev pub with_column : ℕ → Key → Key
with_column c k = record { col = c; desc = k.desc; first = k.first }

-- "Normal form of a key list: each column replaced by its class's lowest, constants dropped, later repeats dropped."
-- cs: constants; low: class's lowest; seen: the columns kept so far
abbrev pub nf_by : (ℕ → Bool) → (ℕ → ℕ) → List ℕ → List Key → List Key
nf_by cs low seen [] = []
nf_by cs low seen (k ∷ ks) =
    cond (cs (low k.col) || member (low k.col) seen) (nf_by cs low seen ks) (with_column (low k.col) k ∷ nf_by cs low (low k.col ∷ seen) ks)

abbrev pub nf : Facts → List ℕ → List Key → List Key
nf F seen ks = nf_by (is_c F) (cl F) seen ks

abbrev pub eq_key : Key → Key → Bool
eq_key k l = eqb k.col l.col && (beq k.desc l.desc && beq k.first l.first)

abbrev pub prefixb : List Key → List Key → Bool
prefixb [] q = true
prefixb (k ∷ p) [] = false
prefixb (k ∷ p) (l ∷ q) = eq_key k l && prefixb p q

abbrev pub common : List Key → List Key → List Key
common [] q = []
common (k ∷ p) [] = []
common (k ∷ p) (l ∷ q) = cond (eq_key k l) (k ∷ common p q) []

-- "A wanted order is met when its normal form is a prefix of the known order's": a known order is its own normal form (Theorems/Canonical)
abbrev pub met : Facts → List Key → Bool
met F ks = prefixb (nf F [] ks) (known_order F)

-- "one list is compatible with a second when the second's normal form is a prefix of the first's"
abbrev pub compatible : Facts → List Key → List Key → Bool
compatible F ks ls = prefixb (nf F [] ls) (nf F [] ks)

-- "A list that a rewrite puts into a node or a requirement drops a column's later repeats."
abbrev pub drop_repeats : List ℕ → List Key → List Key
drop_repeats seen [] = []
drop_repeats seen (k ∷ ks) = cond (member k.col seen) (drop_repeats seen ks) (k ∷ drop_repeats (k.col ∷ seen) ks)

-- ---- other streams, another order

-- "Repartition, coalesce, sort, partial sort and merge keep constants and classes"
abbrev pub ordered : Facts → ℕ → List Key → Facts
ordered F n ks = record { width = F.width; streams = n; consts = F.consts; cls = F.cls; order = ks }

-- "To reorder is to put a list's normal form in the known order's place; no change if they are equal."
abbrev pub reorder : Facts → List Key → Facts
reorder F ks = ordered F F.streams (nf F [] ks)

-- Nothing is known: each column alone in its class, none constant, no order. Full joins, and a child that isn't there
abbrev pub unknown : ℕ → Facts
unknown w = record { width = w; streams = 0; consts = tab w (λ c. false); cls = tab w (λ c. c); order = [] }

abbrev pub nothing : Facts
nothing = unknown 0

-- ---- sources

-- "32-35 a column set by bits (source: constants)"
abbrev pub source_facts : ℕ → ℕ → ℕ → Facts
source_facts w n s = record { width = w; streams = n; consts = tab w (bit s); cls = tab w (λ c. c); order = [] }

-- ---- unions

-- The lowest i below n where p holds; n if there is none
abbrev pub lowest : (ℕ → Bool) → ℕ → ℕ
lowest p zero = zero
lowest p (suc n) = cond (p zero) zero (suc (lowest (λ i. p (suc i)) n))

-- "Union: streams added, the children's common prefix, common classes, no constants"
abbrev pub both : Facts → Facts → Facts
both F G =
    record {
      width = F.width;
      streams = F.streams + G.streams;
      consts = tab F.width (λ c. false);
      cls = tab F.width (λ c. lowest (λ i. eqb (cl F i) (cl F c) && eqb (cl G i) (cl G c)) c);
      order = common F.order G.order;
    }

-- A plan's union has two children at least
abbrev pub union_facts : List Facts → Facts
union_facts [] = nothing
union_facts (F ∷ []) = F
union_facts (F ∷ G ∷ fs) = both F (union_facts (G ∷ fs))

-- ---- projections: "carries what its columns carry, outputs of one child class being one class; the order as far as a class
-- member is projected, lowest output column first"

-- The lowest output column that carries column c's class; the width if there is none
abbrev pub carried : Facts → List ℕ → ℕ → ℕ
carried F cols c = lowest (λ i. eqb (cl F (get_or cols i 0)) (cl F c)) (length cols)

abbrev pub proj_order : Facts → List ℕ → List Key → List Key
proj_order F cols [] = []
proj_order F cols (k ∷ ks) = cond (ltb (carried F cols k.col) (length cols)) (with_column (carried F cols k.col) k ∷ proj_order F cols ks) []

abbrev pub proj_facts : Facts → List ℕ → Facts
proj_facts F cols =
    record {
      width = length cols;
      streams = F.streams;
      consts = tab (length cols) (λ j. is_c F (get_or cols j 0));
      cls = tab (length cols) (λ j. lowest (λ i. eqb (cl F (get_or cols i 0)) (cl F (get_or cols j 0))) j);
      order = proj_order F cols F.order;
    }

-- ---- aggregates: "knows order, constants and classes as a projection to its group columns would"; "Group columns come first in its output"

-- A column is one of several, or equals one
abbrev pub carried_by : Facts → List ℕ → ℕ → Bool
carried_by F [] c = false
carried_by F (d ∷ cols) c = eqb (cl F d) (cl F c) || carried_by F cols c

-- "It maintains exactly when the first key of the child's known order is a group column or equals one"
abbrev pub keeps_groups : Facts → List Key → List Key → Bool
keeps_groups F ks [] = false
keeps_groups F ks (k ∷ known) = carried_by F (columns_of ks) k.col

-- ---- repartitions and sorts

abbrev pub is_nil : {A : Type 0} → List A → Bool
is_nil [] = true
is_nil (x ∷ l) = false

-- "A repartition's preserve mark counts only over an ordered child of several streams"
abbrev pub counts : Bool → Facts → Bool
counts p F = p && (not (is_nil (known_order F)) && ltb 1 F.streams)

-- "Repartition maintains with one input stream or with preserve."
abbrev pub keeps_order : Bool → Facts → Bool
keeps_order p F = eqb F.streams 1 || counts p F

-- "whole sorts of both kinds .. give one stream": those without the preserve mark
abbrev pub sort_streams : Bool → Facts → ℕ
sort_streams true F = F.streams
sort_streams false F = 1

-- ---- joins

-- The side whose order a join keeps
pub data Kept : Type 0 where
  k_left k_right k_none : Kept

-- "Sort-merge keeps left, for Right types right, for Full none"
abbrev pub smj_kept : JoinType → Kept
smj_kept Inner = k_left
smj_kept Left = k_left
smj_kept Right = k_right
smj_kept Full = k_none
smj_kept LeftSemi = k_left
smj_kept LeftAnti = k_left
smj_kept RightSemi = k_right
smj_kept RightAnti = k_right

-- "Hash keeps right for Inner, Right, RightSemi, RightAnti"
abbrev pub hash_kept : JoinType → Kept
hash_kept Inner = k_right
hash_kept Left = k_none
hash_kept Right = k_right
hash_kept Full = k_none
hash_kept LeftSemi = k_none
hash_kept LeftAnti = k_none
hash_kept RightSemi = k_right
hash_kept RightAnti = k_right

-- "Streams: hash and Right types right's, else left's."
abbrev pub by_right : JoinType → Bool
by_right Inner = false
by_right Left = false
by_right Right = true
by_right Full = false
by_right LeftSemi = false
by_right LeftAnti = false
by_right RightSemi = true
by_right RightAnti = true

-- The left side's facts, before n columns of which nothing is known; so are an aggregate's group columns before its aggregate columns
abbrev pub placed : Facts → ℕ → Facts
placed F n =
    record {
      width = F.width + n;
      streams = F.streams;
      consts = tab (F.width + n) (λ c. ltb c F.width && is_c F c);
      cls = tab (F.width + n) (λ c. cond (ltb c F.width) (cl F c) c);
      order = F.order;
    }

-- The right side's facts, behind w columns of which nothing is known
abbrev pub shifted : ℕ → Facts → Facts
shifted w G =
    record {
      width = w + G.width;
      streams = G.streams;
      consts = tab (w + G.width) (λ c. leb w c && is_c G (c - w));
      cls = tab (w + G.width) (λ c. cond (leb w c) (w + cl G (c - w)) c);
      order = G.order;
    }

-- Both sides' facts
abbrev pub beside : Facts → Facts → Facts
beside F G =
    record {
      width = F.width + G.width;
      streams = F.streams;
      consts = tab (F.width + G.width) (λ c. cond (ltb c F.width) (is_c F c) (is_c G (c - F.width)));
      cls = tab (F.width + G.width) (λ c. cond (ltb c F.width) (cl F c) (F.width + cl G (c - F.width)));
      order = F.order;
    }

-- Columns a and b are equal: their classes become one. "A class that holds a constant is all constant."
abbrev pub in_class : Facts → ℕ → ℕ → ℕ → Bool
in_class F a b c = eqb (cl F c) (cl F a) || eqb (cl F c) (cl F b)

abbrev pub linked : Facts → ℕ → ℕ → Facts
linked F a b =
    record {
      width = F.width;
      streams = F.streams;
      consts = tab F.width (λ c. is_c F c || (in_class F a b c && (is_c F a || is_c F b)));
      cls = tab F.width (λ c. cond (in_class F a b c) (min (cl F a) (cl F b)) (cl F c));
      order = F.order;
    }

-- The key pairs, behind w left columns. In a plan every left key column is below w: the test has no effect there
abbrev pub link_all : ℕ → List On → Facts → Facts
link_all w [] F = F
link_all w (k ∷ on) F = link_all w on (cond (ltb k.key.col w) (linked F k.key.col (w + k.other)) F)

-- "Inner joins both sides' constants and classes and the key pairs; others have the preserved side's, Full none."
abbrev pub join_base : JoinType → List On → Facts → Facts → Facts
join_base Inner on F G = link_all F.width on (beside F G)
join_base Left on F G = placed F G.width
join_base Right on F G = shifted F.width G
join_base Full on F G = unknown (F.width + G.width)
join_base LeftSemi on F G = F
join_base LeftAnti on F G = F
join_base RightSemi on F G = G
join_base RightAnti on F G = G

-- A left order, as far as it stays in the left columns. In a plan it does: no effect there
abbrev pub within : ℕ → List Key → List Key
within w [] = []
within w (k ∷ ks) = cond (ltb k.col w) (k ∷ within w ks) []

abbrev pub moved : ℕ → Key → Key
moved n k = with_column (n + k.col) k

abbrev pub left_order : JoinType → ℕ → List Key → List Key
left_order Inner w ks = within w ks
left_order Left w ks = within w ks
left_order Right w ks = []
left_order Full w ks = []
left_order LeftSemi w ks = ks
left_order LeftAnti w ks = ks
left_order RightSemi w ks = []
left_order RightAnti w ks = []

abbrev pub right_order : JoinType → ℕ → List Key → List Key
right_order Inner w ks = map (moved w) ks
right_order Left w ks = []
right_order Right w ks = map (moved w) ks
right_order Full w ks = []
right_order LeftSemi w ks = []
right_order LeftAnti w ks = []
right_order RightSemi w ks = ks
right_order RightAnti w ks = ks

-- "Join: the kept side's order, moved to its place; `calculate_join_output_ordering` gives just that."
abbrev pub join_order : JoinType → Kept → Facts → Facts → List Key
join_order t k_left F G = left_order t F.width (known_order F)
join_order t k_right F G = right_order t F.width (known_order G)
join_order t k_none F G = []

-- n: the join's streams. "A known order is held in normal form"
abbrev pub join_facts : JoinType → Kept → List On → Facts → Facts → ℕ → Facts
join_facts t k on F G n = ordered (join_base t on F G) n (nf (join_base t on F G) [] (join_order t k F G))

-- ---- facts of a node, from its children's

abbrev pub at0 : List Facts → Facts
at0 fs = get_or fs 0 nothing

abbrev pub at1 : List Facts → Facts
at1 fs = get_or fs 1 nothing

-- "Filter, limits, output requirement keep all, but a global limit over several streams knows no order."
-- "Coalesce loses order. Sort, partial sort and merge know their keys; whole sorts of both kinds, merges, coalesces and global
-- limits give one stream."
abbrev pub facts_op : Op → List Facts → Facts
facts_op (source s) fs = reorder (source_facts s.width s.streams s.constants) s.keys
facts_op filter fs = at0 fs
facts_op (projection cols) fs = proj_facts (at0 fs) cols
facts_op union fs = union_facts fs
facts_op (repartition p n h ks) fs = ordered (at0 fs) n (cond (keeps_order p (at0 fs)) (known_order (at0 fs)) [])
facts_op (coalesce f) fs = ordered (at0 fs) 1 []
facts_op (sort_op p ks f) fs = ordered (at0 fs) (sort_streams p (at0 fs)) (nf (at0 fs) [] ks)
facts_op (merge_op ks f) fs = ordered (at0 fs) 1 (nf (at0 fs) [] ks)
facts_op (global_limit s f note) fs = ordered (at0 fs) 1 (cond (eqb (at0 fs).streams 1) (known_order (at0 fs)) [])
facts_op (local_limit f note) fs = at0 fs
facts_op (sort_merge_join t on) fs = join_facts t (smj_kept t) on (at0 fs) (at1 fs) (cond (by_right t) (at1 fs).streams (at0 fs).streams)
facts_op (hash_join t on) fs = join_facts t (hash_kept t) on (at0 fs) (at1 fs) (at1 fs).streams
facts_op (output_requirement ks d f) fs = at0 fs
facts_op (partial_sort p ks n f) fs = ordered (at0 fs) (sort_streams p (at0 fs)) (nf (at0 fs) [] ks)
facts_op (aggregate ks n) fs = placed (proj_facts (at0 fs) (columns_of ks)) n

-- The facts of each root
abbrev pub facts : Plan → List Facts
facts none = []
facts (tree o c r) = facts_op o (facts c) ∷ facts r
