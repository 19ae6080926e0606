-- The small plans that the examples are made of. These are definitions.
use Rattle.std.specs.Prelude.{Bool, true, false, List, [], ◌∷◌, ℕ, zero, suc, None}
use Rattle.row_order.specs.Iso.{Key}
use Rattle.plan.specs.Forest.{none, tree}
use Rattle.plan.specs.Op.{Op, filter, output_requirement, Plan, sort_op, union}
use Rattle.plan.specs.Samples.{by, source_of, up}
use Rattle.plan.specs.declared.Distribution.TheVariants.{Single, Unspecified}
use Rattle.walks.specs.OrderPreserving.{Settings}
use Rattle.walks.specs.Terms.{◌⊕◌}

-- columns c and d, both ascending, nulls last
abbrev pub by_two : ℕ → ℕ → List Key
by_two c d = up c ∷ up d ∷ []

-- a source of n streams of three columns, known ks
abbrev pub src : ℕ → List Key → Plan
src n ks = tree (source_of 3 n 0 ks false) none none

-- the same, unbounded
abbrev pub endless_src : ℕ → List Key → Plan
endless_src n ks = tree (source_of 3 n 0 ks true) none none

-- a source of n streams of two columns, known ks, with the constants s
abbrev pub pair : ℕ → List Key → ℕ → Plan
pair n ks s = tree (source_of 2 n s ks false) none none

-- column 1, descending, nulls first; a source that knows it descending, nulls last
abbrev pub turned : Key
turned = record { col = 1; desc = true; first = true }

abbrev pub falling : Plan
falling = pair 1 (record { col = 1; desc = true; first = false } ∷ []) 1

abbrev pub on : Op → Plan → Plan
on o c = tree o c none

-- nodes over f, the outermost first
abbrev pub stack : List Op → Plan → Plan
stack [] f = f
stack (o ∷ os) f = on o (stack os f)

-- a sort by column c; the preserving one, of each stream
abbrev pub sort : ℕ → Plan → Plan
sort c f = on (sort_op false (by c) None) f

abbrev pub sort_each : ℕ → Plan → Plan
sort_each c f = on (sort_op true (by c) None) f

-- kind 13: rows in the order ks; on a single stream
abbrev pub output : List Key → Plan → Plan
output ks f = on (output_requirement ks Unspecified None) f

abbrev pub single : List Key → Op
single ks = output_requirement ks Single None

abbrev pub besides : Plan → Plan → Plan
besides f g = on union (f ⊕ g)

-- n filters over f
abbrev pub filtered : ℕ → Plan → Plan
filtered zero f = f
filtered (suc n) f = on filter (filtered n f)

-- spr better, spm better, prefer existing
abbrev pub settings : Bool → Bool → Bool → Settings
settings a b c = record { spr = a; spm = b; prefer = c }
