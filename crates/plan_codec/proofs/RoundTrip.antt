-- Reading and writing are each other's inverse, and what is accepted is exactly what is well formed.
use Rattle.std.specs.Prelude.{◌≡◌, refl, Bool, true, false, ◌&&◌, List, ℕ, leb, eqb, length, Ok, Err}
use Rattle.std.proofs.Common.{sym, ap, ◌∙◌, arith, eq-eqb, le-leb}
use Rattle.scan.specs.Below.{and_right}
use Rattle.plan.specs.Forest.{none, roots, size, nodes, map_f}
use Rattle.plan.specs.Op.{Plan}
use Rattle.plan.specs.Numbers.{Verdict, Accepted}
use Rattle.plan.specs.WellFormed.{nodes_ok, well_formed}
use Rattle.plan_format.specs.Blocks.{records}
use Rattle.plan_format.specs.Reading.{refusal_of}
use Rattle.plan_format.specs.Writing.{file_of}
use Rattle.plan_format.specs.Tree.{tree_of, file_of_tree}
use Rattle.scan.specs.Bytes.{AllBytes}
use Rattle.plan_format.specs.Passed.{passed_last}
use Rattle.plan_roundtrip.proofs.Plans.{FineTree, tree_accepted, tree_back, accepted_tree, file_back}
use Rattle.plan_codec.specs.Decode.{decode}
use Rattle.plan_codec.specs.Reading.{PlanOrRefusal, refused, plan, plan_of, unless_refused, reading}
use Rattle.plan_codec.specs.Writing.{file_of_plan}
use Rattle.plan_codec.proofs.Bits.{both, no_false}
use Rattle.plan_codec.proofs.Trees.{recorded, nodes-recorded, length_records, roots-map, last_tree}
use Rattle.plan_codec.proofs.Plans.{plan_fine, decoded, Fit, recorded_back, nodes_fine}

-- ---- a plan's answer

is_plan : PlanOrRefusal → Bool
is_plan (refused r) = false
is_plan (plan f) = true

plan_in_lem : PlanOrRefusal → Plan
plan_in_lem (refused r) = none
plan_in_lem (plan f) = f

record Read (s : List ℕ) (f : Plan) : Type 0 where
  fine : refusal_of s ≡ Accepted
  same : plan_of s ≡ f

read : (s : List ℕ) (f : Plan) → reading s ≡ plan f → Read s f
unfolding reading is_plan plan_in_lem
read s f e = go (refusal_of s) refl e
  where
    go : (x : Verdict) → refusal_of s ≡ x → unless_refused x (plan_of s) ≡ plan f → Read s f
    go (Ok x) q e = record { fine = q; same = ap plan_in_lem e }
    go (Err r) q e = no_false (ap is_plan e)

-- ---- the file of a plan

file_same : (f : Plan) → file_of_tree (recorded f) ≡ file_of_plan f
file_same f = ap file_of (nodes-recorded f)

-- The file of a well-formed plan is never refused
pub written_accepted : (f : Plan) → well_formed f ≡ true → refusal_of (file_of_plan f) ≡ Accepted
written_accepted f e = ap refusal_of (sym (file_same f)) ∙ tree_accepted (recorded f) (plan_fine f e)

-- Reading what was written gives the plan back
pub read_written : (f : Plan) → well_formed f ≡ true → reading (file_of_plan f) ≡ plan f
unfolding reading
read_written f e =
    let t : tree_of (file_of_plan f) ≡ recorded f = ap tree_of (sym (file_same f)) ∙ tree_back (recorded f) (plan_fine f e) in
    let n : nodes_ok f ≡ true = and_right (leb (size f) 126) (nodes_ok f) (and_right (eqb (length (roots f)) 1) (leb (size f) 126 && nodes_ok f) e) in
    rw (written_accepted f e) (ap plan (ap (map_f decode) t ∙ decoded f n))

-- ---- the plan of a file

module _ (s : List ℕ) (f : Plan) (by : AllBytes s) (e : reading s ≡ plan f) where
  tree_fine : FineTree (tree_of s)
  tree_fine = accepted_tree s by (read s f e).fine

  fit : Fit (tree_of s)
  fit =
      let v = tree_fine in
      record {
        longs = v.records.longs;
        bytes = v.records.bytes;
        kinds = v.records.kinds;
        rules = v.records.fields;
        counts = v.counts;
        last = last_tree (records s) (passed_last s (read s f e).fine);
      }

  same_tree : recorded f ≡ tree_of s
  same_tree = ap recorded (sym (read s f e).same) ∙ recorded_back (tree_of s) fit

  -- Writing what was read gives the same bytes
  pub written_read : file_of_plan f ≡ s
  written_read = sym (file_same f) ∙ ap file_of_tree same_tree ∙ file_back s by (read s f e).fine

  -- An accepted file's plan is well formed
  pub read_well_formed : well_formed f ≡ true
  read_well_formed =
      let g = (read s f e).same in
      let one : length (roots f) ≡ 1 = ap (λ (x : Plan). length (roots x)) (sym g) ∙ roots-map decode (tree_of s) ∙ tree_fine.one in
      let n : size f ≡ length (nodes (tree_of s)) = sym (length_records f) ∙ ap length (sym (nodes-recorded f) ∙ ap nodes same_tree) in
      let most = tree_fine.records.most in
      both (eqb (length (roots f)) 1) (leb (size f) 126 && nodes_ok f) (eq-eqb (length (roots f)) 1 one)
      (both (leb (size f) 126) (nodes_ok f) (le-leb (size f) 126 (omega arith)) (ap nodes_ok (sym g) ∙ nodes_fine (tree_of s) fit))

-- The format has one file for each plan
pub one_file : (s t : List ℕ) (f : Plan) → AllBytes s → AllBytes t → reading s ≡ plan f → reading t ≡ plan f → s ≡ t
one_file s t f a b e g = sym (written_read s f a e) ∙ written_read t f b g
