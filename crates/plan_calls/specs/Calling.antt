-- From the file to the arena, and from the arena to the answer of a call.
use Rattle.std.specs.Prelude.{◌≡◌, refl, List, ℕ, ◌*◌, ◌≤◌, Err, length}
use Rattle.std.proofs.Common.{sym, ap, ◌∙◌, subst, arith}
use Rattle.plan.specs.Forest.{Forest, none, tree, size, map_f}
use Rattle.plan.specs.Numbers.{Accepted}
use Rattle.plan.specs.Op.{Plan}
use Rattle.plan.specs.WellFormed.{well_formed}
use Rattle.plan.specs.declared.Refusal.{Refusal}
use Rattle.plan_format.specs.Blocks.{block_count}
use Rattle.plan_format.specs.Reading.{refusal_of}
use Rattle.plan_format.specs.Tree as file
use Rattle.scan.specs.Bytes.{AllBytes}
use Rattle.plan_codec.specs.Decode.{decode}
use Rattle.plan_codec.specs.Reading.{plan_of, reading}
use Rattle.plan_codec.proofs.RoundTrip.{read_well_formed}
use Rattle.plan_arena.specs.Fill.{HoldsTree}
use Rattle.plan_arena.specs.ReadFile.{block_slots, fillable}
use Rattle.plan_arena.specs.Sizes.{size-tree}
use Rattle.walks.specs.Marks.{size_t}
use Rattle.arena.specs.Arena.{slot_size}
use Rattle.step_ends.specs.Tidying.{full_slots}
use Rattle.plan_context.specs.View.{tree_of}
use Rattle.plan_context.specs.Records.{plan_t}
use Rattle.settling.specs.Reading.{is_plan, loaded_all, plan_is}
use Rattle.call_parts.specs.declared.Stop.TheVariants.{Refused}
use Rattle.call_answers.specs.Answers.{Result, after_reading}
use Rattle.call_parts.specs.PartialSorts.{plan_size}
use Rattle.call_parts.specs.Calls.{Called, CalledAs, Formed, Loads}

-- a refused file, whatever was to be done with its plan
pub file_refused : (g : Plan → Result) (s out : List ℕ) (x : Refusal) → refusal_of s ≡ Err x → (short : ℕ)
    → CalledAs (Err (Refused x)) (after_reading g (reading s)) out out short
unfolding reading
file_refused g s out x e short = rw e (refl, refl, refl)

-- an accepted one
module _ (s m : List ℕ) (p : block_slots * block_count s ≤ length m) (by : AllBytes s) (e : refusal_of s ≡ Accepted) (m' : List ℕ)
    (l : length m' ≡ length m) (u r : ℕ) (h : HoldsTree s m' u r) where
  plan_here : plan_t (tree_of m' r) ≡ plan_of s
  plan_here = plan_is s e by m' u r (omega arith) h

  pub file_few : u ≤ 126
  file_few = (fillable s u (length m') e h.used (omega arith)).most

  pub file_count : u ≡ size_t (tree_of m' r)
  file_count =
      let z = plan_size (tree_of m' r) in let y = ap size plan_here in let x = size_map (file.tree_of s) in let n = size-tree s in let q = h.used in
      omega arith
    where
      size_map : (t : Forest (List ℕ)) → size (map_f decode t) ≡ size t
      size_map none = refl
      size_map (tree a c r) = let x = size_map c in let y = size_map r in omega arith

  pub file_formed : Formed m' u r
  file_formed =
      let f = file_few in let c = file_count in
      record {
        loaded = loaded_all s e by m' u r (omega arith) h;
        here = h.here;
        plan = ap well_formed plan_here ∙ read_well_formed s (plan_of s) by (is_plan s e);
        size = omega arith;
      }

  pub file_loads : (c : List ℕ) → (full_slots * slot_size ≤ length m → 126 * slot_size ≤ length c) → Loads m' u r c
  file_loads c k =
      let f = file_formed in
      record { loaded = f.loaded; here = f.here; few = file_few; count = file_count; plan = f.plan; scratch = λ g. k (omega arith) }

  pub file_called : (g : Plan → Result) (x : Called) (out out' : List ℕ) (short : ℕ) → CalledAs x (g (plan_t (tree_of m' r))) out out' short
      → CalledAs x (after_reading g (reading s)) out out' short
  file_called g x out out' short q = subst (λ R. CalledAs x R out out' short) (ap g plan_here ∙ sym (ap (after_reading g) (is_plan s e))) q
