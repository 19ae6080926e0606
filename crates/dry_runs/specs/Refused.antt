-- Which answer comes: refusals of the file and of the rows, in their order, and what is stepped. Assumes nothing.
use Rattle.std.specs.Prelude.{◌≡◌, refl, Bool, true, false, cond, not, ◌&&◌, ◌||◌, List, ℕ, ◌+◌, ◌*◌, ◌≤◌, ◌<◌, ltb, eqb, length, Ok, Err}
use Rattle.std.proofs.Common.{sym, ap, ◌∙◌, subst, arith, lt-ltb, le-ltb, ltb-true, ltb-false, eqb-true}
use Rattle.row_order.proofs.Order.{no_bool}
use Rattle.plan.specs.Numbers.{Verdict, Accepted, number_of}
use Rattle.plan.specs.Op.{Plan}
use Rattle.plan_format.specs.Blocks.{block_count, record_count}
use Rattle.plan_format.specs.Reading.{refusal_of}
use Rattle.plan_codec.specs.Reading.{plan_of, unless_refused, reading}
use Rattle.plan_arena.specs.ReadFile.{block_slots, few_blocks, fillable, is_accepted}
use Rattle.plan_arena.specs.Fill.{HoldsTree}
use Rattle.plan_codec.proofs.RoundTrip.{read_well_formed}
use Rattle.scan.specs.Bytes.{AllBytes}
use Rattle.source_rows.specs.Nodes.{file_steps}
use Rattle.semantics.proofs.Theorems.Common.Bools.{and_left}
use Rattle.stepping.specs.Answers.{Answer, refused, fitted, answer, number, output, first_unstepped, sources_ok, many_rows}
use Rattle.stepping.specs.RowBytes.{rows_in, form_ok, streams_bytes}
use Rattle.stepping.specs.Stepping.{delivered, can_step}
use Rattle.step_answers.specs.Answers.{after_reading, returned, output_after}
use Rattle.settling.specs.Reading.{is_plan, loaded_all, plan_is}
use Rattle.row_reader.specs.Plans.{row_count}
use Rattle.dry_runs.specs.Tables.{rows_refusal, last_answer, Given, Stored}

-- ---- the refusals of the rows
module _ (f : Plan) (rows bytes out : List ℕ) where
  go : (a b c : Bool) (x r : ℕ) (w : Answer) → r ≡ cond a (256 + x) (cond b 26 (cond c 27 0)) → (r ≡ 0 → ⊥) →
      (r ≡ number (cond a (refused (256 + x)) (cond b (refused 26) (cond c (refused 27) w)))) ×
      (out ≡ output (cond a (refused (256 + x)) (cond b (refused 26) (cond c (refused 27) w))) out)
  go true b c x r w e z = (e, refl)
  go false true c x r w e z = (e, refl)
  go false false true x r w e z = (e, refl)
  go false false false x r w e z = absurd (z e)

  pub rows_refused : (r : ℕ) → r ≡ rows_refusal f rows → (r ≡ 0 → ⊥) →
      (r ≡ number (answer f rows bytes (length out))) × (out ≡ output (answer f rows bytes (length out)) out)
  rows_refused r e z =
      go (not (can_step f)) (not (form_ok f rows && sources_ok (rows_in f rows) f)) (many_rows f rows) (first_unstepped f) r
      (fitted (length out) (streams_bytes (delivered f (rows_in f rows) bytes))) e z

  pub record Passes : Type 0 where
    pub steps : can_step f ≡ true
    pub form : form_ok f rows ≡ true
    pub few : row_count f rows ≤ 256
    pub is : answer f rows bytes (length out) ≡ last_answer f rows bytes (length out)

  ok : (a b c : Bool) (x : ℕ) (w : Answer) → 0 ≡ cond a (256 + x) (cond b 26 (cond c 27 0)) →
      (a ≡ false) × (b ≡ false) × (c ≡ false) × (cond a (refused (256 + x)) (cond b (refused 26) (cond c (refused 27) w)) ≡ w)
  ok true b c x w e = absurd (omega arith)
  ok false true c x w e = absurd (omega arith)
  ok false false true x w e = absurd (omega arith)
  ok false false false x w e = (refl, refl, refl, refl)

  yes_not : (a : Bool) → not a ≡ false → a ≡ true
  yes_not true e = refl
  yes_not false e = no_bool (sym e)

  pub rows_pass : 0 ≡ rows_refusal f rows → Passes
  rows_pass e =
      let p = ok (not (can_step f)) (not (form_ok f rows && sources_ok (rows_in f rows) f)) (many_rows f rows) (first_unstepped f)
      (fitted (length out) (streams_bytes (delivered f (rows_in f rows) bytes))) e in
      record {
        steps = yes_not (can_step f) p.0;
        form = and_left (form_ok f rows) (sources_ok (rows_in f rows) f) (yes_not (form_ok f rows && sources_ok (rows_in f rows) f) p.1);
        few = ltb-false 256 (row_count f rows) p.2;
        is = p.3;
      }

-- ---- the file
pub file_refused : (s rows bytes out : List ℕ) (n : ℕ) → n ≡ number_of (refusal_of s) → (n ≡ 0 → ⊥) → (n ≡ returned s rows bytes out) × (out ≡ output_after s rows bytes out)
unfolding reading
file_refused s rows bytes out n e z = go-read (refusal_of s) refl
  where
    go-read : (v : Verdict) → refusal_of s ≡ v
        → (n ≡ number (after_reading (unless_refused v (plan_of s)) rows bytes (length out))) × (out ≡ output (after_reading (unless_refused v (plan_of s)) rows bytes (length out)) out)
    go-read (Ok x) q = absurd (z (e ∙ ap number_of q))
    go-read (Err x) q = (e ∙ ap number_of q, refl)

pub blocks_inside : (n : ℕ) → (eqb n 0 || ltb 18 n) ≡ false → n ≤ 18
blocks_inside n e = go (eqb n 0) e
  where
    go : (a : Bool) → (a || ltb 18 n) ≡ false → n ≤ 18
    go true e = no_bool (sym e)
    go false e = ltb-false 18 n e

pub blocks_outside : (s : List ℕ) → (eqb (block_count s) 0 || ltb 18 (block_count s)) ≡ true → refusal_of s ≡ Accepted → ⊥
blocks_outside s h e = let f = few_blocks s e in go (eqb (block_count s) 0) refl h f.0 f.1
  where
    go : (a : Bool) → eqb (block_count s) 0 ≡ a → (a || ltb 18 (block_count s)) ≡ true → 1 ≤ block_count s → block_count s ≤ 18 → ⊥
    go true q h x y = let z = eqb-true (block_count s) 0 q in omega arith
    go false q h x y = let z = ltb-true 18 (block_count s) h in omega arith

pub accepted_is : (s rows bytes out out' : List ℕ) (x : ℕ) → refusal_of s ≡ Accepted →
    (x ≡ number (answer (plan_of s) rows bytes (length out))) × (out' ≡ output (answer (plan_of s) rows bytes (length out)) out) →
    (x ≡ returned s rows bytes out) × (out' ≡ output_after s rows bytes out)
accepted_is s rows bytes out out' x e h = rw (is_plan s e) h

pub file_few : (s : List ℕ) (n : ℕ) → number_of (refusal_of s) ≡ 0 → n ≡ record_count s → n ≤ 126
file_few s n z e = (fillable s n (block_slots * block_count s) (is_accepted s (refusal_of s) refl z) e (omega arith)).most

-- ---- `refusal_of_rows`
module _ (s : List ℕ) (n : ℕ) (rows : List ℕ) (first : ℕ) (e : n ≡ record_count s) (i : first ≡ first_unstepped (plan_of s)) where
  abbrev choice : Bool → Bool → Bool → ℕ
  choice a b c = cond (not a) (256 + first_unstepped (plan_of s)) (cond (not b) 26 (cond c 27 0))

  abbrev kept : Bool
  kept = form_ok (plan_of s) rows && sources_ok (rows_in (plan_of s) rows) (plan_of s)

  by_tests : (a b c : Bool) → can_step (plan_of s) ≡ a → kept ≡ b → many_rows (plan_of s) rows ≡ c → rows_refusal (plan_of s) rows ≡ choice a b c
  by_tests a b c x y z =
      ap (λ (t : Bool). choice t kept (many_rows (plan_of s) rows)) x ∙ ap (λ (t : Bool). choice a t (many_rows (plan_of s) rows)) y ∙ ap (choice a b) z

  pub not-stepped : first < n → 256 + first ≡ rows_refusal (plan_of s) rows
  not-stepped h =
      ap (λ (x : ℕ). 256 + x) i
      ∙ sym (by_tests false kept (many_rows (plan_of s) rows) (file_steps s n first e i ∙ ap not (lt-ltb first n h)) refl refl)

  module _ (h : n ≤ first) where
    stepped : can_step (plan_of s) ≡ true
    stepped = file_steps s n first e i ∙ ap not (le-ltb first n h)

    no_and : (a b : Bool) → a ≡ false → a && b ≡ false
    no_and true b e = no_bool (sym e)
    no_and false b e = refl

    and_no : (a b : Bool) → b ≡ false → a && b ≡ false
    and_no true b e = e
    and_no false b e = refl

    both : (a b : Bool) → a ≡ true → b ≡ true → a && b ≡ true
    both true b e g = g
    both false b e g = no_bool e

    is_false : (q b : Bool) → q ≡ b → not q ≡ true → b ≡ false
    is_false true b e g = no_bool g
    is_false false b e g = sym e

    pub no_form : (q : Bool) → q ≡ form_ok (plan_of s) rows → not q ≡ true → 26 ≡ rows_refusal (plan_of s) rows
    no_form q x y =
        sym (by_tests true false (many_rows (plan_of s) rows) stepped
        (no_and (form_ok (plan_of s) rows) (sources_ok (rows_in (plan_of s) rows) (plan_of s)) (is_false q (form_ok (plan_of s) rows) x y)) refl)

    pub not-kept : (q : Bool) → q ≡ sources_ok (rows_in (plan_of s) rows) (plan_of s) → not q ≡ true → 26 ≡ rows_refusal (plan_of s) rows
    not-kept q x y =
        sym (by_tests true false (many_rows (plan_of s) rows) stepped
        (and_no (form_ok (plan_of s) rows) (sources_ok (rows_in (plan_of s) rows) (plan_of s)) (is_false q (sources_ok (rows_in (plan_of s) rows) (plan_of s)) x y)) refl)

    module _ (k : ℕ) (a : form_ok (plan_of s) rows ≡ true) (b : sources_ok (rows_in (plan_of s) rows) (plan_of s) ≡ true) (c : k ≡ row_count (plan_of s) rows) where
      pub too_many : 256 < k → 27 ≡ rows_refusal (plan_of s) rows
      too_many l =
          sym (by_tests true true true stepped (both (form_ok (plan_of s) rows) (sources_ok (rows_in (plan_of s) rows) (plan_of s)) a b)
          (lt-ltb 256 (row_count (plan_of s) rows) (omega arith)))

      pub none_of_them : k ≤ 256 → 0 ≡ rows_refusal (plan_of s) rows
      none_of_them l =
          sym (by_tests true true false stepped (both (form_ok (plan_of s) rows) (sources_ok (rows_in (plan_of s) rows) (plan_of s)) a b)
          (le-ltb 256 (row_count (plan_of s) rows) (omega arith)))

-- ---- `dry_run`
pub stored : (s : List ℕ) → refusal_of s ≡ Accepted → AllBytes s → (m : List ℕ) (u r : ℕ) → block_slots * block_count s ≤ length m → HoldsTree s m u r → Stored s m u r
stored s e by m u r l h = record { loaded = loaded_all s e by m u r l h; here = h.here; is = plan_is s e by m u r l h }

pub given_here : (s : List ℕ) (n : ℕ) (rows bytes out : List ℕ) (k : ℕ) → refusal_of s ≡ Accepted → AllBytes s → n ≡ record_count s →
    Passes (plan_of s) rows bytes out → k ≡ row_count (plan_of s) rows → Given s n rows k
given_here s n rows bytes out k e by c p q =
    record {
      fine = ap number_of e;
      count = c;
      steps = p.steps;
      well = read_well_formed s (plan_of s) by (is_plan s e);
      form = p.form;
      rows_are = q;
      few_rows = omega (arith, p.few);
    }

pub passes_is : (f : Plan) (rows bytes out out' : List ℕ) (x : ℕ) → Passes f rows bytes out →
    (x ≡ number (last_answer f rows bytes (length out))) × (out' ≡ output (last_answer f rows bytes (length out)) out) →
    (x ≡ number (answer f rows bytes (length out))) × (out' ≡ output (answer f rows bytes (length out)) out)
passes_is f rows bytes out out' x p h = subst (λ (a : Answer). (x ≡ number a) × (out' ≡ output a out)) (sym p.is) h
