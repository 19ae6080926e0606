-- What DryRuns rests on: a dry run that returns 0 leaves what `Delivers` says, and what `Ordered` says where the plan passes the order check.
use Rattle.std.specs.Prelude.{◌≡◌, Bool, List, [], ℕ, get_or}
use Rattle.std.proofs.Math.Path.{refl}
use Rattle.std.proofs.Common.{sym, ap, ◌∙◌, subst, arith}
use Rattle.std.proofs.Math.Bool.{true, false}
use Rattle.row_order.specs.Lists.{pw_nil}
use Rattle.row_order.specs.ListLaws.{all_map}
use Rattle.row_order.specs.Forms.{sorted_ordered}
use Rattle.plan.specs.Op.{Plan}
use Rattle.scan.specs.Bytes.{AllBytes, one_if}
use Rattle.plan_codec.specs.Reading.{plan, reading}
use Rattle.plan_codec.proofs.RoundTrip.{read_well_formed}
use Rattle.semantics.specs.Facts.{at0, facts}
use Rattle.semantics.specs.Check.{check}
use Rattle.semantics.specs.Runs.{Sources}
use Rattle.semantics.specs.Holds.{Holds}
use Rattle.semantics.proofs.Theorems.Common.Streams.{all_at}
use Rattle.semantics.proofs.Theorems.Runs.RunStreams.{everywhere_map}
use Rattle.stepping.specs.Stepping.{unfiltered, delivered}
use Rattle.stepping.specs.RowBytes.{rows_in}
use Rattle.stepping.proofs.Theorems.Delivered.{delivers as run-of-steps, delivered_holds, stops}
use Rattle.stepping.proofs.Theorems.EveryState.{never_out_of_order}
use Rattle.step_answers.specs.Answers.{returned}
use Rattle.stepping.proofs.Theorems.FirstJoin.{none_steps}
use Rattle.step_answers.proofs.FileAnswers.{returns_0}
use Rattle.step_answers.proofs.Outputs.{writes_delivered, delivered_fits}
use Rattle.call_answers.specs.Answers.{check_answer}
use Rattle.demands.proofs.OrderKept.{sorted_fed, order_kept}
use Rattle.demands.specs.DryRuns.{Delivers, Ordered}

module _ (s rows bytes out : List ℕ) (b : AllBytes s) (z : returned s rows bytes out ≡ 0) where
  pub delivers_of : (f : Plan) → reading s ≡ plan f → Delivers s rows bytes out f
  delivers_of f r =
      let none = ((returns_0 s rows bytes out f r).0 z).0 in
      let w = read_well_formed s f b r in
      let j = none_steps f none in
      let d = run-of-steps f (rows_in f rows) bytes w j in
      record {
        read = r;
        free = none;
        run = d.0;
        runs = d.1;
        streams = delivered f (rows_in f rows) bytes;
        root = d.2;
        delivered_by_steps = refl;
        ended = stops f (rows_in f rows) bytes w j;
        fits = delivered_fits s rows bytes out f r z;
        written = writes_delivered s rows bytes out f r z;
      }

  pub passing : (f : Plan) → reading s ≡ plan f → (lent : ℕ) → check_answer (reading s) lent ≡ 1 → check f ≡ true
  unfolding check_answer
  passing f r lent e = go (check f) (sym (ap (λ a. check_answer a lent) r) ∙ e)
    where
      go : (c : Bool) → one_if c ≡ 1 → c ≡ true
      go true q = refl
      go false q = absurd (omega arith)

  pub ordered_of : (f : Plan) → reading s ≡ plan f → check f ≡ true → Ordered s rows bytes out f
  ordered_of f r c =
      let d = delivers_of f r in
      let w = read_well_formed s f b r in
      let j = none_steps f d.free in
      let kept : Sources (unfiltered (rows_in f rows)) 0 f = ((returns_0 s rows bytes out f r).0 z).1.1 in
      let g : Holds (at0 (facts f)) (delivered f (rows_in f rows) bytes) = delivered_holds f (rows_in f rows) bytes w j c kept in
      let h : Holds (at0 (facts f)) d.streams = subst (Holds (at0 (facts f))) (sym d.delivered_by_steps) g in
      record {
        delivers = d;
        fed = order_kept f c (unfiltered (rows_in f rows)) kept d.run d.runs;
        in_order = λ i. (sorted_ordered (at0 (facts f)).order (get_or d.streams i []) (all_at [] pw_nil h.sorted i)).in_order;
        known = h;
        at_every_step = all_map (λ x g. everywhere_map (λ o below css own k. sorted_fed o css k) g) (never_out_of_order f (rows_in f rows) bytes w j c kept);
      }
