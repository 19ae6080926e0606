use native.Mathlib.Omega.{arith}
use borrow.Author.Rules.{rules}
use Prim.Native.Nat.{ℕ}
use mathlib.Core.Path.{sym, ap, ◌∙◌}
use Rattle.plan_format.specs.Fields.{fields_of}
use Rattle.plan_format.specs.Record.{rules_ok}
use Rattle.plan_format.specs.declared.Fields.{Fields}
use Rattle.plan_rules.specs.Rules.{no_fields}
use lib.ListN.{get_or}
use Rattle.plan_rules.proofs.record_ok.Goals as goal

pub returns-in-1 : goal.returns-in-1
returns-in-1 c = c.source_ok.ensures ∙ ap (λ (k : ℕ). rules_ok (fields_of k) c.args.r.now) (sym c.in-1.is)

pub returns-in-3 : goal.returns-in-3
returns-in-3 c = c.projection_ok.ensures ∙ ap (λ (k : ℕ). rules_ok (fields_of k) c.args.r.now)
    (sym c.in-3.is)

pub returns-in-5 : goal.returns-in-5
returns-in-5 c = c.repartition_ok.ensures ∙ ap (λ (k : ℕ). rules_ok (fields_of k) c.args.r.now) (sym c.in-5.is)

pub returns-in-6 : goal.returns-in-6
returns-in-6 c = c.coalesce_ok.ensures ∙ ap (λ (k : ℕ). rules_ok (fields_of k) c.args.r.now)
    (sym c.in-6.is)

pub returns-in-7 : goal.returns-in-7
returns-in-7 c = c.sort_ok.ensures ∙ ap (λ (k : ℕ). rules_ok (fields_of k) c.args.r.now) (sym c.in-7.is)

pub returns-in-8 : goal.returns-in-8
returns-in-8 c = c.merge_ok.ensures ∙ ap (λ (k : ℕ). rules_ok (fields_of k) c.args.r.now) (sym c.in-8.is)

pub returns-in-9 : goal.returns-in-9
returns-in-9 c = c.global_limit_ok.ensures ∙ ap (λ (k : ℕ). rules_ok (fields_of k) c.args.r.now) (sym c.in-9.is)

pub returns-in-10 : goal.returns-in-10
returns-in-10 c = c.local_limit_ok.ensures ∙ ap (λ (k : ℕ). rules_ok (fields_of k) c.args.r.now) (sym c.in-10.is)

pub returns-in-11 : goal.returns-in-11
returns-in-11 c = c.sort_merge_join_ok.ensures ∙ ap (λ (k : ℕ). rules_ok (fields_of k) c.args.r.now) (sym c.in-11.is)

pub returns-in-12 : goal.returns-in-12
returns-in-12 c = c.hash_join_ok.ensures ∙ ap (λ (k : ℕ). rules_ok (fields_of k) c.args.r.now) (sym c.in-12.is)

pub returns-in-13 : goal.returns-in-13
returns-in-13 c = c.output_requirement_ok.ensures ∙ ap (λ (k : ℕ). rules_ok (fields_of k) c.args.r.now) (sym c.in-13.is)

pub returns-in-14 : goal.returns-in-14
returns-in-14 c = c.partial_sort_ok.ensures ∙ ap (λ (k : ℕ). rules_ok (fields_of k) c.args.r.now) (sym c.in-14.is)

pub returns-in-15 : goal.returns-in-15
returns-in-15 c = c.aggregate_ok.ensures ∙ ap (λ (k : ℕ). rules_ok (fields_of k) c.args.r.now) (sym c.in-15.is)

pub returns-in_default : goal.returns-in_default
returns-in_default c = let r = c.args.r.now in
    c.bare_ok.ensures ∙ ap (λ (f : Fields). rules_ok f r) (no_fields (get_or r 0 0) (λ e. omega arith) (λ e. omega arith) (λ e. omega arith) (λ e. omega arith) (λ e. omega arith) (λ e. omega arith) (λ e. omega arith) (λ e. omega arith) (λ e. omega arith) (λ e. omega arith) (λ e. omega arith) (λ e. omega arith) (λ e. omega arith))
