use borrow.Author.Rules.{rules}
use mathlib.Core.Path.{refl, sym, ◌∙◌}
use lib.ListN.{length}
use borrow.Author.Tests.{not-false}
use Rattle.plan_format.specs.Reading.{early_refusal}
use Rattle.plan_format.specs.Passed.{length_facts, count_le}
use Rattle.plan_passes.specs.Laws.{refuse_stop, refuse_on}
use Rattle.std.proofs.Common.{ap}
use Rattle.std.specs.Prelude.{not}
use Rattle.plan_passes.proofs.early_refusal.Goals as goal

pub returns-then-not-length_ok : goal.returns-then-not-length_ok
unfolding early_refusal
returns-then-not-length_ok c = refuse_stop c.length_ok.result _ _ _ c.length_ok.ensures (ap not c.if-not-length_ok.true)

pub returns-then-not-sums_ok : goal.returns-then-not-sums_ok
unfolding early_refusal
returns-then-not-sums_ok c = refuse_on c.length_ok.result _ _ _ _ c.length_ok.ensures (ap not c.if-not-length_ok.false)
    (refuse_stop c.sums_ok.result _ _ _ c.sums_ok.ensures (ap not c.if-not-sums_ok.true))

pub returns-then-not-headers_ok : goal.returns-then-not-headers_ok
unfolding early_refusal
returns-then-not-headers_ok c = refuse_on c.length_ok.result _ _ _ _ c.length_ok.ensures (ap not c.if-not-length_ok.false)
    (refuse_on c.sums_ok.result _ _ _ _ c.sums_ok.ensures (ap not c.if-not-sums_ok.false)
    (refuse_stop c.headers_ok.result _ _ _ c.headers_ok.ensures (ap not c.if-not-headers_ok.true)))

pub record_count-m-requires : goal.record_count-m-requires
record_count-m-requires c = let f = length_facts c.length_ok.result (length c.args.s.now) c.length_ok.ensures (ap not c.if-not-length_ok.false) in
    (refl, f.0, f.1)

pub records_of-x-requires : goal.records_of-x-requires
records_of-x-requires c = let b = c.args.s.now in
    let f = length_facts c.length_ok.result (length b) c.length_ok.ensures (ap not c.if-not-length_ok.false) in
    let e = c.record_count-m.ensures in
    (e, rw e (count_le b f.0 (sym c.headers_ok.ensures ∙ not-false _ (ap not c.if-not-headers_ok.false))))

pub returns-then-not-kinds : goal.returns-then-not-kinds
unfolding early_refusal
returns-then-not-kinds c = refuse_on c.length_ok.result _ _ _ _ c.length_ok.ensures (ap not c.if-not-length_ok.false)
    (refuse_on c.sums_ok.result _ _ _ _ c.sums_ok.ensures (ap not c.if-not-sums_ok.false)
    (refuse_on c.headers_ok.result _ _ _ _ c.headers_ok.ensures (ap not c.if-not-headers_ok.false)
    (refuse_stop c.records_of-x.result.kinds _ _ _ c.records_of-x.ensures.kinds (ap not c.if-not-kinds.true))))

pub returns-then-not-tree : goal.returns-then-not-tree
unfolding early_refusal
returns-then-not-tree c = refuse_on c.length_ok.result _ _ _ _ c.length_ok.ensures (ap not c.if-not-length_ok.false)
    (refuse_on c.sums_ok.result _ _ _ _ c.sums_ok.ensures (ap not c.if-not-sums_ok.false)
    (refuse_on c.headers_ok.result _ _ _ _ c.headers_ok.ensures (ap not c.if-not-headers_ok.false)
    (refuse_on c.records_of-x.result.kinds _ _ _ _ c.records_of-x.ensures.kinds (ap not c.if-not-kinds.false)
    (refuse_stop c.records_of-x.result.tree _ _ _ c.records_of-x.ensures.tree (ap not c.if-not-tree.true)))))

pub returns-then-not-rules : goal.returns-then-not-rules
unfolding early_refusal
returns-then-not-rules c = refuse_on c.length_ok.result _ _ _ _ c.length_ok.ensures (ap not c.if-not-length_ok.false)
    (refuse_on c.sums_ok.result _ _ _ _ c.sums_ok.ensures (ap not c.if-not-sums_ok.false)
    (refuse_on c.headers_ok.result _ _ _ _ c.headers_ok.ensures (ap not c.if-not-headers_ok.false)
    (refuse_on c.records_of-x.result.kinds _ _ _ _ c.records_of-x.ensures.kinds (ap not c.if-not-kinds.false)
    (refuse_on c.records_of-x.result.tree _ _ _ _ c.records_of-x.ensures.tree (ap not c.if-not-tree.false)
    (refuse_stop c.records_of-x.result.rules _ _ _ c.records_of-x.ensures.rules (ap not c.if-not-rules.true))))))

pub returns : goal.returns
unfolding early_refusal
returns c = refuse_on c.length_ok.result _ _ _ _ c.length_ok.ensures (ap not c.if-not-length_ok.false)
    (refuse_on c.sums_ok.result _ _ _ _ c.sums_ok.ensures (ap not c.if-not-sums_ok.false)
    (refuse_on c.headers_ok.result _ _ _ _ c.headers_ok.ensures (ap not c.if-not-headers_ok.false)
    (refuse_on c.records_of-x.result.kinds _ _ _ _ c.records_of-x.ensures.kinds (ap not c.if-not-kinds.false)
    (refuse_on c.records_of-x.result.tree _ _ _ _ c.records_of-x.ensures.tree (ap not c.if-not-tree.false)
    (refuse_on c.records_of-x.result.rules _ _ _ _ c.records_of-x.ensures.rules (ap not c.if-not-rules.false)
    refl)))))
