use native.Mathlib.Omega.{arith}
use mathlib.Core.Path.{ap, sym, ◌∙◌}
use mathlib.Core.Logic.{inl, inr}
use Rattle.std.specs.Iterator.Adapters.{zip_first, zip_second}
use Rattle.key_lists.specs.Keys.{keys_left, keys_of}
use Rattle.key_list_algebra.specs.Comparing.{share_none, share_more, share_differ, share_all}
use Rattle.key_list_algebra.proofs.common_keys.Goals as goal
use Rattle.key_list_algebra.proofs.common_keys.Goals.{in-None, in-Some+then-not-same_key}

pub loop-a-init : goal.loop-a-init
loop-a-init c = let i = c.into_iter-a-iterator in let e = i.ensures.into_iter_gives in let z = c.zip-a-items.ensures in
    share_none c.args.p (keys_of c.args.q) (keys_left (zip_first i.result)) (keys_left (zip_second i.result))
    (ap (λ s. keys_left (zip_first s)) e ∙ ap keys_left z.first ∙ c.iter.ensures) (ap (λ s. keys_left (zip_second s)) e ∙ ap keys_left z.second ∙ c.iter-2.ensures)

pub front-requires : goal.front-requires
front-requires c = (omega (arith, c.loop-a.invariant.room), c.requires)

pub overflow_add-n : goal.overflow_add-n
overflow_add-n c = record { fits = omega (arith, c.loop-a.invariant.room) }

pub loop-a-preserved : goal.loop-a-preserved
loop-a-preserved c = let t = c.next.new.self in let e = c.in-Some.ensures.steps in
    share_more c.loop-a.invariant c.in-Some.a c.in-Some.b (keys_left (zip_first t)) (keys_left (zip_second t)) e.0 e.1
    (sym c.same_key.ensures ∙ c.if-not-same_key.false)

pub returns : goal.returns
returns c = let b = c.loop-a.invariant in let t = c.next.new.self in
    elim c.match-next.branch [
      | in-None w ↦ share_all b c.front.result (elim w.in-None.ensures.steps [ inl p ↦ inl p.1.0 | inr p ↦ inr p.1.0 ]) c.front.ensures
      | in-Some+then-not-same_key w ↦ share_differ b w.in-Some.a w.in-Some.b (keys_left (zip_first t)) (keys_left (zip_second t)) c.front.result
          w.in-Some.ensures.steps.0 w.in-Some.ensures.steps.1 (sym w.same_key.ensures ∙ w.if-not-same_key.true) c.front.ensures
    ]
