use mathlib.Core.Path.{sym, ◌∙◌, subst}
use Rattle.plan_codec.specs.Decode.{decode}
use Rattle.key_lists.specs.Keys.{keys_of}
use Rattle.push_requirements.specs.Pushing.{HandsOn}
use Rattle.std.specs.Prelude.{None}
use Rattle.push_requirements.specs.Answers.{cond_yes, cond_no}
use Rattle.child_requirements.specs.Children.{limit_of, of_like}
use Rattle.semantics.specs.Facts as sem
use Rattle.walks.specs.SortPushdown as walk
use Rattle.child_requirements.proofs.pushdown_requirement_to_children.Goals as goal

pub fetch_blocks-requires : goal.fetch_blocks-requires
fetch_blocks-requires c = c.requires.proper

pub returns-then-fetch_blocks : goal.returns-then-fetch_blocks
returns-then-fetch_blocks c = λ o fs ts m s e. let n = decode c.args.r.now in
    let ps = keys_of c.args.parent in
    of_like n o fs m _ _ _ s ts c.args.limit e ps
    c.args.fetch None
    (cond_yes m (walk.fetch_blocks n c.args.fetch) walk.stop _ None
    (sym c.fetch_blocks.ensures ∙ c.if-fetch_blocks.true) tt)

pub through_fetch-requires : goal.through_fetch-requires
through_fetch-requires c = (c.requires.proper, c.requires.here, c.requires.first)

pub handle_fetch-requires : goal.handle_fetch-requires
handle_fetch-requires c = (c.requires.proper, c.requires.here, c.requires.few)

pub returns-then-through_fetch : goal.returns-then-through_fetch
returns-then-through_fetch c = λ o fs ts m s e. let n = decode c.args.r.now in
    let ps = keys_of c.args.parent in
    of_like n o fs m _ _ _ s ts c.args.limit e ps
    c.args.fetch c.handle_fetch.result
    (cond_no m (walk.fetch_blocks n c.args.fetch) walk.stop _ _
    (sym c.fetch_blocks.ensures ∙ c.if-fetch_blocks.false)
    (cond_yes m (walk.through_fetch n c.args.limit m fs) _ _ _
    (sym (c.through_fetch.ensures o fs ts m _ s
    (limit_of n o fs m _ _ _ s ts c.args.limit e)) ∙ c.if-through_fetch.true)
    (subst (λ (G : sem.Facts). HandsOn m (walk.handle_fetch (decode c.args.r.now)
    G fs (keys_of c.args.parent)) c.handle_fetch.result) s.facts
    (c.handle_fetch.ensures fs m))))

pub push_by_kind-requires : goal.push_by_kind-requires
push_by_kind-requires c = c.requires

pub returns : goal.returns
returns c = λ o fs ts m s e. let n = decode c.args.r.now in
    let ps = keys_of c.args.parent in
    of_like n o fs m _ _ _ s ts c.args.limit e ps
    c.args.fetch c.push_by_kind.result
    (cond_no m (walk.fetch_blocks n c.args.fetch) walk.stop _ _
    (sym c.fetch_blocks.ensures ∙ c.if-fetch_blocks.false)
    (cond_no m (walk.through_fetch n c.args.limit m fs) _ _ _
    (sym (c.through_fetch.ensures o fs ts m _ s
    (limit_of n o fs m _ _ _ s ts c.args.limit e)) ∙ c.if-through_fetch.false)
    (c.push_by_kind.ensures o fs m s)))
