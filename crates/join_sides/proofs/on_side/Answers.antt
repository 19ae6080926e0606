use native.Mathlib.Omega.{arith}
use mathlib.Core.Path.{sym, ap, ◌∙◌}
use lib.ListN.{length}
use Rattle.semantics.specs.Facts.{cl}
use Rattle.key_lists.specs.Keys.{keys_left, keys_of}
use Rattle.asked_facts.specs.Asked.{told}
use Rattle.join_sides.specs.Sides.{side_column}
use Rattle.join_sides.proofs.Searching.{side_none, side_below, sided, unsided, all_sided}
use Rattle.join_sides.proofs.on_side.Goals as goal

pub loop-key-init : goal.loop-key-init
loop-key-init c = let k = c.no_keys-out in let i = c.into_iter-key-iterator in
    side_none (told c.args.own.now) c.args.lo c.args.n c.args.keys k.result (keys_left i.result)
    (ap keys_left i.ensures.into_iter_gives ∙ c.iter-key-items.ensures) c.requires.2 k.ensures.0 k.ensures.1

pub side_column-requires : goal.side_column-requires
side_column-requires c = (c.requires.0, c.requires.1, rw c.column.ensures (omega arith))

pub returns-in_err-c : goal.returns-in_err-c
returns-in_err-c c = let s = c.args in let l = c.loop-key in
    rw c.from_residual.ensures (unsided (told s.own.now) s.lo s.n (keys_of s.keys) l.out (keys_left l.key-iterator) l.invariant
    c.in-Some.key (keys_left c.next.new.self) c.in-Some.ensures.steps (sym c.in_err-c.was ∙ c.side_column.ensures
    ∙ ap (side_column (cl (told s.own.now)) s.lo s.n) c.column.ensures))

pub with_column-requires : goal.with_column-requires
with_column-requires c = side_below (cl (told c.args.own.now)) c.args.lo c.args.n c.column.result c.in_ok-c.c
    c.requires.1 (sym c.in_ok-c.was ∙ c.side_column.ensures)

pub appended-out-requires : goal.appended-out-requires
appended-out-requires c = let b = c.loop-key.invariant in (b.tight, omega (arith, b.few, ap length c.in-Some.ensures.steps))

pub loop-key-preserved : goal.loop-key-preserved
loop-key-preserved c = let s = c.args in
    let l = c.loop-key in
    sided (told s.own.now) s.lo s.n (keys_of s.keys) l.out (keys_left l.key-iterator) l.invariant
    c.in-Some.key (keys_left c.next.new.self) c.in-Some.ensures.steps c.in_ok-c.c
    (sym c.in_ok-c.was ∙ c.side_column.ensures
    ∙ ap (side_column (cl (told s.own.now)) s.lo s.n) c.column.ensures)
    c.with_column.result c.with_column.ensures c.appended-out.result c.appended-out.ensures

pub returns : goal.returns
returns c = let s = c.args in let l = c.loop-key in
    all_sided (told s.own.now) s.lo s.n (keys_of s.keys) l.out (keys_left l.key-iterator) l.invariant c.in-None.ensures.steps.0
