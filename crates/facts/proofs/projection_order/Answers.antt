use native.Mathlib.Omega.{arith}
use mathlib.Core.Path.{◌≡◌, ◌∙◌, ap}
use lib.ListN.{length}
use Rattle.row_order.specs.Packed.{key_of}
use Rattle.semantics.specs.Facts as sem
use Rattle.class_tables.specs.Tables.{at, carries}
use Rattle.key_lists.specs.Keys.{keys_left, keys_of}
use Rattle.key_lists.specs.Lists.{length_keys, no_length}
use Rattle.facts.specs.Projecting.{none_projected, projected, stopped, all_projected}
use Rattle.facts.proofs.projection_order.Goals as goal
use Rattle.facts.proofs.projection_order.Goals.{After-carried-c}

-- the search was for the key's class
found : (c : After-carried-c) → c.carried-c.result ≡ sem.lowest
    (carries c.args.table.now c.args.cols.now (at c.args.table.now (key_of c.in-Some.key).col))
    (length c.args.cols.now)
found c =
    c.carried-c.ensures ∙ ap (λ d. sem.lowest (carries c.args.table.now c.args.cols.now d) (length c.args.cols.now))
    (c.low.ensures ∙ ap (at c.args.table.now) c.column.ensures)

pub loop-key-init : goal.loop-key-init
loop-key-init c = let k = c.no_keys-out in let z = no_length k.result k.ensures.0 in let ks = c.args.keys in let i = c.into_iter-key-iterator in
    let e = ap keys_left i.ensures.into_iter_gives ∙ c.iter-key-items.ensures in (
      omega (arith, c.requires.cols_len_bound.1, ap length e, length_keys ks.len ks.word),
      k.ensures.1,
      none_projected c.args.table.now c.args.cols.now (keys_of ks) k.result (keys_left i.result) e k.ensures.0 k.ensures.1,
    )

pub low-requires : goal.low-requires
low-requires c = rw c.column.ensures (omega arith)

pub carried-c-requires : goal.carried-c-requires
carried-c-requires c = (c.requires.columns, omega arith)

pub returns-then-cols-c : goal.returns-then-cols-c
returns-then-cols-c c = let l = c.loop-key in
    stopped c.args.table.now c.args.cols.now (keys_of c.args.keys) l.out (keys_left l.key-iterator) l.invariant.2 c.in-Some.key (keys_left c.next.new.self)
    c.in-Some.ensures.steps c.carried-c.result (found (goal.at.returns-then-cols-c c).After-carried-c) (omega (arith, l.invariant.0)) c.if-cols-c.true

pub appended-out-requires : goal.appended-out-requires
appended-out-requires c = let b = c.loop-key.invariant in (b.1, omega (arith, b.0, ap length c.in-Some.ensures.steps))

pub loop-key-preserved : goal.loop-key-preserved
loop-key-preserved c = let l = c.loop-key in let g = c.appended-out.ensures in let e = c.in-Some.ensures.steps in (
  omega (arith, l.invariant.0, g.len, ap length e),
  g.tight,
  projected c.args.table.now c.args.cols.now (keys_of c.args.keys) l.out (keys_left l.key-iterator) l.invariant.2 c.in-Some.key (keys_left c.next.new.self) e
      c.carried-c.result (found (goal.at.loop-key-preserved c).After-carried-c) (omega arith) c.with_column.result c.with_column.ensures c.appended-out.result g,
)

pub returns : goal.returns
returns c = let l = c.loop-key in
    all_projected c.args.table.now c.args.cols.now (keys_of c.args.keys) l.out (keys_left l.key-iterator) l.invariant.2 c.in-None.ensures.steps.0
    (omega (arith, l.invariant.0))
