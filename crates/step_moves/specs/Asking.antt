-- What a step's calls ask, from what `step` asks. Assumes nothing.
use Rattle.std.specs.Prelude.{◌≡◌, refl, Bool, true, false, cond, List, [], ◌∷◌, ℕ, zero, suc, ◌+◌, ◌*◌, ◌<◌, ◌≤◌, leb, ltb, length, get_or}
use Rattle.std.proofs.Common.{sym, ap, ap₂, ◌∙◌, subst, arith, ltb-true}
use Rattle.plan.specs.Forest.{size}
use Rattle.semantics.specs.Facts.{facts}
use Rattle.stepping.specs.Moves.{manner, way, moves}
use Rattle.plan_context.specs.View.{Arena}
use Rattle.step_tables.specs.Places.{kind_of, is_straight, total, inner, Node}
use Rattle.step_tables.specs.Passes.{node_in, Laid, held_at}
use Rattle.step_tables.specs.declared.StepNode.{StepNode}
use Rattle.step_tables.specs.Found.{Known}
use Rattle.step_tables.specs.Rows.{row_in, Room}
use Rattle.step_tables.specs.Complete.{Complete}
use Rattle.step_tables.specs.Choosing.{waits_at, any_from}
use Rattle.step_tables.specs.Draws.{drawn_value, drawn_next}
use Rattle.step_tables.proofs.Standing.{outs_of, ins_of, spot_formed, Range, range}
use Rattle.step_tables.specs.Holding.{held_some, held_inside, held_few}
use Rattle.step_tables.specs.Opened.{way_fits}
use Rattle.step_tables.specs.Queueing.{requeued, above_few, above_queued, queued_some}
use Rattle.step_tables.specs.Layout.{laid}
use Rattle.step_tables.proofs.OneStep.{choices_in}
use Rattle.step_rows.specs.Heads.{Tells}
use Rattle.step_nodes.specs.Laying.{op_in, below_in}
use Rattle.step_choices.specs.Choosing.{any_waiter, movable, SentTo, Outgoes, outgoes}
use Rattle.row_moves.specs.Picking.{Picks}
use Rattle.row_moves.specs.Carrying.{Carries, Carried}
use Rattle.step_moves.specs.Running.{Book, tables_of, Seated, Running}
use Rattle.step_moves.specs.Movers.{Next, next_is, movers_are, waits}
use Rattle.step_moves.specs.Stepping.{Ready, Goes, outs_some, goes as step_goes}

pub next_few : (b n : ℕ) → drawn_next b n ≤ suc b
next_few b n = go (leb n 1)
  where
    go : (t : Bool) → cond t b (suc b) ≤ suc b
    go true = omega arith
    go false = omega arith

module _ (m : List ℕ) (u : ℕ) (slots : List ℕ) (nodes : List StepNode) (n gone : ℕ) (waiter : Bool) (b len : ℕ) (B : Book) (Y : Ready m u slots nodes n gone waiter b len B) where
  pub asks_operator : Laid nodes n len × (length B.held ≡ len) × (n ≤ length B.queued) × (waiter ≡ any_waiter nodes n) × (b < 1000000000)
  asks_operator =
      let S = Y.seated in
      let R = Y.running in (
        subst (λ (k : ℕ). Laid nodes k len) (sym Y.nodes_are) (laid nodes (size Y.plan) Y.plan len S.formed S.listed (omega (arith, S.past)) S.few),
        R.held_long,
        omega (arith, R.queued_long, Y.nodes_are),
        Y.waits_are,
        omega (arith, Y.few_bytes),
      )

  module _ (fl : List Bool) (long : length fl ≡ len) (bytes : List ℕ) (mv j : ℕ) (mv-is : mv ≡ length (movable nodes n fl B.held B.queued)) (some : 0 < mv)
      (j-is : j ≡ get_or (movable nodes n fl B.held B.queued) (drawn_value bytes b mv) 0) where
    pub the_next : Next m u slots nodes Y.plan B Y.state fl bytes b j
    the_next =
        next_is m u slots nodes Y.plan len Y.done B Y.state fl Y.seated Y.running long bytes b mv j
        (mv-is ∙ ap (λ (k : ℕ). length (movable nodes k fl B.held B.queued)) Y.nodes_are) some
        (j-is ∙ ap (λ (k : ℕ). get_or (movable nodes k fl B.held B.queued) (drawn_value bytes b mv) 0) Y.nodes_are)

    pub asks_seat : (j < n) × (n ≤ length slots) × (n ≤ length nodes)
    asks_seat =
        let l = laid nodes (size Y.plan) Y.plan len Y.seated.formed Y.seated.listed (omega (arith, Y.seated.past)) Y.seated.few in
        (omega (arith, the_next.below, Y.nodes_are), omega (arith, Y.seated.slotted.room, Y.nodes_are), omega (arith, l.entries, Y.nodes_are))

    module _ (b₁ : ℕ) (b₁_is : b₁ ≡ drawn_next b mv) where
      abbrev s : Node
      s = node_in nodes j

      abbrev slot : ℕ
      slot = get_or slots j 0

      N : Next m u slots nodes Y.plan B Y.state fl bytes b j
      N = the_next

      op_is : op_in m slot ≡ the_next.ch.spot.op
      op_is = the_next.slot.op

      kids_are : below_in m slot ≡ the_next.ch.spot.kids
      kids_are = the_next.slot.below

      inp_is : s.inp ≡ the_next.ch.spot.inp
      inp_is = ap (λ x. x.inp) the_next.row

      inps_is : s.inps ≡ ins_of the_next.ch.spot
      inps_is = ap (λ x. x.inps) the_next.row

      rg : Range 0 (total (facts Y.plan)) Y.plan the_next.ch.spot
      rg = range the_next.ch.stands (omega arith)

      pub asks_pick : (Arena m u × (slot < u) × (s.kind ≡ kind_of (manner (op_in m slot) (facts (below_in m slot)))) × (0 < s.kind)
          × (s.straight_on ≡ is_straight (way (op_in m slot))))
          × ((Known B.order (length B.places) × Complete B.order (length B.places) × Room (length B.places) B.cells B.nulls B.widths
          × Tells B.held B.places B.order)
          × ((s.inp + s.inps ≤ length B.held) × (length B.held < 1000000000) × (b₁ < 1000000000) × (any_from (waits_at B.places B.order) s.inp s.inps ≡ true)))
      asks_pick =
          let R = Y.running in
          let k = ap (λ x. x.kind) the_next.row in (
            (
              Y.seated.arena,
              the_next.slot.there,
              k ∙ sym (ap₂ (λ o c. kind_of (manner o (facts c))) op_is kids_are),
              omega (arith, k, the_next.can_move.not-still),
              ap (λ x. x.straight_on) the_next.row ∙ sym (ap (λ o. is_straight (way o)) op_is),
            ),
            (
              (
                R.known,
                R.complete,
                R.room,
                (λ x. sym (ap (λ (w : ℕ → Bool). w x) (waits m u slots nodes Y.plan len Y.done B Y.state fl Y.seated R long))),
              ),
              (
                omega (arith, inp_is, inps_is, rg.high, Y.seated.past, R.held_long),
                omega (arith, R.held_long, Y.seated.few),
                omega (arith, b₁_is, next_few b mv, Y.few_bytes),
                ap₂ (any_from (waits_at B.places B.order)) inp_is inps_is ∙ the_next.can_move.has,
              ),
            ),
          )

      -- as the node that stands there has it
      pub picks_there : (k i b₂ : ℕ) → Picks (manner (op_in m slot) (facts (below_in m slot))) (row_in B.cells B.nulls B.widths) B.places B.order s.inp
          s.inps bytes b₁ k i b₂ →
          Picks (manner the_next.ch.spot.op (facts the_next.ch.spot.kids)) (row_in B.cells B.nulls B.widths) B.places B.order the_next.ch.spot.inp
          (ins_of the_next.ch.spot) bytes b₁ k i b₂
      picks_there k i b₂ P =
          subst (λ (w : ℕ). Picks (manner the_next.ch.spot.op (facts the_next.ch.spot.kids)) (row_in B.cells B.nulls B.widths) B.places B.order the_next.ch.spot.inp w bytes b₁ k i b₂) inps_is
          (subst (λ (g : ℕ). Picks (manner the_next.ch.spot.op (facts the_next.ch.spot.kids)) (row_in B.cells B.nulls B.widths) B.places B.order g s.inps bytes b₁ k i b₂) inp_is
          (subst (λ M. Picks M (row_in B.cells B.nulls B.widths) B.places B.order s.inp s.inps bytes b₁ k i b₂)
          (ap₂ (λ o c. manner o (facts c)) op_is kids_are) P))

      module _ (k i b₂ : ℕ) (P : Picks (manner the_next.ch.spot.op (facts the_next.ch.spot.kids)) (row_in B.cells B.nulls B.widths) B.places B.order
          the_next.ch.spot.inp (ins_of the_next.ch.spot) bytes b₁ k i b₂) where
        pub asks_output : b₂ < 1000000000
        asks_output =
            let C = length (choices_in (manner the_next.ch.spot.op (facts the_next.ch.spot.kids)) (row_in B.cells B.nulls B.widths) B.places B.order
            the_next.ch.spot.inp (ins_of the_next.ch.spot)) in
            omega (arith, P.takes, next_few b₁ C, b₁_is, next_few b mv, Y.few_bytes)

        module _ (v b₃ : ℕ) (O : SentTo s.straight_on k s.outs bytes b₂ v b₃) where
          pub sent_there : SentTo (is_straight (way the_next.ch.spot.op)) k (outs_of the_next.ch.spot) bytes b₂ v b₃
          sent_there =
              subst (λ (t : Bool). SentTo t k (outs_of the_next.ch.spot) bytes b₂ v b₃) (ap (λ x. x.straight_on) the_next.row)
              (subst (λ (x : ℕ). SentTo s.straight_on k x bytes b₂ v b₃) (ap (λ x. x.outs) the_next.row) O)

          out_is : s.out ≡ the_next.ch.spot.out
          out_is = ap (λ x. x.out) the_next.row

          goes : Outgoes (way the_next.ch.spot.op) (outs_of the_next.ch.spot) k bytes b₂ v b₃
          goes =
              outgoes (way the_next.ch.spot.op) (outs_of the_next.ch.spot) (ins_of the_next.ch.spot) k bytes b₂ v b₃
              (way_fits the_next.ch.spot.op the_next.ch.spot.kids (spot_formed the_next.ch.stands Y.seated.formed)) P.below
              (outs_some the_next.ch.spot.op the_next.ch.spot.kids (spot_formed the_next.ch.stands Y.seated.formed) the_next.can_move.not-still (omega (arith, P.below)))
              sent_there

          pub asks_place : s.out + v < len
          asks_place = omega (arith, out_is, goes.inside, rg.before, rg.end, Y.seated.past)

          pub asks_carry : (q : ℕ) → q ≡ s.out + v →
              Carries B.cells B.nulls B.widths B.places B.order B.counts B.held i q gone
          asks_carry q e =
              let R = Y.running in
              let r = R.known i P.inside in
              record {
                known = R.known;
                room = R.room;
                there = P.inside;
                counts_there = omega (arith, e, asks_place, R.counts_long);
                counts_few = omega (arith, R.counted q, Y.few_steps);
                counts_long = omega (arith, R.counts_long, Y.seated.few);
                was_there = held_inside B.held B.places R.held_are (get_or B.order i 0) r;
                was_held = held_some B.held B.places R.held_are (get_or B.order i 0) r;
                to_there = omega (arith, e, asks_place, R.held_long);
                gone_there = omega (arith, Y.past, Y.seated.past, R.held_long);
                held_few = λ x. omega (arith, held_few B.held B.places R.held_are x, R.few_rows);
              }

          -- ---- and the step is the definition's
          pub steps : (B' : Book) (kept : Bool) (q : ℕ) → q ≡ s.out + v →
              Carried (op_in m slot) i q gone B.cells B.nulls B.widths B.places B.order B.counts B.held
              B'.cells B'.nulls B'.widths B'.places B'.order B'.counts B'.held kept →
              B'.queued ≡ requeued j s.above kept B.queued → Goes Y.plan nodes len Y.done B' Y.state bytes b b₃
          steps B' kept q e C Q =
              step_goes m u slots nodes Y.plan len Y.done B B' Y.state fl bytes b b₁ b₂ b₃ j k i v gone kept Y.seated Y.running the_next
              (b₁_is ∙ ap (drawn_next b) (mv-is ∙ ap (λ (x : ℕ). length (movable nodes x fl B.held B.queued)) Y.nodes_are
              ∙ movers_are m u slots nodes Y.plan len Y.done B Y.state fl Y.seated Y.running long))
              P sent_there Y.past
              (subst (λ (x : ℕ). Carried the_next.ch.spot.op i x gone B.cells B.nulls B.widths B.places B.order B.counts B.held
              B'.cells B'.nulls B'.widths B'.places B'.order B'.counts B'.held kept) (e ∙ ap (λ (x : ℕ). x + v) out_is)
              (subst (λ o. Carried o i q gone B.cells B.nulls B.widths B.places B.order B.counts B.held
              B'.cells B'.nulls B'.widths B'.places B'.order B'.counts B'.held kept) op_is C))
              Q

      pub asks_requeue : (j < length B.queued) × (s.above < length B.queued) × (0 < get_or B.queued j 0) × (get_or B.queued s.above 0 < 1000000000)
      asks_requeue =
          let R = Y.running in
          let S = Y.seated in
          let a = above_few nodes (size Y.plan) Y.plan S.listed (omega arith) j the_next.below in
          let q = above_queued nodes (size Y.plan) Y.plan S.listed (omega arith) B.queued B.places R.queued_are R.ends j the_next.below in (
            omega (arith, the_next.below, R.queued_long),
            omega (arith, a, R.queued_long),
            ltb-true 0 (get_or B.queued j 0)
                (sym (queued_some nodes (size Y.plan) B.queued B.places B.order R.queued_are R.complete R.known j the_next.below)
                ∙ ap₂ (any_from (waits_at B.places B.order)) (ap (λ x. x.inp) the_next.row) (ap (λ x. x.inps) the_next.row) ∙ the_next.can_move.has),
            omega (arith, q, R.few_rows),
          )
