-- A step of the code is a step of the definition. Assumes nothing.
use Rattle.std.specs.Prelude.{◌≡◌, refl, Bool, true, false, cond, List, [], ◌∷◌, ℕ, zero, suc, ◌+◌, ◌<◌, ◌≤◌, length, get_or, set, Option, Some, None}
use Rattle.std.proofs.Common.{sym, ap, ap₂, ◌∙◌, subst, arith, length-set, get_or-set_same, get_or-set_other}
use Rattle.std.proofs.Math.Decide.{ℕ_discrete}
use Rattle.row_order.specs.Iso.{Row}
use Rattle.row_order.proofs.Order.{no_bool}
use Rattle.plan.specs.Forest.{Forest, none, tree, roots, size}
use Rattle.plan.specs.Op.{Op, source, filter, projection, union, repartition, coalesce, sort_op, merge_op, global_limit, local_limit, sort_merge_join, hash_join, output_requirement, partial_sort, aggregate, Plan}
use Rattle.semantics.specs.Facts.{facts_op, facts}
use Rattle.semantics.specs.Properties.{cuts}
use Rattle.stepping.specs.Outlets.{Outlet, keeps}
use Rattle.stepping.specs.Moves.{Manner, still, passing, merging, sorting, manner, Way, straight, gathered, scattered, way, outputs, shown, States, moves}
use Rattle.stepping.proofs.Theorems.Formed.{Formed}
use Rattle.stepping.specs.Stepping.{Drawn, chosen}
use Rattle.step_tables.specs.Places.{within, taken_out, is_straight, kind_of, total, inner, node_of, Tables, Shows, Once}
use Rattle.step_tables.specs.Shown.{Only, once_kept, within-true}
use Rattle.step_tables.proofs.Moved.{Moved}
use Rattle.step_tables.specs.Found.{Known}
use Rattle.step_tables.specs.Rows.{row_in, Room}
use Rattle.step_tables.specs.Opened.{Fits, way_fits}
use Rattle.step_tables.specs.Passes.{node_in}
use Rattle.step_tables.specs.declared.StepNode.{StepNode}
use Rattle.step_tables.specs.Draws.{drawn_value, drawn_next}
use Rattle.step_tables.proofs.ChosenMoves.{drawn_below}
use Rattle.step_tables.proofs.Spots.{Spot, choices_of, Chosen}
use Rattle.step_tables.proofs.Standing.{outs_of, ins_of, spot_formed, Range, range}
use Rattle.step_tables.proofs.Stepped.{Finds, Steps, output_of, was_input}
use Rattle.step_tables.proofs.OneStep.{choices_in, choices_are, step_is}
use Rattle.step_tables.specs.Complete.{Complete, complete_kept, known_kept}
use Rattle.step_tables.specs.Holding.{HeldAre, held_moved, rehold, length-rehold}
use Rattle.step_tables.specs.Queueing.{QueuedAre, requeued, length-requeued, Sent, queued_moved, ends_moved}
use Rattle.step_tables.specs.Counting.{tally_in}
use Rattle.step_choices.specs.Choosing.{any_waiter, movable, SentTo, Outgoes, outgoes}
use Rattle.step_moves.specs.Running.{Book, tables_of, Seated, Running}
use Rattle.step_moves.specs.Movers.{Next, movers_are}
use Rattle.row_moves.specs.Picking.{Picks}
use Rattle.row_moves.specs.Carrying.{Carried, ShownAs}

-- What `step` leaves
pub record Goes (f : Plan) (nodes : List StepNode) (len done : ℕ) (B' : Book) (st : Forest Outlet) (bytes : List ℕ) (b next : ℕ) : Type 0 where
  pub runs : Running f nodes len (suc done) B' (chosen bytes b st (moves f st)).value
  pub takes : (chosen bytes b st (moves f st)).next ≡ next

pub record Rests (f : Plan) (nodes : List StepNode) (len done : ℕ) (B' : Book) (st : Forest Outlet) : Type 0 where
  pub runs : Running f nodes len done B' st
  pub stuck : moves f st ≡ []

abbrev pub StepsTo : Plan → List StepNode → ℕ → ℕ → Book → Forest Outlet → List ℕ → ℕ → Option ℕ → Type 0
StepsTo f nodes len done B' st bytes b (Some next) = Goes f nodes len done B' st bytes b next
StepsTo f nodes len done B' st bytes b None = Rests f nodes len done B' st

-- What `step` asks: some plan f stands there, and the tables hold a state of its stepping
pub record Ready (m : List ℕ) (u : ℕ) (slots : List ℕ) (nodes : List StepNode) (n gone : ℕ) (waiter : Bool) (b len : ℕ) (B : Book) : Type 0 where
  pub plan : Plan
  pub done : ℕ
  pub state : Forest Outlet
  pub seated : Seated m u slots nodes plan len
  pub running : Running plan nodes len done B state
  pub nodes_are : n ≡ size plan
  pub past : gone ≡ total (facts plan) + inner plan
  pub few_steps : done < 50000
  pub few_bytes : b < 900000000
  pub waits_are : waiter ≡ any_waiter nodes n

-- and what it leaves, of every such plan and state
abbrev pub StepsOn : List ℕ → ℕ → List ℕ → List StepNode → ℕ → ℕ → ℕ → Book → Book → List ℕ → ℕ → Option ℕ → Type 0
StepsOn m u slots nodes n gone len B B' bytes b next =
    (f : Plan) (done : ℕ) (st : Forest Outlet) → Seated m u slots nodes f len → Running f nodes len done B st → n ≡ size f →
    gone ≡ total (facts f) + inner f → done < 50000 → StepsTo f nodes len done B' st bytes b next

-- counts are not looked at
finds_any : (m : Manner) (rows : ℕ → Row) (places order c c' : List ℕ) (g n k i : ℕ) → Finds m (record { rows = rows; places = places; order = order; counts = c }) g n k i →
    Finds m (record { rows = rows; places = places; order = order; counts = c' }) g n k i
finds_any still rows places order c c' g n k i h = h
finds_any passing rows places order c c' g n k i h = h
finds_any (merging ks) rows places order c c' g n k i h = h
finds_any (sorting true ks) rows places order c c' g n k i h = h
finds_any (sorting false ks) rows places order c c' g n k i h = h

subst2 : {A B : Type 0} (P : A → B → Type 0) {x y : A} {u v : B} → y ≡ x → v ≡ u → P x u → P y v
subst2 P {x} {y} {u} {v} e f h = subst (λ z. P z v) (sym e) (subst (P x) (sym f) h)

-- ---- an operator that moves has an output
abbrev scatters : Way → Bool
scatters straight = false
scatters gathered = false
scatters (scattered n) = true

some_out : (w : Way) (s n : ℕ) → Fits w s n → (is_straight w ≡ true → 0 < n) → (scatters w ≡ true → 0 < s) → 0 < s
some_out straight s n f h k = omega (arith, h refl)
some_out gathered s n f h k = omega arith
some_out (scattered m) s n f h k = k refl

pub outs_some : (o : Op) (c : Plan) → Formed o (length (roots c)) → 0 < kind_of (manner o (facts c)) → 0 < total (facts c) → 0 < (facts_op o (facts c)).streams
outs_some (source s) c h k l = absurd (omega arith)
outs_some filter c h k l = some_out straight _ _ (way_fits filter c h) (λ e. l) (λ e. no_bool e)
outs_some (projection cols) c h k l = some_out straight _ _ (way_fits (projection cols) c h) (λ e. l) (λ e. no_bool e)
outs_some union c h k l = some_out straight _ _ (way_fits union c h) (λ e. l) (λ e. no_bool e)
outs_some (repartition p m b ks) c h k l = h.1
outs_some (coalesce f) c h k l = omega arith
outs_some (sort_op true ks f) c h k l = some_out straight _ _ (way_fits (sort_op true ks f) c h) (λ e. l) (λ e. no_bool e)
outs_some (sort_op false ks f) c h k l = omega arith
outs_some (merge_op ks f) c h k l = omega arith
outs_some (global_limit s f note) c h k l = omega arith
outs_some (local_limit f note) c h k l = some_out straight _ _ (way_fits (local_limit f note) c h) (λ e. l) (λ e. no_bool e)
outs_some (sort_merge_join t on) c h k l = absurd h
outs_some (hash_join t on) c h k l = absurd h
outs_some (output_requirement ks d f) c h k l = some_out straight _ _ (way_fits (output_requirement ks d f) c h) (λ e. l) (λ e. no_bool e)
outs_some (partial_sort true ks n f) c h k l = some_out straight _ _ (way_fits (partial_sort true ks n f) c h) (λ e. l) (λ e. no_bool e)
outs_some (partial_sort false ks n f) c h k l = omega arith
outs_some (aggregate ks n) c h k l = absurd h

-- ---- nothing can move
pub rests : (m : List ℕ) (u : ℕ) (slots : List ℕ) (nodes : List StepNode) (f : Plan) (len done : ℕ) (B : Book) (st : Forest Outlet) (fl : List Bool) →
    Seated m u slots nodes f len → Running f nodes len done B st → length fl ≡ len → (mv : ℕ) →
    mv ≡ length (movable nodes (size f) fl B.held B.queued) → mv ≡ 0 → Rests f nodes len done B st
rests m u slots nodes f len done B st fl S R long mv e z = record { runs = R; stuck = empty (moves f st) (sym (movers_are m u slots nodes f len done B st fl S R long) ∙ sym e ∙ z) }
  where
    empty : (l : List (List States)) → length l ≡ 0 → l ≡ []
    empty [] h = refl
    empty (x ∷ l) h = absurd (omega arith)

-- ---- one moves
module _ (m : List ℕ) (u : ℕ) (slots : List ℕ) (nodes : List StepNode) (f : Plan) (len done : ℕ) (B B' : Book) (st : Forest Outlet) (fl : List Bool) (bytes : List ℕ) (b b₁ b₂ b₃ j k i v gone : ℕ)
    (kept : Bool) (S : Seated m u slots nodes f len) (R : Running f nodes len done B st) (N : Next m u slots nodes f B st fl bytes b j)
    (takes₁ : b₁ ≡ drawn_next b (length (moves f st)))
    (P : Picks (manner N.ch.spot.op (facts N.ch.spot.kids)) (row_in B.cells B.nulls B.widths) B.places B.order N.ch.spot.inp (ins_of N.ch.spot) bytes b₁ k i b₂)
    (O : SentTo (is_straight (way N.ch.spot.op)) k (outs_of N.ch.spot) bytes b₂ v b₃) (past : gone ≡ total (facts f) + inner f)
    (C : Carried N.ch.spot.op i (N.ch.spot.out + v) gone B.cells B.nulls B.widths B.places B.order B.counts B.held
    B'.cells B'.nulls B'.widths B'.places B'.order B'.counts B'.held kept)
    (Q : B'.queued ≡ requeued j (node_in nodes j).above kept B.queued) where
  s : Spot
  s = N.ch.spot

  rg : Range 0 (total (facts f)) f N.ch.spot
  rg = range N.ch.stands (omega arith)

  some_ins : 0 < total (facts N.ch.spot.kids)
  some_ins = omega (arith, P.below)

  G : Outgoes (way N.ch.spot.op) (outs_of N.ch.spot) k bytes b₂ v b₃
  G = outgoes (way N.ch.spot.op) (outs_of N.ch.spot) (ins_of N.ch.spot) k bytes b₂ v b₃ (way_fits N.ch.spot.op N.ch.spot.kids (spot_formed N.ch.stands S.formed)) P.below
      (outs_some N.ch.spot.op N.ch.spot.kids (spot_formed N.ch.stands S.formed) N.can_move.not-still some_ins) O

  l : ℕ
  l = drawn_value bytes b₂ (length (outputs (way N.ch.spot.op) k))

  r : ℕ
  r = get_or B.order i 0

  r_there : get_or B.order i 0 < length B.places
  r_there = R.known i P.inside

  to : ℕ
  to = cond kept (N.ch.spot.out + v) gone

  q_there : N.ch.spot.out + v < len
  q_there = omega (arith, rg.before, rg.end, G.inside, S.past)

  to_there : cond kept (N.ch.spot.out + v) gone < len
  to_there = go kept
    where
      go : (t : Bool) → cond t (N.ch.spot.out + v) gone < len
      go true = q_there
      go false = omega (arith, S.past, past)

  counts_else : (x : ℕ) → (x ≡ N.ch.spot.out + v → ⊥) → get_or B'.counts x 0 ≡ get_or B.counts x 0
  counts_else x n = ap (λ (c : List ℕ). get_or c x 0) C.counts_are ∙ get_or-set_other B.counts (N.ch.spot.out + v) x (get_or B.counts (N.ch.spot.out + v) 0 + 1) 0 n

  counts_more : get_or B'.counts (N.ch.spot.out + v) 0 ≡ suc (get_or B.counts (N.ch.spot.out + v) 0)
  counts_more =
      let e = ap (λ (c : List ℕ). get_or c (N.ch.spot.out + v) 0) C.counts_are
      ∙ get_or-set_same B.counts (N.ch.spot.out + v) (get_or B.counts (N.ch.spot.out + v) 0 + 1) 0 (omega (arith, q_there, R.counts_long)) in
      omega (arith, e)

  moved : Moved (tables_of B) (tables_of B') i (cond kept (N.ch.spot.out + v) gone) (N.ch.spot.out + v)
  moved =
      record {
        only = record { same = λ q n. C.shown_as.others q n (R.narrow q) };
        once = R.once;
        far = P.inside;
        has = r_there;
        places_are = C.places_are;
        order_is = C.order_is;
        counts_else = counts_else;
      }

  steps : Steps (tables_of B) (tables_of B') N.ch.spot gone k i (drawn_value bytes b₂ (length (outputs (way N.ch.spot.op) k))) (cond kept (N.ch.spot.out + v) gone)
  steps =
      let e = G.goes in
      record {
        finds = finds_any (manner N.ch.spot.op (facts N.ch.spot.kids)) (row_in B.cells B.nulls B.widths) B.places B.order [] B.counts N.ch.spot.inp (ins_of N.ch.spot) k i P.finds;
        drawn = G.below;
        inside = omega (arith, e, G.inside);
        moved = subst (λ (x : ℕ). Moved (tables_of B) (tables_of B') i (cond kept (N.ch.spot.out + v) gone) (N.ch.spot.out + x)) (sym e) moved;
        row = C.shown_as.row;
        counted = subst (λ (x : ℕ). get_or B'.counts (N.ch.spot.out + x) 0 ≡ suc (get_or B.counts (N.ch.spot.out + x) 0)) (sym e) counts_more;
        goes = subst (λ (x : ℕ). cond kept (N.ch.spot.out + v) gone ≡ cond (keeps (cuts N.ch.spot.op) (get_or B.counts (N.ch.spot.out + x) 0)) (N.ch.spot.out + x) gone) (sym e)
            (ap (λ (t : Bool). cond t (N.ch.spot.out + v) gone) C.kept_is);
      }

  E : choices_of N.ch.spot ≡ choices_in (manner N.ch.spot.op (facts N.ch.spot.kids)) (row_in B.cells B.nulls B.widths) B.places B.order N.ch.spot.inp (ins_of N.ch.spot)
  E = choices_are N.ch.stands R.shows N.opens N.ch.some

  after : Shows (tables_of B') 0 0 (total (facts f)) f (chosen bytes b st (moves f st)).value × ((chosen bytes b st (moves f st)).next ≡ drawn_next b₂ (length (outputs (way N.ch.spot.op) k)))
  after =
      step_is bytes b b₁ b₂ N.ch R.shows S.formed (omega arith) (omega (arith, past)) takes₁
      (drawn_below bytes b₁ (length (choices_of N.ch.spot)) (subst (λ (x : List ℕ). 0 < length x) (sym E) P.some))
      (P.stream ∙ ap (λ (x : List ℕ). get_or x (drawn_value bytes b₁ (length x)) 0) (sym E))
      (P.takes ∙ ap (λ (x : List ℕ). drawn_next b₁ (length x)) (sym E)) refl steps

  same_many : length B'.places ≡ length B.places
  same_many = ap length C.places_are ∙ length-set B.places (get_or B.order i 0) (cond kept (N.ch.spot.out + v) gone)

  inp_is : (node_in nodes j).inp ≡ N.ch.spot.inp
  inp_is = ap (λ x. x.inp) N.row

  inps_is : (node_in nodes j).inps ≡ ins_of N.ch.spot
  inps_is = ap (λ x. x.inps) N.row

  from : (N.ch.spot.inp ≤ get_or B.places (get_or B.order i 0) 0) × (get_or B.places (get_or B.order i 0) 0 < N.ch.spot.inp + ins_of N.ch.spot)
  from = was_input (manner N.ch.spot.op (facts N.ch.spot.kids)) (tables_of B) N.ch.spot.inp (ins_of N.ch.spot) k i P.inside
      (finds_any (manner N.ch.spot.op (facts N.ch.spot.kids)) (row_in B.cells B.nulls B.widths) B.places B.order [] B.counts N.ch.spot.inp (ins_of N.ch.spot) k i P.finds)

  sent : Sent nodes f B.places j (get_or B.order i 0) (cond kept (N.ch.spot.out + v) gone) kept
  sent =
      record {
        mover = N.below;
        row = r_there;
        from = within-true (node_in nodes j).inp (node_in nodes j).inps (get_or B.places (get_or B.order i 0) 0) (omega (arith, from.0, inp_is)) (omega (arith, from.1, inp_is, inps_is));
        to = λ e. goes_in e;
        cut = λ e. gone_out e;
      }
    where
      goes_in : kept ≡ true → within (node_in nodes j).out (node_in nodes j).outs (cond kept (N.ch.spot.out + v) gone) ≡ true
      goes_in e =
          let a = ap (λ (t : Bool). cond t (N.ch.spot.out + v) gone) e in
          let o = ap (λ x. x.out) N.row in
          let os = ap (λ x. x.outs) N.row in
          within-true (node_in nodes j).out (node_in nodes j).outs (cond kept (N.ch.spot.out + v) gone) (omega (arith, a, o)) (omega (arith, a, o, os, G.inside))

      gone_out : kept ≡ false → total (facts f) + inner f ≤ cond kept (N.ch.spot.out + v) gone
      gone_out e = let a = ap (λ (t : Bool). cond t (N.ch.spot.out + v) gone) e in omega (arith, a, past)

  counted_more : (x : ℕ) → Dec (x ≡ N.ch.spot.out + v) → get_or B'.counts x 0 ≤ suc done
  counted_more x (yes e) = let a = ap (λ (y : ℕ). get_or B'.counts y 0) e in omega (arith, a, counts_more, R.counted (N.ch.spot.out + v))
  counted_more x (no n) = omega (arith, counts_else x n, R.counted x)

  runs : Running f nodes len (suc done) B' (chosen bytes b st (moves f st)).value
  runs =
      record {
        shows = after.0;
        once = subst Once (sym C.order_is) (once_kept i B.order R.once P.inside);
        known = subst2 Known C.order_is same_many (known_kept i B.order P.inside (length B.places) R.known);
        complete = subst2 Complete C.order_is same_many (complete_kept i B.order P.inside (length B.places) R.complete);
        room = record {
          wide = λ q h. C.shown_as.width q (R.narrow q);
          numbers = omega (arith, same_many, C.shown_as.numbers, R.room.numbers);
          sets = omega (arith, same_many, C.shown_as.sets, R.room.sets);
          widths_there = omega (arith, same_many, C.shown_as.entries, R.room.widths_there);
        };
        narrow = λ q. C.shown_as.width q (R.narrow q);
        held_are = subst2 HeldAre C.held_are C.places_are
            (held_moved B.held B.places R.held_are (get_or B.order i 0) (cond kept (N.ch.spot.out + v) gone) r_there (omega (arith, to_there, R.held_long)));
        queued_are = subst2 (QueuedAre nodes (size f)) Q C.places_are
            (queued_moved nodes (size f) f S.listed (omega arith) B.queued B.places j (get_or B.order i 0) (cond kept (N.ch.spot.out + v) gone) kept sent R.queued_long R.queued_are);
        ends = subst2 (λ (qs ps : List ℕ). get_or qs (size f) 0 ≤ tally_in 0 (total (facts f)) ps) Q C.places_are
            (ends_moved nodes (size f) f S.listed (omega arith) B.queued B.places j (get_or B.order i 0) (cond kept (N.ch.spot.out + v) gone) kept sent R.queued_long R.queued_are
            R.ends);
        counted = λ x. counted_more x (ℕ_discrete x (N.ch.spot.out + v));
        few_rows = omega (arith, same_many, R.few_rows);
        counts_long = ap length C.counts_are ∙ length-set B.counts (N.ch.spot.out + v) (get_or B.counts (N.ch.spot.out + v) 0 + 1) ∙ R.counts_long;
        held_long = ap length C.held_are ∙ length-rehold (get_or B.places (get_or B.order i 0) 0) (cond kept (N.ch.spot.out + v) gone) B.held ∙ R.held_long;
        queued_long = omega (arith, ap length Q, length-requeued j (node_in nodes j).above kept B.queued, R.queued_long);
      }

  pub goes : Goes f nodes len done B' st bytes b b₃
  goes = record { runs = runs; takes = after.1 ∙ G.takes }
