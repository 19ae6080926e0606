-- How many rows wait at each node's inputs, kept as rows move. Assumes nothing.
use Rattle.std.specs.Prelude.{◌≡◌, refl, Bool, true, false, cond, ◌&&◌, List, ℕ, ◌+◌, ◌-◌, ◌<◌, ◌≤◌, eqb, ltb, length, get_or, set}
use Rattle.std.proofs.Common.{sym, ap, ◌∙◌, inl, inr, arith, eq-eqb, ne_eqb, length-set}
use Rattle.std.proofs.Math.Decide.{dec_lt, ℕ_discrete}
use Rattle.plan.specs.Forest.{size}
use Rattle.plan.specs.Op.{Plan}
use Rattle.semantics.specs.Facts.{facts}
use Rattle.step_tables.specs.Places.{within, total, inner, Node, nodes_at}
use Rattle.step_tables.specs.Found.{Known}
use Rattle.step_tables.specs.Shown.{within-true, within_below, within_above, is_within}
use Rattle.step_tables.specs.Choosing.{waits_at, any_from}
use Rattle.step_tables.specs.Passes.{node_in, Listed}
use Rattle.step_tables.specs.declared.StepNode.{StepNode}
use Rattle.step_tables.specs.Counting.{one, tally_in, many_few, many_set, many_some}
use Rattle.step_tables.specs.Holding.{fewer, rehold, length-rehold, fewer_is, rehold_is}
use Rattle.step_tables.specs.Complete.{Complete}
use Rattle.step_tables.specs.Waiting.{any_waits}
use Rattle.step_tables.specs.Layout.{Has, has_number, has_inputs, inputs_apart, Sends, sends_up, listed_nodes, listed_has}

-- The count of each node is that of the rows at its inputs
abbrev pub QueuedAre : List StepNode → ℕ → List ℕ → List ℕ → Type 0
QueuedAre t n queued places = (j : ℕ) → j < n → get_or queued j 0 ≡ tally_in (node_in t j).inp (node_in t j).inps places

pub queued_few : (t : List StepNode) (n : ℕ) (queued places : List ℕ) → QueuedAre t n queued places → (j : ℕ) → j < n → get_or queued j 0 ≤ length places
queued_few t n queued places are j h = omega (arith, are j h, many_few (within (node_in t j).inp (node_in t j).inps) places)

pub queued_some : (t : List StepNode) (n : ℕ) (queued places order : List ℕ) → QueuedAre t n queued places → Complete order (length places) →
    Known order (length places) → (j : ℕ) → j < n → any_from (waits_at places order) (node_in t j).inp (node_in t j).inps ≡ ltb 0 (get_or queued j 0)
queued_some t n queued places order are complete known j h =
    any_waits places order complete known (node_in t j).inp (node_in t j).inps ∙ ap (ltb 0) (sym (are j h))

-- ---- a row leaves the inputs of node m; where it is kept, it comes to those of node u
abbrev pub requeued : ℕ → ℕ → Bool → List ℕ → List ℕ
requeued m u kept queued = cond kept (rehold m u queued) (fewer m queued)

pub requeued_kept : (m u : ℕ) (kept : Bool) (queued : List ℕ) → kept ≡ true → rehold m u queued ≡ requeued m u kept queued
requeued_kept m u kept queued e = sym (ap (λ (k : Bool). requeued m u k queued) e)

pub requeued-cut : (m u : ℕ) (kept : Bool) (queued : List ℕ) → kept ≡ false → fewer m queued ≡ requeued m u kept queued
requeued-cut m u kept queued e = sym (ap (λ (k : Bool). requeued m u k queued) e)

pub length-requeued : (m u : ℕ) (kept : Bool) (queued : List ℕ) → length (requeued m u kept queued) ≡ length queued
length-requeued m u true queued = length-rehold m u queued
length-requeued m u false queued = length-set queued m (get_or queued m 0 - 1)

pub requeued_is : (m u : ℕ) (kept : Bool) (queued : List ℕ) → m < length queued → u < length queued → 0 < get_or queued m 0 → (x : ℕ) →
    get_or (requeued m u kept queued) x 0 + one (eqb m x) ≡ get_or queued x 0 + one (kept && eqb u x)
requeued_is m u true queued h k z x = rehold_is m u queued h k z x
requeued_is m u false queued h k z x = omega (arith, fewer_is m queued h z x)

-- Row r goes from one of node m's inputs to place g: one of its outputs, or, where the row is cut, a place past all inputs
pub record Sent (t : List StepNode) (f : Plan) (places : List ℕ) (m r g : ℕ) (kept : Bool) : Type 0 where
  pub mover : m < size f
  pub row : r < length places
  pub from : within (node_in t m).inp (node_in t m).inps (get_or places r 0) ≡ true
  pub to : kept ≡ true → within (node_in t m).out (node_in t m).outs g ≡ true
  pub cut : kept ≡ false → total (facts f) + inner f ≤ g

-- A place is an input of one node only
only_one : {N : ℕ → Node} {p n a b k j : ℕ} {f : Plan} → Has N p n a b f k → Has N p n a b f j → (x : ℕ) → within (N k).inp (N k).inps x ≡ true →
    within (N j).inp (N j).inps x ≡ eqb k j
only_one {N} {p} {n} {a} {b} {k} {j} hk hj x e = go (ℕ_discrete k j) (dec_lt k j)
  where
    go : Dec (k ≡ j) → Dec (k < j) → within (N j).inp (N j).inps x ≡ eqb k j
    go (yes z) d = ap (λ (i : ℕ). within (N i).inp (N i).inps x) (sym z) ∙ e ∙ sym (eq-eqb k j z)
    go (no z) (yes d) =
        let w = is_within (N k).inp (N k).inps x e in within_below (N j).inp (N j).inps x (omega (arith, inputs_apart hk hj d, w.1)) ∙ sym (ne_eqb k j z)
    go (no z) (no d) =
        let w = is_within (N k).inp (N k).inps x e in
        within_above (N j).inp (N j).inps x (omega (arith, inputs_apart hj hk (omega arith), w.0)) ∙ sym (ne_eqb k j z)

-- p: the number that stands for the node above the roots
module _ (t : List StepNode) (p : ℕ) (f : Plan) (listed : Listed t (nodes_at p 0 0 (total (facts f)) f)) (past : size f ≤ p) where
  has : (j : ℕ) → j < size f → Has (node_in t) p 0 0 (total (facts f)) f j
  has j h = listed_has t p 0 (total (facts f)) f listed j h

  sends : (m : ℕ) → m < size f → Sends (node_in t) p 0 0 (total (facts f)) f m
  sends m h = sends_up (listed_nodes t p 0 (total (facts f)) f listed) (has m h)

  pub above_few : (m : ℕ) → m < size f → (node_in t m).above ≤ p
  above_few m h = go (sends m h)
    where
      go : Sends (node_in t) p 0 0 (total (facts f)) f m → (node_in t m).above ≤ p
      go (inl w) = omega (arith, w.0)
      go (inr w) = omega (arith, (has_number w.0).1)

  module _ (queued places : List ℕ) (m r g : ℕ) (kept : Bool) (sent : Sent t f places m r g kept) where
    abbrev u : ℕ
    u = (node_in t m).above

    old : (j : ℕ) → j < size f → within (node_in t j).inp (node_in t j).inps (get_or places r 0) ≡ eqb m j
    old j h = only_one (has m sent.mover) (has j h) (get_or places r 0) sent.from

    -- the new place, of a kept row
    up : Sends (node_in t) p 0 0 (total (facts f)) f m → within (node_in t m).out (node_in t m).outs g ≡ true → (j : ℕ) → j < size f →
        within (node_in t j).inp (node_in t j).inps g ≡ eqb u j
    up (inl w) e j h =
        let i = is_within (node_in t m).out (node_in t m).outs g e in
        within_below (node_in t j).inp (node_in t j).inps g (omega (arith, i.1, w.1.upto, (has_inputs (has j h)).0))
        ∙ sym (ne_eqb u j (λ z. omega (arith, w.0)))
    up (inr w) e j h =
        let i = is_within (node_in t m).out (node_in t m).outs g e in
        only_one w.0 (has j h) g (within-true (node_in t u).inp (node_in t u).inps g (omega (arith, i.0, w.1.from)) (omega (arith, i.1, w.1.upto)))

    new : (k : Bool) → kept ≡ k → (j : ℕ) → j < size f → within (node_in t j).inp (node_in t j).inps g ≡ k && eqb u j
    new true e j h = up (sends m sent.mover) (sent.to e) j h
    new false e j h = within_above (node_in t j).inp (node_in t j).inps g (omega (arith, sent.cut e, (has_inputs (has j h)).1))

    pub mover_some : QueuedAre t (size f) queued places → 0 < get_or queued m 0
    mover_some are = omega (arith, are m sent.mover, many_some (within (node_in t m).inp (node_in t m).inps) places r sent.row sent.from)

    changed : p < length queued → QueuedAre t (size f) queued places → (x : ℕ) →
        get_or (requeued m u kept queued) x 0 + one (eqb m x) ≡ get_or queued x 0 + one (kept && eqb u x)
    changed room are = requeued_is m u kept queued (omega (arith, sent.mover)) (omega (arith, above_few m sent.mover)) (mover_some are)

    pub queued_moved : p < length queued → QueuedAre t (size f) queued places →
        QueuedAre t (size f) (requeued m (node_in t m).above kept queued) (set places r g)
    queued_moved room are j h =
        let z = many_set (within (node_in t j).inp (node_in t j).inps) places r g sent.row in
        omega (arith, changed room are j, z, are j h, ap one (old j h), ap one (new kept refl j h))

    -- what is counted past the nodes: no more than the rows at the roots' outputs
    pub ends_moved : p < length queued → QueuedAre t (size f) queued places → get_or queued p 0 ≤ tally_in 0 (total (facts f)) places →
        get_or (requeued m (node_in t m).above kept queued) p 0 ≤ tally_in 0 (total (facts f)) (set places r g)
    ends_moved room are h =
        let z = many_set (within 0 (total (facts f))) places r g sent.row in
        let w = is_within (node_in t m).inp (node_in t m).inps (get_or places r 0) sent.from in
        let x = ap one (within_above 0 (total (facts f)) (get_or places r 0) (omega (arith, w.0, (has_inputs (has m sent.mover)).0))) in
        omega (arith, changed room are p, z, x, h, out kept refl (sends m sent.mover))
      where
        out : (k : Bool) → kept ≡ k → Sends (node_in t) p 0 0 (total (facts f)) f m → one (k && eqb u p) ≤ one (within 0 (total (facts f)) g)
        out false e w = omega arith
        out true e (inl w) =
            let i = is_within (node_in t m).out (node_in t m).outs g (sent.to e) in
            omega (arith, ap one (within-true 0 (total (facts f)) g (omega arith) (omega (arith, i.1, w.1.upto))), ap one (eq-eqb u p w.0))
        out true e (inr w) = omega (arith, ap one (ne_eqb u p (λ z. omega (arith, (has_number w.0).1))))

  -- what `requeue` asks of the node above
  pub above_queued : (queued places : List ℕ) → QueuedAre t (size f) queued places → get_or queued p 0 ≤ tally_in 0 (total (facts f)) places →
      (m : ℕ) → m < size f → get_or queued (node_in t m).above 0 ≤ length places
  above_queued queued places are h m l = go (sends m l)
    where
      go : Sends (node_in t) p 0 0 (total (facts f)) f m → get_or queued (node_in t m).above 0 ≤ length places
      go (inl w) = omega (arith, ap (λ (k : ℕ). get_or queued k 0) w.0, many_few (within 0 (total (facts f))) places)
      go (inr w) = queued_few t (size f) queued places are (node_in t m).above (omega (arith, (has_number w.0).1))
