-- All steps: the tables hold the last state of the stepping. Assumes nothing.
use Rattle.std.specs.Prelude.{◌≡◌, refl, Bool, true, false, cond, List, [], ℕ, zero, suc, ◌+◌, ◌*◌, ◌-◌, ◌%◌, ◌<◌, ◌≤◌, leb, length, get_or, Option, Some, None}
use Rattle.std.proofs.Common.{sym, ap, ap₂, ◌∙◌, subst, arith}
use Rattle.row_order.specs.Iso.{Row}
use Rattle.plan.specs.Forest.{Forest, size}
use Rattle.plan.specs.Op.{Plan}
use Rattle.semantics.specs.Facts.{facts}
use Rattle.stepping.specs.Outlets.{Outlet}
use Rattle.stepping.specs.Moves.{States, moves}
use Rattle.stepping.specs.Stepping.{byte_at, Drawn, draw, chosen, start, after, work, finished}
use Rattle.step_tables.specs.Places.{total, inner, nodes_at}
use Rattle.step_tables.specs.Passes.{Listed}
use Rattle.step_tables.specs.declared.StepNode.{StepNode}
use Rattle.step_tables.specs.Layout.{length_nodes}
use Rattle.step_tables.proofs.LastState.{enough, one_more, no_more}
use Rattle.step_choices.specs.Choosing.{any_waiter}
use Rattle.step_moves.specs.Running.{Book, Seated, Running}
use Rattle.step_moves.specs.Stepping.{Ready, Goes, Rests, StepsTo, StepsOn}

-- What `run` asks: the tables hold the first state of some plan's stepping, and 32,256 steps are enough
pub record Begun (m : List ℕ) (u : ℕ) (slots : List ℕ) (nodes : List StepNode) (n gone len : ℕ) (B : Book) : Type 0 where
  pub plan : Plan
  pub rows : ℕ → ℕ → List Row
  pub seated : Seated m u slots nodes plan len
  pub running : Running plan nodes len 0 B (start rows 0 plan)
  pub nodes_are : n ≡ size plan
  pub past : gone ≡ total (facts plan) + inner plan
  pub enough : work 0 (start rows 0 plan) ≤ 32256

-- and what it leaves, of every such plan
abbrev pub RunsOn : List ℕ → ℕ → List ℕ → List StepNode → ℕ → ℕ → ℕ → Book → Book → List ℕ → Type 0
RunsOn m u slots nodes n gone len B B' bytes =
    (f : Plan) (rows : ℕ → ℕ → List Row) → Seated m u slots nodes f len → Running f nodes len 0 B (start rows 0 f) → n ≡ size f →
    gone ≡ total (facts f) + inner f → work 0 (start rows 0 f) ≤ 32256 → Running f nodes len 32256 B' (finished f rows bytes)

-- ---- the loop: a state is reached from which the rest of the steps leads to the last one
pub record Reached (f : Plan) (rows : ℕ → ℕ → List Row) (nodes : List StepNode) (len : ℕ) (bytes : List ℕ) (b done : ℕ) (B : Book) : Type 0 where
  pub state : Forest Outlet
  pub running : Running f nodes len done B state
  pub leads : after f bytes (32256 - done) b state ≡ after f bytes 32256 0 (start rows 0 f)

-- of every plan that stands there
pub record Loop (m : List ℕ) (u : ℕ) (slots : List ℕ) (nodes : List StepNode) (n gone len : ℕ) (bytes : List ℕ) (B₀ : Book) (b done : ℕ) (B : Book) : Type 0 where
  pub steps : done ≤ 32256
  pub taken : b ≤ 3 * done
  pub all : (f : Plan) (rows : ℕ → ℕ → List Row) → Seated m u slots nodes f len → Running f nodes len 0 B₀ (start rows 0 f) → n ≡ size f →
      gone ≡ total (facts f) + inner f → Reached f rows nodes len bytes b done B

pub more_counted : (f : Plan) (nodes : List StepNode) (len d d' : ℕ) (B : Book) (st : Forest Outlet) → d ≤ d' → Running f nodes len d B st → Running f nodes len d' B st
more_counted f nodes len d d' B st h R =
    record {
      shows = R.shows;
      once = R.once;
      known = R.known;
      complete = R.complete;
      room = R.room;
      narrow = R.narrow;
      held_are = R.held_are;
      queued_are = R.queued_are;
      ends = R.ends;
      counted = λ x. omega (arith, R.counted x);
      few_rows = R.few_rows;
      counts_long = R.counts_long;
      held_long = R.held_long;
      queued_long = R.queued_long;
    }

pub reached_first : (f : Plan) (rows : ℕ → ℕ → List Row) (nodes : List StepNode) (len : ℕ) (bytes : List ℕ) (B : Book) → Running f nodes len 0 B (start rows 0 f) →
    Reached f rows nodes len bytes 0 0 B
reached_first f rows nodes len bytes B R = record { state = start rows 0 f; running = R; leads = let e : 32256 - 0 ≡ 32256 = omega arith in ap (λ (k : ℕ). after f bytes k 0 (start rows 0 f)) e }

pub reached_next : (f : Plan) (rows : ℕ → ℕ → List Row) (nodes : List StepNode) (len : ℕ) (bytes : List ℕ) (b done : ℕ) (B B' : Book) (next : ℕ) → done < 32256 →
    (r : Reached f rows nodes len bytes b done B) → Goes f nodes len done B' r.state bytes b next → Reached f rows nodes len bytes next (done + 1) B'
reached_next f rows nodes len bytes b done B B' next h r g =
    let e : 32256 - done ≡ suc (32256 - (done + 1)) = omega arith in
    record {
      state = (chosen bytes b r.state (moves f r.state)).value;
      running = more_counted f nodes len (suc done) (done + 1) B' (chosen bytes b r.state (moves f r.state)).value (omega arith) g.runs;
      leads = one_more f bytes (32256 - (done + 1)) b next r.state (chosen bytes b r.state (moves f r.state)).value (after f bytes 32256 0 (start rows 0 f))
          (sym (ap (λ (k : ℕ). after f bytes k b r.state) e) ∙ r.leads) refl g.takes;
    }

module _ (f : Plan) (rows : ℕ → ℕ → List Row) (m : List ℕ) (u : ℕ) (slots : List ℕ) (nodes : List StepNode) (len : ℕ) (bytes : List ℕ) (b done : ℕ) (B : Book) (S : Seated m u slots nodes f len)
    (w : work 0 (start rows 0 f) ≤ 32256) (r : Reached f rows nodes len bytes b done B) (few : done ≤ 32256) where
  last : after f bytes 32256 0 (start rows 0 f) ≡ finished f rows bytes
  last = enough f rows bytes 32256 S.formed w

  -- nothing can move
  pub ends_resting : (B' : Book) → Rests f nodes len done B' r.state → Running f nodes len 32256 B' (finished f rows bytes)
  ends_resting B' h =
      subst (Running f nodes len 32256 B') (no_more f bytes (32256 - done) b r.state (after f bytes 32256 0 (start rows 0 f)) r.leads h.stuck ∙ last)
      (more_counted f nodes len done 32256 B' r.state few h.runs)

  -- all steps are made
  pub ends_counted : 32256 ≤ done → Running f nodes len 32256 B (finished f rows bytes)
  ends_counted h =
      let e : 32256 - done ≡ 0 = omega arith in
      subst (Running f nodes len 32256 B) (sym (ap (λ (k : ℕ). after f bytes k b r.state) e) ∙ r.leads ∙ last)
      (more_counted f nodes len done 32256 B r.state few r.running)

-- ---- bytes taken in a step: three at most
draw_few : {A : Type 0} (bytes : List ℕ) (i : ℕ) (other : A) (l : List A) → (draw bytes i other l).next ≤ suc i
draw_few {A} bytes i other l = go (leb (length l) 1)
  where
    go : (t : Bool) → (cond {A = Drawn A} t (record { value = get_or l 0 other; next = i }) (record { value = get_or l (byte_at bytes i % length l) other; next = suc i })).next ≤ suc i
    go true = omega arith
    go false = omega arith

chosen_few : (bytes : List ℕ) (i : ℕ) (st : Forest Outlet) (ms : List (List States)) → (chosen bytes i st ms).next ≤ i + 3
chosen_few bytes i st ms =
    let p = draw bytes i [] ms in
    let q = draw bytes p.next [] p.value in
    omega (arith, draw_few bytes i [] ms, draw_few bytes p.next [] p.value, draw_few bytes q.next st q.value)

-- the table has room for the nodes
pub listed_room : (t : List StepNode) (f : Plan) → Listed t (nodes_at (size f) 0 0 (total (facts f)) f) → size f ≤ length t
listed_room t f h = omega (arith, h.room, length_nodes (size f) 0 0 (total (facts f)) f)

-- ---- the loop's turns
module _ (m : List ℕ) (u : ℕ) (slots : List ℕ) (nodes : List StepNode) (n gone len : ℕ) (bytes : List ℕ) (B₀ : Book) where
  pub loop_first : Loop m u slots nodes n gone len bytes B₀ 0 0 B₀
  loop_first = record { steps = omega arith; taken = omega arith; all = λ f rows S R e p. reached_first f rows nodes len bytes B₀ R }

  module _ (Y : Begun m u slots nodes n gone len B₀) (b done : ℕ) (B : Book) (L : Loop m u slots nodes n gone len bytes B₀ b done B) where
    mine : Reached Y.plan Y.rows nodes len bytes b done B
    mine = L.all Y.plan Y.rows Y.seated Y.running Y.nodes_are Y.past

    pub loop_asks : (waiter : Bool) (len' : ℕ) → len' ≡ len → waiter ≡ any_waiter nodes n → Ready m u slots nodes n gone waiter b len' B
    loop_asks waiter len' e w =
        record {
          plan = Y.plan;
          done = done;
          state = mine.state;
          seated = subst (Seated m u slots nodes Y.plan) (sym e) Y.seated;
          running = subst (λ (k : ℕ). Running Y.plan nodes k done B mine.state) (sym e) mine.running;
          nodes_are = Y.nodes_are;
          past = Y.past;
          few_steps = omega (arith, L.steps);
          few_bytes = omega (arith, L.taken, L.steps);
          waits_are = w;
        }

    module _ (B' : Book) (taken : Option ℕ) (len' : ℕ) (same : len' ≡ len) (on : StepsOn m u slots nodes n gone len' B B' bytes b taken) where
      steps_to : (f : Plan) (rows : ℕ → ℕ → List Row) → Seated m u slots nodes f len → (r : Reached f rows nodes len bytes b done B) → n ≡ size f →
          gone ≡ total (facts f) + inner f → StepsTo f nodes len done B' r.state bytes b taken
      steps_to f rows S r e p =
          subst (λ (k : ℕ). StepsTo f nodes k done B' r.state bytes b taken) same
          (on f done r.state (subst (Seated m u slots nodes f) (sym same) S) (subst (λ (k : ℕ). Running f nodes k done B r.state) (sym same) r.running) e p (omega (arith, L.steps)))

      pub loop_next : (next : ℕ) → taken ≡ Some next → done < 32256 → Loop m u slots nodes n gone len bytes B₀ next (done + 1) B'
      loop_next next e h =
          record {
            steps = omega arith;
            taken = omega (arith, (goes Y.plan Y.rows Y.seated mine Y.nodes_are Y.past).takes, chosen_few bytes b mine.state (moves Y.plan mine.state), L.taken);
            all = λ f rows S R q p. reached_next f rows nodes len bytes b done B B' next h (L.all f rows S R q p) (goes f rows S (L.all f rows S R q p) q p);
          }
        where
          goes : (f : Plan) (rows : ℕ → ℕ → List Row) → Seated m u slots nodes f len → (r : Reached f rows nodes len bytes b done B) → n ≡ size f →
              gone ≡ total (facts f) + inner f → Goes f nodes len done B' r.state bytes b next
          goes f rows S r q p = subst (λ (t : Option ℕ). StepsTo f nodes len done B' r.state bytes b t) e (steps_to f rows S r q p)

      pub loop_rests : taken ≡ None → RunsOn m u slots nodes n gone len B₀ B' bytes
      loop_rests e f rows S R q p w =
          let r = L.all f rows S R q p in
          ends_resting f rows m u slots nodes len bytes b done B S w r L.steps B'
          (subst (λ (t : Option ℕ). StepsTo f nodes len done B' r.state bytes b t) e (steps_to f rows S r q p))

    pub loop_ends : 32256 ≤ done → RunsOn m u slots nodes n gone len B₀ B bytes
    loop_ends h f rows S R q p w = ends_counted f rows m u slots nodes len bytes b done B S w (L.all f rows S R q p) L.steps h
