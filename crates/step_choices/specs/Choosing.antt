-- The choices of a step by the tables. Definitions, and what the code's loops ask.
use Rattle.std.specs.Prelude.{◌≡◌, refl, Bool, true, false, cond, not, ◌&&◌, ◌||◌, List, [], ◌∷◌, ℕ, zero, suc, ◌+◌, ◌*◌, ◌-◌, ◌<◌, ◌≤◌, ltb, length, get_or, take}
use Rattle.std.proofs.Common.{sym, ap, ap₂, ◌∙◌, subst, arith, ltb-true, ltb-false, get_or-take}
use Rattle.std.proofs.Math.Decide.{dec_lt}
use Rattle.row_order.proofs.Order.{no_bool}
use Rattle.row_order.specs.Lists.{tab}
use Rattle.row_order.specs.ListLaws.{length-tab, get_or-tab}
use Rattle.stepping.specs.Moves.{Way, straight, gathered, scattered, outputs}
use Rattle.step_tables.specs.Places.{is_straight}
use Rattle.step_tables.specs.Choosing.{any_from, chosen_from}
use Rattle.step_tables.specs.Draws.{drawn_value, drawn_next, one_choice}
use Rattle.step_tables.specs.Opened.{Fits, fill_all}
use Rattle.step_tables.specs.Passes.{number_of, no_node, node_in, held_at, may_by, node_may}
use Rattle.step_tables.specs.declared.StepNode.{StepNode}
use Rattle.step_tables.proofs.ChosenMoves.{drawn_below}
use Rattle.step_tables.proofs.Stepped.{output_of}

-- Node j waits for open streams: it merges or sorts
abbrev pub waits_for : List StepNode → ℕ → Bool
waits_for t j = ltb 1 (node_in t j).kind

abbrev pub any_waiter : List StepNode → ℕ → Bool
any_waiter t n = any_from (waits_for t) 0 n

-- The open streams, and the numbers of the nodes that can move then
abbrev pub opened : List StepNode → ℕ → List Bool → List ℕ → List Bool
opened t n fl held = fill_all (held_at held) (tab n (node_in t)) fl

abbrev pub movable : List StepNode → ℕ → List Bool → List ℕ → List ℕ → List ℕ
movable t n fl held queued = chosen_from (node_may t (opened t n fl held) held queued) 0 n

-- ---- who waits for nothing does not look at the flags
by_nothing : (k : ℕ) (fl fl' : List Bool) (w : ℕ → Bool) (some : Bool) (g n : ℕ) → k ≤ 1 → may_by k fl w some g n ≡ may_by k fl' w some g n
by_nothing zero fl fl' w some g n h = refl
by_nothing (suc zero) fl fl' w some g n h = refl
by_nothing (suc (suc k)) fl fl' w some g n h = absurd (omega arith)

none_waits : (t : List StepNode) (k n : ℕ) → any_from (waits_for t) k n ≡ false → (j : ℕ) → k ≤ j → j < k + n → (node_in t j).kind ≤ 1
none_waits t k zero e j h l = absurd (omega arith)
none_waits t k (suc n) e j h l = go (waits_for t k) refl e (dec_lt k j) (λ y d. none_waits t (suc k) n y j d (omega arith))
  where
    go : (b : Bool) → waits_for t k ≡ b → (b || any_from (waits_for t) (suc k) n) ≡ false → Dec (k < j) →
        (any_from (waits_for t) (suc k) n ≡ false → suc k ≤ j → (node_in t j).kind ≤ 1) → (node_in t j).kind ≤ 1
    go true x y d r = no_bool (sym y)
    go false x y (yes d) r = r y (omega arith)
    go false x y (no d) r = let z : k ≡ j = omega arith in ltb-false 1 (node_in t j).kind (ap (waits_for t) (sym z) ∙ x)

chosen_ext : (p q : ℕ → Bool) (k n : ℕ) → ((j : ℕ) → k ≤ j → j < k + n → p j ≡ q j) → chosen_from p k n ≡ chosen_from q k n
chosen_ext p q k zero h = refl
chosen_ext p q k (suc n) h =
    ap₂ (λ (b : Bool) (l : List ℕ). cond b (k ∷ l) l) (h k (omega arith) (omega arith)) (chosen_ext p q (suc k) n (λ j a b. h j (omega arith) (omega arith)))

pub nobody_waits : (t : List StepNode) (n : ℕ) (fl fl' : List Bool) (held queued : List ℕ) → any_waiter t n ≡ false →
    chosen_from (node_may t fl held queued) 0 n ≡ chosen_from (node_may t fl' held queued) 0 n
nobody_waits t n fl fl' held queued e =
    chosen_ext (node_may t fl held queued) (node_may t fl' held queued) 0 n
    (λ j a b. by_nothing (node_in t j).kind fl fl' (held_at held) (ltb 0 (get_or queued j 0)) (node_in t j).inp (node_in t j).inps (none_waits t 0 n e j a b))

-- The flags fl' tell who can move, as the open streams do
pub record Serves (t : List StepNode) (n : ℕ) (fl : List Bool) (held : List ℕ) (fl' : List Bool) : Type 0 where
  pub long : length fl' ≡ length fl
  pub tells : (queued : List ℕ) → chosen_from (node_may t fl' held queued) 0 n ≡ movable t n fl held queued

pub serves_filled : (t : List StepNode) (n : ℕ) (fl : List Bool) (held : List ℕ) (fl' : List Bool) → length fl' ≡ length fl → fl' ≡ opened t n fl held →
    Serves t n fl held fl'
serves_filled t n fl held fl' l e = record { long = l; tells = λ queued. ap (λ (x : List Bool). chosen_from (node_may t x held queued) 0 n) e }

pub serves_idle : (t : List StepNode) (n : ℕ) (fl : List Bool) (held : List ℕ) (w : Bool) → w ≡ any_waiter t n → w ≡ false → Serves t n fl held fl
serves_idle t n fl held w e f = record { long = refl; tells = λ queued. nobody_waits t n fl (opened t n fl held) held queued (sym e ∙ f) }

pub serves_count : (t : List StepNode) (n : ℕ) (fl : List Bool) (held : List ℕ) (fl' : List Bool) (queued bytes : List ℕ) (i k v j next : ℕ) → Serves t n fl held fl' →
    k ≡ length (chosen_from (node_may t fl' held queued) 0 n) → (v ≡ drawn_value bytes i k) × (next ≡ drawn_next i k) →
    j ≡ get_or (chosen_from (node_may t fl' held queued) 0 n) v 0 →
    (k ≡ length (movable t n fl held queued)) × (j ≡ get_or (movable t n fl held queued) (drawn_value bytes i k) 0) × (next ≡ drawn_next i k) × (length fl' ≡ length fl)
serves_count t n fl held fl' queued bytes i k v j next s e d f = (
  e ∙ ap length (s.tells queued),
  f ∙ ap₂ (λ (l : List ℕ) (x : ℕ). get_or l x 0) (s.tells queued) d.0,
  d.1,
  s.long,
)

-- ---- where a row goes
-- value: the output stream; next: how many bytes are taken then
pub record SentTo (straight_on : Bool) (stream outs : ℕ) (bytes : List ℕ) (i value next : ℕ) : Type 0 where
  pub stream_is : value ≡ cond straight_on stream (drawn_value bytes i outs)
  pub next_is : next ≡ cond straight_on i (drawn_next i outs)

-- that is the definition's choice among `outputs`; s, n: how many outputs and inputs there are
pub record Outgoes (w : Way) (s k : ℕ) (bytes : List ℕ) (i value next : ℕ) : Type 0 where
  pub below : drawn_value bytes i (length (outputs w k)) < length (outputs w k)
  pub goes : output_of w k (drawn_value bytes i (length (outputs w k))) ≡ value
  pub inside : value < s
  pub takes : drawn_next i (length (outputs w k)) ≡ next

pub outgoes : (w : Way) (s n k : ℕ) (bytes : List ℕ) (i value next : ℕ) → Fits w s n → k < n → 0 < s → SentTo (is_straight w) k s bytes i value next →
    Outgoes w s k bytes i value next
outgoes straight s n k bytes i value next f h p e =
    record {
      below = omega (arith, (one_choice bytes i 1 (omega arith)).0);
      goes = ap (λ (x : ℕ). get_or (k ∷ []) x 0) (sym (one_choice bytes i 1 (omega arith)).0) ∙ sym e.stream_is;
      inside = omega (arith, e.stream_is);
      takes = sym (one_choice bytes i 1 (omega arith)).1 ∙ sym e.next_is;
    }
outgoes gathered s n k bytes i value next f h p e =
    let one : drawn_value bytes i s ≡ 0 = ap (drawn_value bytes i) f ∙ sym (one_choice bytes i 1 (omega arith)).0 in
    record {
      below = omega (arith, (one_choice bytes i 1 (omega arith)).0);
      goes = ap (λ (x : ℕ). get_or (0 ∷ []) x 0) (sym (one_choice bytes i 1 (omega arith)).0) ∙ sym (e.stream_is ∙ one);
      inside = omega (arith, e.stream_is, one);
      takes = ap (drawn_next i) (sym f) ∙ sym e.next_is;
    }
outgoes (scattered m) s n k bytes i value next f h p e =
    let l : length (tab m (λ (x : ℕ). x)) ≡ s = length-tab m (λ (x : ℕ). x) ∙ sym f in
    let b = drawn_below bytes i s p in
    record {
      below = omega (arith, l, b, ap (drawn_value bytes i) l);
      goes = ap (λ (x : ℕ). get_or (tab m (λ (y : ℕ). y)) (drawn_value bytes i x) 0) l ∙ get_or-tab m (λ (y : ℕ). y) 0 (drawn_value bytes i s) (omega (arith, f, b)) ∙ sym e.stream_is;
      inside = omega (arith, e.stream_is, b);
      takes = ap (drawn_next i) l ∙ sym e.next_is;
    }

-- ---- the test of the loop over the first n nodes
pub waiter_here : (t : List StepNode) (n j : ℕ) (w : Bool) → j < n → w ≡ ltb 1 (number_of (get_or (take n t) j no_node).manner) → w ≡ waits_for t (0 + j)
waiter_here t n j w h e =
    let z : j ≡ 0 + j = omega arith in
    e ∙ ap (λ x. ltb 1 (number_of x.manner)) (get_or-take n t j no_node h) ∙ ap (waits_for t) z

pub sent_drawn : (b : Bool) (stream outs : ℕ) (bytes : List ℕ) (i value next : ℕ) → b ≡ false → (value ≡ drawn_value bytes i outs) × (next ≡ drawn_next i outs) →
    SentTo b stream outs bytes i value next
sent_drawn b stream outs bytes i value next e d =
    record {
      stream_is = d.0 ∙ sym (ap (λ (t : Bool). cond t stream (drawn_value bytes i outs)) e);
      next_is = d.1 ∙ sym (ap (λ (t : Bool). cond t i (drawn_next i outs)) e);
    }

pub sent_on : (b : Bool) (stream outs : ℕ) (bytes : List ℕ) (i : ℕ) → b ≡ true → SentTo b stream outs bytes i stream i
sent_on b stream outs bytes i e =
    record {
      stream_is = sym (ap (λ (t : Bool). cond t stream (drawn_value bytes i outs)) e);
      next_is = sym (ap (λ (t : Bool). cond t i (drawn_next i outs)) e);
    }

-- ---- a number drawn from a list
pub chosen_few : (p : ℕ → Bool) (k n j : ℕ) → get_or (chosen_from p k n) j 0 ≤ k + n
chosen_few p k zero j = omega arith
chosen_few p k (suc n) j = go (p k) j (chosen_few p (suc k) n)
  where
    go : (b : Bool) (i : ℕ) → ((i : ℕ) → get_or (chosen_from p (suc k) n) i 0 ≤ suc k + n) →
        get_or (cond b (k ∷ chosen_from p (suc k) n) (chosen_from p (suc k) n)) i 0 ≤ k + suc n
    go true zero h = omega arith
    go true (suc i) h = omega (arith, h i)
    go false i h = omega (arith, h i)

pub drawn_from : (l : List ℕ) (bytes : List ℕ) (i k v s next : ℕ) → k ≡ length l → (v ≡ drawn_value bytes i k) × (next ≡ drawn_next i k) → s ≡ get_or l v 0 →
    (s ≡ get_or l (drawn_value bytes i (length l)) 0) × (next ≡ drawn_next i (length l))
drawn_from l bytes i k v s next e d f =
    (f ∙ ap (λ (x : ℕ). get_or l x 0) (d.0 ∙ ap (drawn_value bytes i) e), d.1 ∙ ap (drawn_next i) e)
