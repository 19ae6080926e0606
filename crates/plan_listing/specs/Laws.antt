-- The code's array of how many nodes are to come at each depth; lines one after another. Assumes nothing.
use Rattle.std.specs.Prelude.{◌≡◌, refl, cond, List, [], ◌∷◌, ◌++◌, ℕ, zero, suc, ◌+◌, ◌-◌, ◌*◌, ◌≤◌, ◌<◌, eqb, length, get_or, take, drop, set}
use Rattle.std.proofs.Common.{sym, ap, ap₂, ◌∙◌, append_assoc, append-nil, arith, add-one, length-set, get_or-set_same, get_or-set_other, ne_eqb}
use Rattle.scan.specs.Bytes.{part}
use Rattle.scan.specs.ByteLaws.{cut}
use Rattle.scan.specs.Parts.{at_part}
use Rattle.plan.specs.Numbers.{Accepted, number_of}
use Rattle.plan_format.specs.Record.{children}
use Rattle.plan_format.specs.Blocks.{record_count}
use Rattle.plan_format.specs.Reading.{refusal_of}
use Rattle.arena.specs.Arena.{slot_size}
use Rattle.node_lines.specs.Lines.{slot_line, Put}
use Rattle.node_lines.specs.Laws.{put_none, put_put, put_as, put_most}
use Rattle.plan_listing.specs.Listing.{less, up, after, lines, slots, listing, refusal_line, shown}

-- ---- depths

-- at depth d of the code's array, and above it
abbrev pub pending : List ℕ → ℕ → List ℕ
pending l zero = []
pending l (suc d) = get_or l (suc d) 0 ∷ pending l d

length-pending : (l : List ℕ) (d : ℕ) → length (pending l d) ≡ d
length-pending l zero = refl
length-pending l (suc d) = ap suc (length-pending l d)

-- what stands deeper does not count
pending-set : (l : List ℕ) (i x d : ℕ) → d < i → pending (set l i x) d ≡ pending l d
pending-set l i x zero h = refl
pending-set l i x (suc d) h = ap₂ ◌∷◌ (get_or-set_other l i (suc d) x 0 (λ e. omega arith)) (pending-set l i x d (omega arith))

-- one less at its own depth
pending-less : (l : List ℕ) (d x : ℕ) → d < length l → x ≡ get_or l d 0 - 1 → pending (set l d x) d ≡ less (pending l d)
pending-less l zero x h e = refl
pending-less l (suc d) x h e = ap₂ ◌∷◌ (get_or-set_same l (suc d) x 0 h ∙ e) (pending-set l (suc d) x d (omega arith))

pub up-zero : (l : List ℕ) (d : ℕ) → 0 < d → get_or l d 0 ≡ 0 → up (pending l (d - 1)) ≡ up (pending l d)
up-zero l zero h e = absurd (omega arith)
up-zero l (suc d) h e = let q : suc d - 1 ≡ d = omega arith in rw (q, e)

pub up_stays : (l : List ℕ) (d : ℕ) → (get_or l d 0 ≡ 0 → ⊥) → pending l d ≡ up (pending l d)
up_stays l zero f = refl
up_stays l (suc d) f = go (get_or l (suc d) 0) f
  where
    go : (n : ℕ) → (n ≡ 0 → ⊥) → n ∷ pending l d ≡ up (n ∷ pending l d)
    go zero f = absurd (f refl)
    go (suc n) f = refl

-- the node has children: they come next
pub down : (l : List ℕ) (d k x : ℕ) → d + 1 < length l → 0 < k → x ≡ get_or l d 0 - 1 → pending (set (set l d x) (d + 1) k) (d + 1) ≡ after (pending l d) k
down l d zero x h g e = absurd (omega arith)
down l d (suc k) x h g e =
    let w = length-set l d x in
    rw (add-one d) (ap₂ ◌∷◌ (get_or-set_same (set l d x) (suc d) (suc k) 0 (omega arith))
    (pending-set (set l d x) (suc d) (suc k) d (omega arith) ∙ pending-less l d x (omega arith) e))

-- it has none
pub over : (l y : List ℕ) (d k x : ℕ) → d < length l → k ≤ 0 → x ≡ get_or l d 0 - 1 → y ≡ up (pending (set l d x) d) → y ≡ after (pending l d) k
over l y d zero x h g e q = q ∙ ap up (pending-less l d x h e)
over l y d (suc k) x h g e q = absurd (omega arith)

-- ---- lines

-- i of u lines are put, from a place on
pub record Listed (m : List ℕ) (u at : ℕ) (b : List ℕ) (i : ℕ) (left : List ℕ) (depth e : ℕ) (out : List ℕ) : Type 0 where
  pub low : i ≤ u
  pub deep : depth ≤ i
  pub wide : length left ≡ 128
  pub long : length out ≡ length b
  pub text : List ℕ
  pub put : Put (287 * i) text at b e out
  pub rest : text ++ lines (slots m (u - i)) i (pending left depth) ≡ lines (slots m u) 0 []

pub listed_none : (m : List ℕ) (u at : ℕ) (b left : List ℕ) → length left ≡ 128 → Listed m u at b 0 left 0 at b
listed_none m u at b left w =
    let e : u - 0 ≡ u = omega arith in
    record {
      low = omega arith;
      deep = omega arith;
      wide = w;
      long = refl;
      text = [];
      put = put_none b at;
      rest = ap (λ (k : ℕ). lines (slots m k) 0 []) e;
    }

-- the slot of node i
slot_at : (m : List ℕ) (u i : ℕ) → i < u → slots m (u - i) ≡ part ((u - 1 - i) * slot_size) slot_size m ∷ slots m (u - (i + 1))
unfolding slots
slot_at m u i h =
    let e : u - i ≡ suc (u - 1 - i) = omega arith in let q : u - (i + 1) ≡ u - 1 - i = omega arith in
    rw (e, q)

-- the next line, of the part of m that the code lends from a on, and the depth after it
pub listed_more : {m : List ℕ} {u at : ℕ} {b : List ℕ} {i : ℕ} {left : List ℕ} {depth e : ℕ} {out : List ℕ} (a : ℕ) (left' : List ℕ) (depth' e' : ℕ)
    (out' : List ℕ) → a ≡ (u - 1 - i) * slot_size → at + 287 * u ≤ length b → i < u → length left' ≡ length left → length out' ≡ length out
    → depth' ≤ depth + 1 → Put 287 (slot_line (take (a + slot_size - a) (drop a m)) i depth) e out e' out'
    → pending left' depth' ≡ after (pending left depth) (get_or m (a + 1) 0) → Listed m u at b i left depth e out → Listed m u at b (i + 1) left' depth' e' out'
unfolding lines
listed_more {m} {u} {at} {b} {i} {left} {depth} {e} {out} a left' depth' e' out' f h g w l d p q r =
    let s : List ℕ = part a slot_size m in
    let low = r.low in let deep = r.deep in
    let line : Put 287 (slot_line s i depth) e out e' out' = put_as (ap (λ (x : List ℕ). slot_line x i depth) (cut m a slot_size)) p in
    let next : pending left' depth' ≡ after (pending left depth) (children s) =
    q ∙ ap (after (pending left depth)) (sym (at_part m a slot_size 1 (omega arith))) in
    record {
      low = omega arith;
      deep = omega arith;
      wide = w ∙ r.wide;
      long = l ∙ r.long;
      text = r.text ++ slot_line s i depth;
      put = put_most (287 * (i + 1)) (omega arith) (put_put (omega arith) r.put line);
      rest =
          append_assoc r.text (slot_line s i depth) (lines (slots m (u - (i + 1))) (i + 1) (pending left' depth'))
          ∙ ap₂ (λ (d : ℕ) (ns : List ℕ). r.text ++ (slot_line s i d ++ lines (slots m (u - (i + 1))) (i + 1) ns)) (sym (length-pending left depth)) next
          ∙ ap (λ (k : ℕ). r.text ++ lines (part k slot_size m ∷ slots m (u - (i + 1))) i (pending left depth)) f
          ∙ ap (λ ss. r.text ++ lines ss i (pending left depth)) (sym (slot_at m u i g))
          ∙ r.rest;
    }

pub listed_all : {m : List ℕ} {u at : ℕ} {b : List ℕ} {i : ℕ} {left : List ℕ} {depth e : ℕ} {out : List ℕ} → u ≤ i
    → Listed m u at b i left depth e out → Put (287 * u) (lines (slots m u) 0 []) at b e out
unfolding lines slots
listed_all {m} {u} {at} {b} {i} {left} {depth} {e} {out} h r =
    let low = r.low in let z : u - i ≡ 0 = omega arith in
    let none : lines (slots m (u - i)) i (pending left depth) ≡ [] = ap (λ (k : ℕ). lines (slots m k) i (pending left depth)) z in
    put_as (sym (append-nil r.text) ∙ ap (λ (x : List ℕ). r.text ++ x) (sym none) ∙ r.rest) (put_most (287 * u) (omega arith) r.put)

-- ---- what is shown

pub shown_plan : (s m : List ℕ) (u : ℕ) → refusal_of s ≡ Accepted → u ≡ record_count s → listing m u ≡ shown s m
shown_plan s m u e q =
    ap (listing m) q ∙ sym (ap (λ x. cond (eqb (number_of x) 0) (listing m (record_count s)) (refusal_line (number_of x))) e)

pub shown_refusal : (s m : List ℕ) (n : ℕ) → n ≡ number_of (refusal_of s) → (n ≡ 0 → ⊥) → refusal_line n ≡ shown s m
shown_refusal s m n e f =
    sym (ap (λ b. cond b (listing m (record_count s)) (refusal_line n)) (ne_eqb n 0 f))
    ∙ ap (λ (k : ℕ). cond (eqb k 0) (listing m (record_count s)) (refusal_line k)) e
