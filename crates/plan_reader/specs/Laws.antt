-- What the last pass and the whole reader use of the definitions. The widths of the finished trees stand on a stack.
use Rattle.std.specs.Prelude.{◌≡◌, refl, Bool, true, false, cond, ◌&&◌, ◌||◌, List, ◌∷◌, ℕ, zero, suc, ◌+◌, ◌-◌, ◌≤◌, ◌<◌, leb, eqb, length, get_or, take, drop, set, Err}
use Rattle.std.proofs.Common.{sym, ap, ap₂, ◌∙◌, arith, leb-true, eqb-true}
use Rattle.std.proofs.Math.Seq.{drop-length}
use Rattle.scan.specs.Below.{all_at, and_left, and_right, or_false}
use Rattle.scan.specs.ByteLaws.{cut}
use Rattle.plan.specs.Numbers.{Verdict, Accepted, number_of}
use Rattle.plan.specs.declared.Refusal.{Refusal}
use Rattle.plan.specs.declared.Refusal.TheVariants.{Field, Column, Width}
use Rattle.plan_format.specs.declared.Fields.{Fields}
use Rattle.plan_format.specs.Blocks.{span, record_at, record_count, record_start, records}
use Rattle.plan_format.specs.LastPass.{union_ok, columns_rule, column_limit, width_of, node_refusal, widths, and_then, last_pass}
use Rattle.plan_format.specs.Reading.{children_at, tree_ok, records_ok, early_refusal, refusal_of}
use Rattle.plan_format.specs.Record.{rules_ok, record_ok, head_ok, body_ok, key_slots_ok, tail_ok, key_count_ok, width_ok, byte14_ok, hashed, either, fields}
use Rattle.plan_passes.specs.Stack.{child_byte, record_lent, child_byte_lem, rest, rest_back, Stack, stack_start, pushed, stack_more}
use Rattle.plan_reader.specs.declared.Seen.{Seen}

-- the state before record i: the stack holds the widths of the finished trees
pub record Late (s : List ℕ) (m i t : ℕ) (w : List ℕ) : Type 0 where
  pub stack : Stack s m i t w
  pub are : drop t w ≡ widths (rest s m i)
  pub fine : last_pass (rest s m i) ≡ Accepted

pub late_start : (s : List ℕ) (m : ℕ) (w : List ℕ) → m ≤ 126 → length w ≡ 126 → Late s m m 126 w
unfolding span
late_start s m w h l =
    let z : m - m ≡ 0 = omega arith in
    record { stack = stack_start s m w h l; are = ap (λ (n : ℕ). drop n w) (sym l) ∙ drop-length w ∙ rw z; fine = rw z }

after_none : (x y : Verdict) → x ≡ Accepted → and_then x y ≡ y
after_none x y e = rw e

module _ (s : List ℕ) (m i t k : ℕ) (w : List ℕ) (z : 0 < i) (p : Late s m i t w) (q : k ≡ children_at s (i - 1)) where
  here : rest s m (i - 1) ≡ record_at s (i - 1) ∷ rest s m i
  here = rest_back s m i z p.stack.low

  late_is : last_pass (rest s m (i - 1)) ≡ node_refusal (record_at s (i - 1)) (take k (drop t w))
  late_is = ap last_pass here ∙ after_none _ _ p.fine ∙ ap₂ (λ (a : ℕ) (l : List ℕ). node_refusal (record_at s (i - 1)) (take a l)) (sym q) (sym p.are)

  pub late_more : (x : ℕ) → m ≡ record_count s → tree_ok s ≡ true → node_refusal (record_at s (i - 1)) (take k (drop t w)) ≡ Accepted
      → x ≡ width_of (fields (record_at s (i - 1))) (record_at s (i - 1)) (take k (drop t w)) → Late s m (i - 1) (t + k - 1) (set w (t + k - 1) x)
  late_more x c o n e =
      record {
        stack = stack_more s m i t w z p.stack c o k q x;
        are = pushed s m i t w z p.stack c o k q x
            ∙ ap (λ (y : ℕ). y ∷ drop k (drop t w)) e
            ∙ ap₂ (λ (a : ℕ) (l : List ℕ). width_of (fields (record_at s (i - 1))) (record_at s (i - 1)) (take a l) ∷ drop a l) q p.are
            ∙ sym (ap widths here);
        fine = late_is ∙ n;
      }

  pub late_fail : (r : Refusal) → node_refusal (record_at s (i - 1)) (take k (drop t w)) ≡ Err r → Err r ≡ last_pass (rest s m 0)
  late_fail r f = down (i - 1) (let a = p.stack.low in omega arith) (late_is ∙ f)
    where
      down : (j : ℕ) → j ≤ m → last_pass (rest s m j) ≡ Err r → Err r ≡ last_pass (rest s m 0)
      down zero h n = sym n
      down (suc j) h n =
          let e : rest s m j ≡ record_at s j ∷ rest s m (suc j) = (let g : suc j - 1 ≡ j = omega arith in rw g at (rest_back s m (suc j) (omega arith) h)) in
          down j (omega arith) (ap last_pass e ∙ rw n)

pub late_end : (s : List ℕ) (m i t : ℕ) (w : List ℕ) → Late s m i t w → i ≤ 0 → Accepted ≡ last_pass (rest s m 0)
late_end s m i t w p h = let e : i ≡ 0 = omega arith in sym (rw e at p.fine)

-- what an accepted node says of its width
pub node_width : (r ws : List ℕ) → number_of (node_refusal r ws) ≡ 0 → width_of (fields r) r ws ≤ 32
unfolding node_refusal
node_width r ws e = go (union_ok r ws) (columns_rule (fields r) r (column_limit (fields r) r ws) (get_or ws 1 0)) (leb (width_of (fields r) r ws) 32) refl e
  where
    go : (a b c : Bool) → leb (width_of (fields r) r ws) 32 ≡ c → number_of (cond a (cond b (cond c Accepted (Err Width)) (Err Column)) (Err Field)) ≡ 0
        → width_of (fields r) r ws ≤ 32
    go true true true q e = leb-true (width_of (fields r) r ws) 32 q
    go true true false q e = absurd (omega arith)
    go true false c q e = absurd (omega arith)
    go false b c q e = absurd (omega arith)

-- the counts that a record's rules bound
pub field_small : (f : Fields) (r : List ℕ) → rules_ok f r ≡ true → (get_or r 12 0 ≤ 8) × (get_or r 13 0 ≤ 32)
unfolding rules_ok
field_small f r e =
    let n : ℕ = get_or r 12 0 in let w : ℕ = get_or r 13 0 in let h : Bool = hashed f (get_or r 3 0) in
    let b : body_ok f r ≡ true = and_left (body_ok f r) _ (and_right (head_ok f r) (body_ok f r && (key_slots_ok (f.plain || h) r && tail_ok f r)) e) in
    let a : (key_count_ok f h n && width_ok f n w) ≡ true = and_left (key_count_ok f h n && width_ok f n w) (byte14_ok f n (get_or r 14 0) && eqb (get_or r 15 0) 0) b in (
      leb-true n 8 (and_left (leb n 8) _ (and_left (key_count_ok f h n) (width_ok f n w) a)),
      narrow (cond f.groups n 1) f.width (and_right (key_count_ok f h n) (width_ok f n w) a),
    )
  where
    narrow : (l : ℕ) (t : Bool) → either t (leb l (get_or r 13 0) && leb (get_or r 13 0) 32) (eqb (get_or r 13 0) 0) ≡ true → get_or r 13 0 ≤ 32
    narrow l true e = leb-true (get_or r 13 0) 32
        (and_right (leb l (get_or r 13 0)) (leb (get_or r 13 0) 32) (sym (or_false (leb l (get_or r 13 0) && leb (get_or r 13 0) 32)) ∙ e))
    narrow l false e = omega (arith, eqb-true (get_or r 13 0) 0 e)

pub record_small : (s : List ℕ) (j : ℕ) → records_ok s ≡ true → j < record_count s → (get_or (record_at s j) 12 0 ≤ 8) × (get_or (record_at s j) 13 0 ≤ 32)
unfolding records_ok
record_small s j e h = field_small _ (record_at s j) (all_at (λ i. record_ok (record_at s i)) (record_count s) e j h)

-- what a visit to record r, over children of widths ws, finds: both parts for a refused node too
pub record Saw (r ws : List ℕ) (x : Seen) : Type 0 where
  pub is : x.refusal ≡ node_refusal r ws
  pub wide : x.width ≡ width_of (fields r) r ws

module _ (s : List ℕ) (m i t : ℕ) (w : List ℕ) (x : Seen) (e : m ≡ record_count s) (z : 0 < i) (p : Late s m i t w) (a : ℕ) (g : a ≡ record_start (i - 1))
    (h : Saw (take (a + 64 - a) (drop a s)) (take (t + child_byte s a - t) (drop t w)) x) where
  -- the lent parts are the record and its children's widths
  seen : Saw (record_at s (i - 1)) (take (child_byte s a) (drop t w)) x
  seen = rw (record_lent s (i - 1) a g, cut w t (child_byte s a)) at h

  pub visit_fail : (r : Refusal) → x.refusal ≡ Err r → Err r ≡ last_pass (span (record_at s) 0 (record_count s))
  visit_fail r f =
      let c : m - 0 ≡ record_count s = omega arith in
      late_fail s m i t (child_byte s a) w z p (child_byte_lem s (i - 1) a g) r (sym seen.is ∙ f)
      ∙ ap (λ (n : ℕ). last_pass (span (record_at s) 0 n)) c

  pub visit_narrow : x.refusal ≡ Accepted → x.width ≤ 32
  visit_narrow n = let w = h.wide in let l = node_width _ _ (ap number_of (sym h.is ∙ n)) in omega arith

  pub visit_more : tree_ok s ≡ true → x.refusal ≡ Accepted → Late s m (i - 1) (t + child_byte s a - 1) (set w (t + child_byte s a - 1) x.width)
  visit_more o n = late_more s m i t (child_byte s a) w z p (child_byte_lem s (i - 1) a g) x.width e o (sym seen.is ∙ n) seen.wide

pub visit_end : (s : List ℕ) (m i t : ℕ) (w : List ℕ) → m ≡ record_count s → Late s m i t w → i ≤ 0
    → Accepted ≡ last_pass (span (record_at s) 0 (record_count s))
visit_end s m i t w e p h = let c : m - 0 ≡ record_count s = omega arith in late_end s m i t w p h ∙ ap (λ (n : ℕ). last_pass (span (record_at s) 0 n)) c

-- the whole reader: the early passes, then the last one
pub first_stop : (s : List ℕ) (r : Refusal) → early_refusal s ≡ Err r → Err r ≡ refusal_of s
unfolding refusal_of
first_stop s r e = rw e

pub first_on : (s : List ℕ) (x : Verdict) → early_refusal s ≡ Accepted → x ≡ last_pass (records s) → x ≡ refusal_of s
unfolding refusal_of
first_on s x f e = rw f e
