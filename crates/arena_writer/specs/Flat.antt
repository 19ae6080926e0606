-- A tree of the arena in node order, seven records at a time: the handles of the nodes still to come stand on a stack that grows down in w.
use Rattle.std.specs.Prelude.{◌≡◌, get_or, drop, set}
use Rattle.std.proofs.Math.Path.{refl, ap, sym}
use Rattle.std.proofs.Common.{ap₂, ◌∙◌, add-one, length-take, length-drop, length-set, drop_of_length-le, drop-cons, get_or-set_same, drop-set-lt, length-take-le, take_at, drop_at, take_all}
use mathlib.Core.List.{List, [], ◌∷◌, ◌++◌, append_assoc, append-nil}
use Prim.Native.Nat.{ℕ, zero, suc, ◌+◌, ◌*◌, ◌-◌, ◌≤◌, ◌<◌}
use native.Mathlib.Omega.{arith}
use Rattle.std.proofs.Math.ListN.{length, take, length-append}
use Rattle.std.proofs.Math.Seq.{drop-length}
use Rattle.scan.specs.Bytes.{part, le16}
use Rattle.scan.specs.Parts.{splice, splice-take, splice-length}
use Rattle.plan.specs.Forest.{tree, size, nodes}
use Rattle.plan_format.specs.Record.{children}
use Rattle.plan_roundtrip.specs.Files.{length-span}
use Rattle.plan_format.specs.Writing.{joined}
use Rattle.arena.specs.Arena.{slot_size, record_size, index, Tree, beside, slot, held, forest, trees, tree_at, at, leaf, Below, GoodNode, Good}
use Rattle.arena.specs.Laws.{index_even, onto, below_more}
use Rattle.arena.specs.Held.{view}

-- ---- children onto the stack

pub push_top : (w : List ℕ) (t x : ℕ) → 0 < t → t ≤ length w → drop (t - 1) (set w (t - 1) x) ≡ x ∷ drop t w
push_top w t x z h =
    let a : ℕ = t - 1 in
    let e : suc a ≡ t = omega arith in
    let l : a < length (set w a x) = rw length-set (omega arith) in
    drop-cons (set w a x) a 0 l ∙ ap₂ ◌∷◌ (get_or-set_same w a x 0 (omega arith)) (drop-set-lt (suc a) w a x (omega arith) ∙ ap (λ (n : ℕ). drop n w) e)

-- Child j and those after it are on the stack
pub record Pushed (ks : List ℕ) (t : ℕ) (w₀ : List ℕ) (j top : ℕ) (w : List ℕ) : Type 0 where
  pub low : j ≤ length ks
  pub here : top + length ks ≡ t + j
  pub wide : length w ≡ length w₀
  pub are : drop top w ≡ drop j ks ++ drop t w₀

pub pushed_none : (ks : List ℕ) (t : ℕ) (w : List ℕ) → Pushed ks t w (length ks) t w
pushed_none ks t w = record { low = omega arith; here = omega arith; wide = refl; are = ap (λ (l : List ℕ). l ++ drop t w) (sym (drop-length ks)) }

pub pushed_more : (ks : List ℕ) (t : ℕ) (w₀ : List ℕ) (j top : ℕ) (w : List ℕ) (x : ℕ) → 0 < j → length ks ≤ t → t ≤ length w₀ → x ≡ get_or ks (j - 1) 0
    → Pushed ks t w₀ j top w
    → Pushed ks t w₀ (j - 1) (top - 1) (set w (top - 1) x)
pushed_more ks t w₀ j top w x z f h e p =
    let a = p.low in let b = p.here in let l = p.wide in
    let g : suc (j - 1) ≡ j = omega arith in
    let d : drop (j - 1) ks ≡ x ∷ drop j ks = drop-cons ks (j - 1) 0 (omega arith) ∙ ap₂ (λ (y n : ℕ). y ∷ drop n ks) (sym e) g in
    record {
      low = omega arith;
      here = omega arith;
      wide = length-set w (top - 1) x ∙ l;
      are = push_top w top x (omega arith) (omega arith) ∙ ap (λ (q : List ℕ). x ∷ q) p.are ∙ ap (λ (q : List ℕ). q ++ drop t w₀) (sym d);
    }

pub pushed_end : (ks : List ℕ) (t : ℕ) (w₀ : List ℕ) (j top : ℕ) (w : List ℕ) → j ≤ 0 → Pushed ks t w₀ j top w → (top + length ks ≡ t)
    × (drop top w ≡ ks ++ drop t w₀)
pushed_end ks t w₀ j top w h p =
    let e : j ≡ 0 = omega arith in
    let b = p.here in
    (omega arith, p.are ∙ ap (λ (n : ℕ). drop n ks ++ drop t w₀) e)

-- ---- forests of handles, node by node

pub length_kids : (m : List ℕ) (k : ℕ) → length (slot m k).kids ≡ children (slot m k).rec
unfolding slot
length_kids m k = length-span (λ j. le16 (part (k * slot_size + record_size) 16 m) (2 * j)) 0 (children (part (k * slot_size) record_size m))

nodes_append : (ts : List Tree) (x y : List ℕ) → nodes (forest ts (x ++ y)) ≡ nodes (forest ts x) ++ nodes (forest ts y)
unfolding forest
nodes_append ts [] y = refl
nodes_append ts (k ∷ x) y =
    let t : Tree = at leaf ts (index k) in
    ap (λ (l : List (List ℕ)). t.root ∷ (nodes t.below ++ l)) (nodes_append ts x y) ∙ ap (λ (l : List (List ℕ)). t.root ∷ l)
    (sym (append_assoc (nodes t.below) (nodes (forest ts x)) (nodes (forest ts y))))

size_append : (ts : List Tree) (x y : List ℕ) → size (forest ts (x ++ y)) ≡ size (forest ts x) + size (forest ts y)
unfolding forest
size_append ts [] y = omega arith
size_append ts (k ∷ x) y = let h = size_append ts x y in omega arith

few_roots : (ts : List Tree) (x : List ℕ) → length x ≤ size (forest ts x)
unfolding forest
few_roots ts [] = omega arith
few_roots ts (k ∷ x) = let h = few_roots ts x in omega arith

first_tree : (m : List ℕ) (u k : ℕ) (ws : List ℕ) → Good (held m u) → k < 2 * u
    → forest (trees (held m u)) (k ∷ ws) ≡ tree (slot m (index k)).rec (forest (trees (held m u)) (slot m (index k)).kids) (forest (trees (held m u)) ws)
unfolding forest
first_tree m u k ws g h =
    ap (λ i. beside (at leaf (trees (held m u)) i) (forest (trees (held m u)) ws)) (sym (index_even (index k)))
    ∙ ap (λ f. onto f (forest (trees (held m u)) ws)) (view m u (index k) g (omega arith)).tree

below_join : (b : ℕ) (x y : List ℕ) → Below b x → Below b y → Below b (x ++ y)
below_join b [] y p q = q
below_join b (c ∷ x) y p q = (p.0, below_join b x y p.1 q)

-- How many nodes the trees of some handles have, and their records in node order, one after the other
abbrev pub node_count : List ℕ → ℕ → List ℕ → ℕ
node_count m u hs = size (forest (trees (held m u)) hs)

abbrev pub rows_of : List ℕ → ℕ → List ℕ → List ℕ
rows_of m u hs = joined (nodes (forest (trees (held m u)) hs))

-- The first node's record comes first; then its children stand in its place
record Next (m : List ℕ) (u h : ℕ) (hs : List ℕ) : Type 0 where
  pub fine : GoodNode (index h) (slot m (index h))
  pub below : Below (2 * u) ((slot m (index h)).kids ++ hs)
  pub count : node_count m u (h ∷ hs) ≡ suc (node_count m u ((slot m (index h)).kids ++ hs))
  pub rows : rows_of m u (h ∷ hs) ≡ (slot m (index h)).rec ++ rows_of m u ((slot m (index h)).kids ++ hs)

module _ (m : List ℕ) (u : ℕ) (g : Good (held m u)) where
  next : (h : ℕ) (hs : List ℕ) → Below (2 * u) (h ∷ hs) → Next m u h hs
  next h hs b =
      let l = b.0 in
      let v = (view m u (index h) g (omega arith)).fine in
      let ks : List ℕ = (slot m (index h)).kids in
      let f = first_tree m u h hs g l in
      let s = ap size f in let a = size_append (trees (held m u)) ks hs in
      record {
        fine = v;
        below = below_join (2 * u) ks hs (below_more ks (omega arith) v.below) b.1;
        count = omega arith;
        rows = ap (λ t. joined (nodes t)) f ∙ ap (λ (x : List (List ℕ)). (slot m (index h)).rec ++ joined x) (sym (nodes_append (trees (held m u)) ks hs));
      }

  pub length-rows : (n : ℕ) (hs : List ℕ) → node_count m u hs ≤ n → Below (2 * u) hs → length (rows_of m u hs) ≡ 64 * node_count m u hs
  unfolding forest
  length-rows zero [] l b = refl
  length-rows zero (h ∷ hs) l b = absurd (omega arith)
  length-rows (suc n) [] l b = refl
  length-rows (suc n) (h ∷ hs) l b =
      let x = next h hs b in let c = x.count in let e = x.fine.long in
      let r = length-rows n ((slot m (index h)).kids ++ hs) (omega arith) x.below in
      ap length x.rows ∙ length-append (slot m (index h)).rec (rows_of m u ((slot m (index h)).kids ++ hs)) ∙ omega arith

-- ---- the walk

-- What `write` asks: a tree of n nodes at the handle i
pub record Flattens (m : List ℕ) (u i n : ℕ) : Type 0 where
  pub slots : u * slot_size ≤ length m
  pub good : Good (held m u)
  pub here : i < 2 * u
  pub count : n ≡ size (tree_at (held m u) i)
  pub few : n ≤ 126

-- The stack starts at t of w, which has room for every node still to come
pub record Stack (m : List ℕ) (u t : ℕ) (w : List ℕ) : Type 0 where
  pub slots : u * slot_size ≤ length m
  pub good : Good (held m u)
  pub top : t ≤ length w
  pub below : Below (2 * u) (drop t w)
  pub room : node_count m u (drop t w) ≤ length w

-- c records of the rows L are taken, the others are on the stack
pub record Taking (m : List ℕ) (u : ℕ) (L : List ℕ) (c t : ℕ) (w rs : List ℕ) : Type 0 where
  pub few : c ≤ 7
  pub long : length rs ≡ 448
  pub stack : Stack m u t w
  pub done : take (64 * c) rs ++ rows_of m u (drop t w) ≡ L

-- What `take_seven` leaves of the rows L: the first seven are taken, or all there are
pub record Took (m : List ℕ) (u : ℕ) (L : List ℕ) (c t : ℕ) (w rs : List ℕ) : Type 0 where
  pub few : c ≤ 7
  pub stack : Stack m u t w
  pub taken : take (64 * c) rs ≡ take 448 L
  pub left : rows_of m u (drop t w) ≡ drop 448 L

module _ {m : List ℕ} {u t : ℕ} {w : List ℕ} (s : Stack m u t w) (h : t < length w) where
  on_top : drop t w ≡ get_or w t 0 ∷ drop (t + 1) w
  on_top = rw add-one (drop-cons w t 0 h)

  top-next : Next m u (get_or w t 0) (drop (t + 1) w)
  top-next = next m u s.good (get_or w t 0) (drop (t + 1) w) (rw on_top at s.below)

  pub top-here : get_or w t 0 < 2 * u
  top-here = (rw on_top at s.below).0

  pub top_fine : GoodNode (index (get_or w t 0)) (slot m (index (get_or w t 0)))
  top_fine = top-next.fine

  -- there is room for the children
  pub top-room : children (slot m (index (get_or w t 0))).rec ≤ t + 1
  top-room =
      let r = s.room in let x = top-next in let c = x.count in let n = x.fine.count in let e = ap (node_count m u) on_top in
      let f = few_roots (trees (held m u)) ((slot m (index (get_or w t 0))).kids ++ drop (t + 1) w) in
      let a = length-append (slot m (index (get_or w t 0))).kids (drop (t + 1) w) in let d = length-drop (t + 1) w in
      omega arith

  -- what the code lends: 64 * c to 64 * c + 64
  pub taking_more : {L : List ℕ} {c t' : ℕ} {rs w' : List ℕ} (p : List ℕ) → c < 7 → length w' ≡ length w → t' ≤ length w
      → drop t' w' ≡ (slot m (index (get_or w t 0))).kids ++ drop (t + 1) w → p ≡ (slot m (index (get_or w t 0))).rec → Taking m u L c t w rs
      → Taking m u L (c + 1) t' w' (splice rs (64 * c) (64 * c + 64 - 64 * c) p)
  taking_more {L} {c} {t'} {rs} {w'} p hc lw ht e ep k =
      let x = top-next in let g = k.long in let r = s.room in let n = x.count in let o = ap (node_count m u) on_top in
      let lp : length p ≡ 64 = ap length ep ∙ x.fine.long in
      let q : 64 * (c + 1) ≡ 64 * c + 64 = omega arith in let z : 64 * c + 64 - 64 * c ≡ 64 = omega arith in
      let rec : List ℕ = (slot m (index (get_or w t 0))).rec in
      let R : List ℕ = rows_of m u ((slot m (index (get_or w t 0))).kids ++ drop (t + 1) w) in
      rw z record {
        few = omega arith;
        long = splice-length rs p (64 * c) 64 (omega arith) lp ∙ g;
        stack = record { slots = s.slots; good = s.good; top = omega arith; below = rw e x.below; room = rw (e, lw) (omega arith) };
        done = ap₂ (λ (x : ℕ) (y : List ℕ). take x (splice rs (64 * c) 64 p) ++ rows_of m u y) q e
            ∙ ap (λ (x : List ℕ). x ++ R) (splice-take rs p (64 * c) 64 (omega arith) lp ∙ ap (λ (x : List ℕ). take (64 * c) rs ++ x) ep)
            ∙ append_assoc (take (64 * c) rs) rec R
            ∙ ap (λ (x : List ℕ). take (64 * c) rs ++ x) (sym (ap (rows_of m u) on_top ∙ x.rows)) ∙ k.done;
      }

module _ {m : List ℕ} {u : ℕ} {L : List ℕ} {c t : ℕ} {w rs : List ℕ} (k : Taking m u L c t w rs) where
  pub took_seven : 7 ≤ c → Took m u L c t w rs
  took_seven h =
      let f = k.few in let g = k.long in
      let n : length (take (64 * c) rs) ≡ 448 = length-take-le (64 * c) rs (omega arith) ∙ omega arith in
      record {
        few = f;
        stack = k.stack;
        taken = sym (ap (take 448) (sym k.done) ∙ take_at (take (64 * c) rs) (rows_of m u (drop t w)) 448 n);
        left = sym (ap (drop 448) (sym k.done) ∙ drop_at (take (64 * c) rs) (rows_of m u (drop t w)) 448 n);
      }

  -- the stack is empty
  pub took_all : length w ≤ t → Took m u L c t w rs
  unfolding forest
  took_all h =
      let f = k.few in
      let r : rows_of m u (drop t w) ≡ [] = ap (rows_of m u) (drop_of_length-le w {i = t} h) in
      let d : take (64 * c) rs ≡ L = sym (append-nil (take (64 * c) rs)) ∙ ap (λ (x : List ℕ). take (64 * c) rs ++ x) (sym r) ∙ k.done in
      let n : length L ≤ 448 = rw (← d, length-take) (omega arith) in
      record { few = f; stack = k.stack; taken = d ∙ sym (take_all 448 L n); left = r ∙ sym (drop_of_length-le L {i = 448} n) }
