-- The flags after one pass from the last node to the first are the definition's open streams. Assumes nothing.
use Rattle.std.specs.Prelude.{◌≡◌, refl, Bool, true, false, cond, not, ◌&&◌, ◌||◌, ◌⊎◌, List, [], ◌∷◌, ◌++◌, map, ℕ, zero, suc, ◌+◌, ◌-◌, ◌<◌, ◌≤◌, length, get_or}
use Rattle.std.proofs.Common.{sym, ap, ap₂, ◌∙◌, subst, inl, inr, arith}
use Rattle.row_order.specs.Iso.{Row}
use Rattle.row_order.specs.Lists.{tab, concat}
use Rattle.plan.specs.Forest.{Forest, none, tree, roots, size}
use Rattle.plan.specs.Op.{Op, source, filter, projection, union, repartition, coalesce, sort_op, merge_op, global_limit, local_limit, sort_merge_join, hash_join, output_requirement, partial_sort, aggregate, Plan}
use Rattle.semantics.specs.Facts.{Facts, union_facts, at0, sort_streams, facts_op, facts}
use Rattle.semantics.specs.Properties.{any_of}
use Rattle.semantics.specs.Runs.{Streams}
use Rattle.stepping.specs.Outlets.{Outlet, inputs}
use Rattle.stepping.specs.Moves.{Way, straight, gathered, scattered, way, sort_way, reach, live, opens}
use Rattle.stepping.proofs.Theorems.Formed.{Formed, Steppable, steppable-none, steppable-tree}
use Rattle.step_tables.specs.Places.{total, inner, is_straight, Node, nodes_at, Tables, Shows, shows_none, shows_tree}
use Rattle.step_tables.specs.Shown.{tab_ext, tab_append, inputs_are}
use Rattle.step_tables.specs.Choosing.{waits_at, streams_at, flags_at, live_at, any_from, live_are, any_live_is}
use Rattle.step_tables.specs.Filling.{write_tab, length_write, write_else, write_here, out_flag, fill_node}

-- ---- a node's streams, by its way
abbrev pub Fits : Way → ℕ → ℕ → Type 0
Fits straight s n = s ≡ n
Fits gathered s n = s ≡ 1
Fits (scattered k) s n = s ≡ k

pub union_streams : (F : Facts) (fs : List Facts) → (union_facts (F ∷ fs)).streams ≡ total (F ∷ fs)
union_streams F [] = omega arith
union_streams F (G ∷ fs) = omega (arith, union_streams G fs)

one_child : (c : Plan) → length (roots c) ≡ 1 → (at0 (facts c)).streams ≡ total (facts c)
one_child none h = absurd (omega arith)
one_child (tree o c none) h = omega arith
one_child (tree o c (tree p d r)) h = absurd (omega arith)

many_children : (c : Plan) → 2 ≤ length (roots c) → (union_facts (facts c)).streams ≡ total (facts c)
many_children none h = absurd (omega arith)
many_children (tree o c r) h = union_streams (facts_op o (facts c)) (facts r)

sort_fits : (p : Bool) (c : Plan) → length (roots c) ≡ 1 → Fits (sort_way p) (sort_streams p (at0 (facts c))) (total (facts c))
sort_fits true c h = one_child c h
sort_fits false c h = refl

pub way_fits : (o : Op) (c : Plan) → Formed o (length (roots c)) → Fits (way o) (facts_op o (facts c)).streams (total (facts c))
way_fits (source s) c h = refl
way_fits filter c h = one_child c h
way_fits (projection cols) c h = one_child c h
way_fits union c h = many_children c h
way_fits (repartition p n k ks) c h = refl
way_fits (coalesce f) c h = refl
way_fits (sort_op p ks f) c h = sort_fits p c h
way_fits (merge_op ks f) c h = refl
way_fits (global_limit s f note) c h = refl
way_fits (local_limit f note) c h = one_child c h
way_fits (sort_merge_join t keys) c h = absurd h
way_fits (hash_join t keys) c h = absurd h
way_fits (output_requirement ks d f) c h = one_child c h
way_fits (partial_sort p ks n f) c h = sort_fits p c h
way_fits (aggregate ks n) c h = absurd h

-- ---- one node
reach-tab : (w : Way) (s n : ℕ) (p : ℕ → Bool) (any : Bool) → Fits w s n → any_of (tab n p) ≡ any → reach w (tab n p) ≡ tab s (λ k. cond (is_straight w) (p k) any)
reach-tab straight s n p any h e = ap (λ (k : ℕ). tab k p) (sym h)
reach-tab gathered s n p any h e = ap (λ (b : Bool). b ∷ []) e ∙ ap (λ (k : ℕ). tab k (λ x. any)) (sym h)
reach-tab (scattered k) s n p any h e = ap (λ (b : Bool). tab k (λ x. b)) e ∙ ap (λ (j : ℕ). tab j (λ x. any)) (sym h)

pub node_filled : (w : Way) (rows : ℕ → Row) (pl order : List ℕ) (fl : List Bool) (a s g n : ℕ) (os : List Bool) (ins : Streams) → Fits w s n → a + s ≤ length fl →
    os ≡ flags_at fl g n → ins ≡ streams_at rows pl order g n → reach w (live os ins) ≡ flags_at (fill_node (is_straight w) a s g n (waits_at pl order) fl) a s
node_filled w rows pl order fl a s g n os ins h r e f =
    ap (reach w) (ap₂ live e f ∙ live_are rows fl pl order g n)
    ∙ reach-tab w s n (λ i. live_at fl (waits_at pl order) (g + i)) (any_from (live_at fl (waits_at pl order)) g n) h (sym (ap any_of (live_are rows fl pl order g n)) ∙ any_live_is rows fl pl order g n)
    ∙ tab_ext s (out_flag (is_straight w) fl (waits_at pl order) g n) (λ k. get_or (fill_node (is_straight w) a s g n (waits_at pl order) fl) (a + k) false)
    (λ k l. sym (write_here a (out_flag (is_straight w) fl (waits_at pl order) g n) s fl k l r))

-- ---- all nodes

-- The pass: the last node first
abbrev pub fill_all : (ℕ → Bool) → List Node → List Bool → List Bool
fill_all w [] fl = fl
fill_all w (x ∷ l) fl = fill_node x.straight_on x.out x.outs x.inp x.inps w (fill_all w l fl)

fill_append : (w : ℕ → Bool) (l m : List Node) (fl : List Bool) → fill_all w (l ++ m) fl ≡ fill_all w l (fill_all w m fl)
fill_append w [] m fl = refl
fill_append w (x ∷ l) m fl = ap (fill_node x.straight_on x.out x.outs x.inp x.inps w) (fill_append w l m fl)

length-fill : (w : ℕ → Bool) (l : List Node) (fl : List Bool) → length (fill_all w l fl) ≡ length fl
length-fill w [] fl = refl
length-fill w (x ∷ l) fl =
    length_write x.out (out_flag x.straight_on (fill_all w l fl) w x.inp x.inps) x.outs (fill_all w l fl) ∙ length-fill w l fl

-- The same flags from lo on, below hi
abbrev pub Agree : List Bool → List Bool → ℕ → ℕ → Type 0
Agree fl fl' lo hi = (x : ℕ) → lo ≤ x → x < hi → get_or fl' x false ≡ get_or fl x false

-- A pass over a forest leaves all else
fill_else : (w : ℕ → Bool) (p n a b : ℕ) (f : Plan) (fl : List Bool) (x : ℕ) → (x < a) ⊎ (a + total (facts f) ≤ x) → (x < b) ⊎ (b + inner f ≤ x) →
    get_or (fill_all w (nodes_at p n a b f) fl) x false ≡ get_or fl x false
fill_else w p n a b none fl x h k = refl
fill_else w p n a b (tree o c r) fl x h k =
    write_else a (out_flag (is_straight (way o)) (fill_all w (nodes_at n (suc n) b (b + t) c ++ nodes_at p (suc n + size c) (a + s) (b + t + inner c) r) fl) w b t) s
    (fill_all w (nodes_at n (suc n) b (b + t) c ++ nodes_at p (suc n + size c) (a + s) (b + t + inner c) r) fl) x (own h)
    ∙ ap (λ q. get_or q x false) (fill_append w (nodes_at n (suc n) b (b + t) c) (nodes_at p (suc n + size c) (a + s) (b + t + inner c) r) fl)
    ∙ fill_else w n (suc n) b (b + t) c (fill_all w (nodes_at p (suc n + size c) (a + s) (b + t + inner c) r) fl) x (first k) (second k)
    ∙ fill_else w p (suc n + size c) (a + s) (b + t + inner c) r fl x (rest h) (below k)
  where
    s : ℕ
    s = (facts_op o (facts c)).streams

    t : ℕ
    t = total (facts c)

    own : (x < a) ⊎ (a + (s + total (facts r)) ≤ x) → (x < a) ⊎ (a + s ≤ x)
    own (inl l) = inl l
    own (inr l) = inr (omega arith)

    rest : (x < a) ⊎ (a + (s + total (facts r)) ≤ x) → (x < a + s) ⊎ (a + s + total (facts r) ≤ x)
    rest (inl l) = inl (omega arith)
    rest (inr l) = inr (omega arith)

    first : (x < b) ⊎ (b + (t + (inner c + inner r)) ≤ x) → (x < b) ⊎ (b + t ≤ x)
    first (inl l) = inl l
    first (inr l) = inr (omega arith)

    second : (x < b) ⊎ (b + (t + (inner c + inner r)) ≤ x) → (x < b + t) ⊎ (b + t + inner c ≤ x)
    second (inl l) = inl (omega arith)
    second (inr l) = inr (omega arith)

    below : (x < b) ⊎ (b + (t + (inner c + inner r)) ≤ x) → (x < b + t + inner c) ⊎ (b + t + inner c + inner r ≤ x)
    below (inl l) = inl (omega arith)
    below (inr l) = inr (omega arith)

-- ---- the flags are right at every node
pub data Opened (fl : List Bool) : ℕ → ℕ → Plan → Forest Outlet → Type 0 where
  opened_none : {a b : ℕ} → Opened fl a b none none
  opened_tree : {a b : ℕ} {o : Op} {c r : Plan} {d : Outlet} {sc sr : Forest Outlet} →
      reach (way o) (live (concat (opens c sc)) (inputs (facts c) (roots sc))) ≡ flags_at fl a (facts_op o (facts c)).streams →
      Opened fl b (b + total (facts c)) c sc → Opened fl (a + (facts_op o (facts c)).streams) (b + total (facts c) + inner c) r sr →
      Opened fl a b (tree o c r) (tree d sc sr)

pub opened_roots : {fl : List Bool} {a b : ℕ} {f : Plan} {st : Forest Outlet} → Opened fl a b f st → concat (opens f st) ≡ flags_at fl a (total (facts f))
opened_roots opened_none = refl
opened_roots {fl} {a} (opened_tree {o = o} {c = c} {r = r} e p q) =
    ap₂ ◌++◌ e (opened_roots q ∙ tab_ext (total (facts r)) (λ i. get_or fl (a + (facts_op o (facts c)).streams + i) false) (λ i. get_or fl (a + ((facts_op o (facts c)).streams + i)) false)
    (λ i h. let z : a + (facts_op o (facts c)).streams + i ≡ a + ((facts_op o (facts c)).streams + i) = omega arith in ap (λ (x : ℕ). get_or fl x false) z))
    ∙ sym (tab_append (facts_op o (facts c)).streams (total (facts r)) (λ i. get_or fl (a + i) false))

opened_kept : {fl fl' : List Bool} {a b : ℕ} {f : Plan} {st : Forest Outlet} → Agree fl fl' a (a + total (facts f)) → Agree fl fl' b (b + inner f) → Opened fl a b f st → Opened fl' a b f st
opened_kept g h opened_none = opened_none
opened_kept {fl} {fl'} {a} {b} g h (opened_tree {o = o} {c = c} {r = r} e p q) =
    opened_tree
    (e ∙ tab_ext (facts_op o (facts c)).streams (λ i. get_or fl (a + i) false) (λ i. get_or fl' (a + i) false) (λ i l. sym (g (a + i) (omega arith) (omega arith))))
    (opened_kept (λ x l u. h x l (omega arith)) (λ x l u. h x (omega arith) (omega arith)) p)
    (opened_kept (λ x l u. g x (omega arith) (omega arith)) (λ x l u. h x (omega arith) (omega arith)) q)

pub all_open : {T : Tables} {n a b : ℕ} {f : Plan} {st : Forest Outlet} → Steppable f → Shows T n a b f st → (u : ℕ) (fl : List Bool) → a + total (facts f) ≤ b → b + inner f ≤ length fl →
    Opened (fill_all (waits_at T.places T.order) (nodes_at u n a b f) fl) a b f st
all_open s shows_none u fl h k = opened_none
all_open {T} {n} {a} {b} (steppable-tree m s₁ s₂) (shows_tree {o = o} {c = c} {r = r} {d = d} {sc = sc} {sr = sr} w y p q) u fl h k =
    let or : Opened flr (a + S) (b + t + inner c) r sr = all_open s₂ q u fl (omega arith) (omega arith) in
    let oc : Opened flc b (b + t) c sc = all_open s₁ p n flr (omega arith) (omega (arith, lr)) in
    subst (λ (z : List Bool). Opened (fill_node (is_straight (way o)) a S b t waits z) a b (tree o c r) (tree d sc sr)) (sym (fill_append waits (nodes_at n (suc n) b (b + t) c) (nodes_at u (suc n + size c) (a + S) (b + t + inner c) r) fl))
    (opened_tree
    (node_filled (way o) T.rows pl order flc a S b t (concat (opens c sc)) (inputs (facts c) (roots sc)) (way_fits o c m) (omega (arith, lc, lr)) (opened_roots oc) (inputs_are p))
    (opened_kept (λ x l u. write_else a p' S flc x (inr (omega arith))) (λ x l u. write_else a p' S flc x (inr (omega arith))) oc)
    (opened_kept
    (λ x l u. write_else a p' S flc x (inr l) ∙ fill_else waits n (suc n) b (b + t) c flr x (inl (omega arith)) (inl (omega arith)))
    (λ x l u. write_else a p' S flc x (inr (omega arith)) ∙ fill_else waits n (suc n) b (b + t) c flr x (inr (omega arith)) (inr l))
    or))
  where
    S : ℕ
    S = (facts_op o (facts c)).streams

    t : ℕ
    t = total (facts c)

    pl : List ℕ
    pl = T.places

    order : List ℕ
    order = T.order

    waits : ℕ → Bool
    waits = waits_at pl order

    flr : List Bool
    flr = fill_all waits (nodes_at u (suc n + size c) (a + S) (b + t + inner c) r) fl

    flc : List Bool
    flc = fill_all waits (nodes_at n (suc n) b (b + t) c) flr

    p' : ℕ → Bool
    p' = out_flag (is_straight (way o)) flc waits b t

    lr : length flr ≡ length fl
    lr = length-fill waits (nodes_at u (suc n + size c) (a + S) (b + t + inner c) r) fl

    lc : length flc ≡ length flr
    lc = length-fill waits (nodes_at n (suc n) b (b + t) c) flr
