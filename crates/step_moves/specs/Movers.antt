-- The node that moves next: what its row in the table and its slot say of it. Assumes nothing.
use Rattle.std.specs.Prelude.{◌≡◌, refl, Bool, true, false, cond, not, ◌&&◌, ◌||◌, List, [], ◌∷◌, ◌++◌, ℕ, zero, suc, ◌+◌, ◌-◌, ◌<◌, ◌≤◌, length, get_or}
use Rattle.std.proofs.Common.{sym, ap, ap₂, ◌∙◌, subst, arith, length-append, get_or-append-add}
use Rattle.std.proofs.lemmas.Bool.{not-true, not-false}
use Rattle.row_order.proofs.Order.{no_bool}
use Rattle.row_order.specs.Lists.{tab}
use Rattle.row_order.specs.ListLaws.{get_or-tab}
use Rattle.plan.specs.Forest.{Forest, none, tree, size}
use Rattle.plan.specs.Op.{Op, Plan}
use Rattle.semantics.specs.Facts.{is_nil, facts_op, facts}
use Rattle.stepping.specs.Outlets.{Outlet}
use Rattle.stepping.specs.Moves.{Manner, still, passing, merging, sorting, manner, way, choices, moves}
use Rattle.step_tables.specs.Places.{kind_of, total, inner, Node, node_of, nodes_at, Tables, Shows, shows_tree}
use Rattle.step_tables.specs.Shown.{inputs_are, tab_ext}
use Rattle.step_tables.specs.Choosing.{waits_at, served_at, any_from, all_from, chosen_from, flags_at, streams_at}
use Rattle.step_tables.specs.Opened.{Opened, fill_all, all_open}
use Rattle.step_tables.specs.Movers.{may_move, may_move_lem, movers}
use Rattle.step_tables.specs.Passes.{node_in, held_at, node_may}
use Rattle.step_tables.specs.declared.StepNode.{StepNode}
use Rattle.step_tables.specs.Draws.{drawn_value}
use Rattle.step_tables.proofs.Spots.{Spot, Stands, stands_here, stands_below, stands_beside, choices_of, can, numbers_from, can-moves, Chosen, nth}
use Rattle.step_tables.proofs.Standing.{outs_of, ins_of, spot_shows, spot_opened, can-movers, numbers_chosen}
use Rattle.step_tables.proofs.ChosenMoves.{drawn_below}
use Rattle.step_tables.specs.Waiting.{held_waits}
use Rattle.step_tables.specs.Layout.{length_nodes, listed_are}
use Rattle.step_tables.proofs.NodeMay.{may_node_lem}
use Rattle.step_nodes.specs.Layout.{subtrees}
use Rattle.step_nodes.specs.Slots.{NodeAt, slot_at}
use Rattle.step_choices.specs.Choosing.{opened, movable}
use Rattle.step_moves.specs.Running.{Book, tables_of, Seated, Running}

-- ---- a node that stands in a forest is at its number in the lists by node order
get_or_left : {A : Type 0} (l m : List A) (j : ℕ) (d : A) → j < length l → get_or (l ++ m) j d ≡ get_or l j d
get_or_left [] m j d h = absurd (omega arith)
get_or_left (x ∷ l) m zero d h = refl
get_or_left (x ∷ l) m (suc j) d h = get_or_left l m j d (omega arith)

get_or-right : {A : Type 0} (l m : List A) (j : ℕ) (d : A) → get_or (l ++ m) (length l + j) d ≡ get_or m j d
get_or-right l m j d = get_or-append-add l m j d

length-trees : (f : Plan) → length (subtrees f) ≡ size f
length-trees none = refl
length-trees (tree o c r) = ap suc (length-append (subtrees c) (subtrees r) ∙ ap₂ ◌+◌ (length-trees c) (length-trees r))

blank : Node
blank = record { kind = 0; straight_on = false; out = 0; outs = 0; inp = 0; inps = 0; above = 0 }

record Listing (p n a b : ℕ) (f : Plan) (s : Spot) (k : ℕ) : Type 0 where
  number_is : s.number ≡ n + k
  below : k < size f
  node : get_or (nodes_at p n a b f) k blank ≡ node_of s.above s.out s.inp s.op s.kids
  tree_is : get_or (subtrees f) k none ≡ tree s.op s.kids none

listing : {p n a b : ℕ} {f : Plan} {st : Forest Outlet} {s : Spot} → Stands p n a b f st s → (k : ℕ) × Listing p n a b f s k
listing stands_here = (0, record { number_is = omega arith; below = omega arith; node = refl; tree_is = refl })
listing {p} {n} {a} {b} {s = s} (stands_below {o = o} {c = c} {r = r} h) =
    let x = listing h in
    let k = x.0 in
    let l = x.1 in (
      suc k,
      record {
        number_is = omega (arith, l.number_is);
        below = omega (arith, l.below);
        node = get_or_left (nodes_at n (suc n) b (b + total (facts c)) c)
            (nodes_at p (suc n + size c) (a + (facts_op o (facts c)).streams) (b + total (facts c) + inner c) r) k blank (omega (arith, l.below, length_nodes n (suc n) b (b + total (facts c)) c)) ∙ l.node;
        tree_is = get_or_left (subtrees c) (subtrees r) k none (omega (arith, l.below, length-trees c)) ∙ l.tree_is;
      },
    )
listing {p} {n} {a} {b} {s = s} (stands_beside {o = o} {c = c} {r = r} h) =
    let x = listing h in
    let k = x.0 in
    let l = x.1 in
    let e₁ : size c + k ≡ length (nodes_at n (suc n) b (b + total (facts c)) c) + k = omega (arith, length_nodes n (suc n) b (b + total (facts c)) c) in
    let e₂ : size c + k ≡ length (subtrees c) + k = omega (arith, length-trees c) in (
      suc (size c + k),
      record {
        number_is = omega (arith, l.number_is);
        below = omega (arith, l.below);
        node = ap (λ (j : ℕ). get_or (nodes_at n (suc n) b (b + total (facts c)) c
            ++ nodes_at p (suc n + size c) (a + (facts_op o (facts c)).streams) (b + total (facts c) + inner c) r) j blank) e₁
            ∙ get_or-right (nodes_at n (suc n) b (b + total (facts c)) c)
            (nodes_at p (suc n + size c) (a + (facts_op o (facts c)).streams) (b + total (facts c) + inner c) r) k blank ∙ l.node;
        tree_is = ap (λ (j : ℕ). get_or (subtrees c ++ subtrees r) j none) e₂ ∙ get_or-right (subtrees c) (subtrees r) k none ∙ l.tree_is;
      },
    )

-- ---- an operator that can move has a row
and_last : (a b : Bool) → a && b ≡ true → b ≡ true
and_last true b e = e
and_last false b e = no_bool e

pub record Moves (m : Manner) (some : Bool) : Type 0 where
  pub not-still : 0 < kind_of m
  pub has : some ≡ true

may_has : (m : Manner) (fl : List Bool) (w : ℕ → Bool) (some : Bool) (g n : ℕ) → may_move m fl w some g n ≡ true → Moves m some
may_has still fl w some g n e = no_bool e
may_has passing fl w some g n e = record { not-still = omega arith; has = e }
may_has (merging ks) fl w some g n e = record { not-still = omega arith; has = and_last (all_from (served_at fl w) g n) some e }
may_has (sorting p ks) fl w some g n e = record { not-still = omega arith; has = and_last (not (any_from (λ x. get_or fl x false) g n)) some e }

-- ---- the node that moves next
pub record Next (m : List ℕ) (u : ℕ) (slots : List ℕ) (nodes : List StepNode) (f : Plan) (B : Book) (st : Forest Outlet) (fl : List Bool) (bytes : List ℕ) (b j : ℕ) : Type 0 where
  pub ch : Chosen (size f) 0 0 (total (facts f)) f st (drawn_value bytes b (length (moves f st)))
  pub number : ch.spot.number ≡ j
  pub below : j < size f
  pub row : node_in nodes j ≡ node_of ch.spot.above ch.spot.out ch.spot.inp ch.spot.op ch.spot.kids
  pub slot : NodeAt m u (get_or slots j 0) ch.spot.op ch.spot.kids
  pub opens : Opened (opened nodes (size f) fl B.held) 0 (total (facts f)) f st
  pub can_move : Moves (manner ch.spot.op (facts ch.spot.kids)) (any_from (waits_at B.places B.order) ch.spot.inp (ins_of ch.spot))

module _ (m : List ℕ) (u : ℕ) (slots : List ℕ) (nodes : List StepNode) (f : Plan) (len done : ℕ) (B : Book) (st : Forest Outlet) (fl : List Bool)
    (S : Seated m u slots nodes f len) (R : Running f nodes len done B st) (long : length fl ≡ len) where
  pub waits : waits_at B.places B.order ≡ held_at B.held
  waits = held_waits B.places B.order R.complete R.known B.held R.held_are

  pub is_open : Opened (opened nodes (size f) fl B.held) 0 (total (facts f)) f st
  is_open =
      subst (λ (z : List Bool). Opened z 0 (total (facts f)) f st)
      (ap₂ (λ (w : ℕ → Bool) (l : List Node). fill_all w l fl) waits (sym (listed_are nodes (size f) 0 (total (facts f)) f S.listed)))
      (all_open S.formed R.shows (size f) fl (omega arith) (omega (arith, S.past, long)))

  -- the numbers of those that can move
  pub movable_is : movable nodes (size f) fl B.held B.queued ≡ numbers_from 0 (can f st)
  movable_is =
      sym (numbers_chosen (node_may nodes O B.held B.queued) 0 (size f))
      ∙ ap (numbers_from 0) (tab_ext (size f) (λ i. node_may nodes O B.held B.queued (0 + i)) (node_may nodes O B.held B.queued)
      (λ i h. let e : 0 + i ≡ i = omega arith in ap (node_may nodes O B.held B.queued) e)
      ∙ may_node_lem nodes (size f) f O B.held B.queued B.places B.order S.listed R.held_are R.queued_are R.complete R.known
      ∙ sym (can-movers R.shows is_open))
    where
      O : List Bool
      O = opened nodes (size f) fl B.held

  pub movers_are : length (movable nodes (size f) fl B.held B.queued) ≡ length (moves f st)
  movers_are = ap length movable_is ∙ can-moves 0 f st

  pub next_is : (bytes : List ℕ) (b mv j : ℕ) → mv ≡ length (movable nodes (size f) fl B.held B.queued) → 0 < mv →
      j ≡ get_or (movable nodes (size f) fl B.held B.queued) (drawn_value bytes b mv) 0 → Next m u slots nodes f B st fl bytes b j
  next_is bytes b mv j e h q = go (nth R.shows (size f) (drawn_value bytes b (length (moves f st))) (drawn_below bytes b (length (moves f st)) (omega (arith, e, movers_are))))
    where
      go : Chosen (size f) 0 0 (total (facts f)) f st (drawn_value bytes b (length (moves f st))) → Next m u slots nodes f B st fl bytes b j
      go ch =
          let x = listing ch.stands in
          let l = x.1 in
          let same : ch.spot.number ≡ j =
          ch.number_is ∙ ap₂ (λ (ns : List ℕ) (v : ℕ). get_or ns v 0) (sym movable_is) (ap (drawn_value bytes b) (sym (e ∙ movers_are))) ∙ sym q in
          let k : x.0 ≡ j = omega (arith, l.number_is, same) in
          record {
            ch = ch;
            number = same;
            below = omega (arith, l.below, k);
            row = sym (get_or-tab (size f) (node_in nodes) blank j (omega (arith, l.below, k)))
                ∙ ap (λ (ns : List Node). get_or ns j blank) (listed_are nodes (size f) 0 (total (facts f)) f S.listed)
                ∙ ap (λ (i : ℕ). get_or (nodes_at (size f) 0 0 (total (facts f)) f) i blank) (sym k) ∙ l.node;
            slot = slot_at m u slots f S.arena S.slotted j (omega (arith, l.below, k)) ch.spot.op ch.spot.kids
                (ap (λ (i : ℕ). get_or (subtrees f) i none) (sym k) ∙ l.tree_is);
            opens = is_open;
            can_move = has ch (spot_shows ch.stands R.shows);
          }
        where
          has : (ch : Chosen (size f) 0 0 (total (facts f)) f st (drawn_value bytes b (length (moves f st)))) →
              Shows (tables_of B) ch.spot.number ch.spot.out ch.spot.inp (tree ch.spot.op ch.spot.kids ch.spot.rest)
              (tree ch.spot.outlet ch.spot.sub ch.spot.right) →
              Moves (manner ch.spot.op (facts ch.spot.kids)) (any_from (waits_at B.places B.order) ch.spot.inp (ins_of ch.spot))
          has ch (shows_tree w t y z) =
              may_has (manner ch.spot.op (facts ch.spot.kids)) (opened nodes (size f) fl B.held) (waits_at B.places B.order)
              (any_from (waits_at B.places B.order) ch.spot.inp (ins_of ch.spot)) ch.spot.inp (ins_of ch.spot)
              (sym (may_move_lem (manner ch.spot.op (facts ch.spot.kids)) (tables_of B).rows (opened nodes (size f) fl B.held) B.places B.order ch.spot.inp (ins_of ch.spot))
              ∙ sym (ap₂ (λ fs ss. not (is_nil (choices (manner ch.spot.op (facts ch.spot.kids)) fs ss))) (spot_opened ch.stands is_open) (inputs_are y))
              ∙ ap not ch.some)
