-- The recursion of remove_corresponding_sort_from_sub_plan.
use Rattle.std.specs.Prelude.{◌≡◌, refl, Bool, true, false, cond, List, ℕ, suc, ◌+◌, ◌*◌, ◌≤◌, ◌<◌, length, get_or, take, drop, set, Option, Some, None, is_some}
use Rattle.std.proofs.Common.{sym, ap, ap₂, ◌∙◌, subst, add-one}
use native.Mathlib.Omega.{arith}
use Rattle.row_order.proofs.Order.{no_bool}
use Rattle.plan.specs.Forest.{Forest, size}
use Rattle.plan.specs.Op.{Op, sort_op}
use Rattle.plan.specs.Numbers.{code}
use Rattle.plan_codec.specs.NodeRecord.{NodeRecord}
use Rattle.plan_codec.specs.Decode.{from_bytes, decode}
use Rattle.semantics.specs.Properties.{singles}
use Rattle.arena.specs.Arena.{slot_size, index, marked, slot}
use Rattle.arena.specs.declared.At.{At}
use Rattle.arena.specs.Laws.{below_at}
use Rattle.walks.specs.Marks.{Marked, Tree, node, plant, op_t, size_t, set_mark, kid0, shape}
use Rattle.walks.specs.Terms.{◌⊕◌}
use Rattle.walks.specs.Trees.{OkT}
use Rattle.walks.specs.EnsureSorting.{with_single_stream, drop_sort, remove_by, remove_top, remove_kids}
use Rattle.plan_context.specs.View.{tree_of, forest, most_nodes, most_slots, Arena, Same, Grown}
use Rattle.plan_context.specs.Laws.{same_trans}
use Rattle.plan_context.specs.Nodes.{Seen}
use Rattle.plan_updates.specs.Kids.{Kids, kids_none, kids_more, kids_forest}
use Rattle.plan_context.specs.Handles.{kid_is}
use Rattle.plan_updates.specs.From.{from, from_first, from_next}
use Rattle.plan_context.specs.Summaries.{drop-size}
use Rattle.plan_updates.specs.ChildLoop.{half, view, whole, same_slot, same_kids, kid_below, split, counted, new_below, new_kids}
use Rattle.sort_connection.specs.Standing.{Standing, own_over, own_proper, sort_op_lem, one_kid_lem}
use Rattle.sort_removal.specs.Sizes.{kids_size, by_size}
use Rattle.sort_removal.specs.SingleStream.{AsksSingleStream}
use Rattle.sort_removal.specs.Removing.{remove_one, one_ok, Rems, Removed}

pub record Removes (b : List ℕ) (u h : ℕ) : Type 0 where
  pub arena : Arena b u
  pub here : h < 2 * u
  pub room : (u + 2 * size_t (tree_of b h)) * slot_size ≤ length b
  pub small : u + 2 * size_t (tree_of b h) ≤ most_slots
  pub few : 2 * size_t (tree_of b h) ≤ most_nodes

-- The first j children are done
pub record Going (b₀ : List ℕ) (u h j w : ℕ) (kids b : List ℕ) : Type 0 where
  pub made : Kids b₀ u j w kids b
  pub is : forest b (take j kids) ⊕ remove_kids (from (singles (decode (slot b₀ (index h)).rec)) j) (forest b₀ (drop j (slot b₀ (index h)).kids))
      ≡ remove_kids (singles (decode (slot b₀ (index h)).rec)) (forest b₀ (slot b₀ (index h)).kids)
  pub left : w + 2 * size (forest b₀ (drop j (slot b₀ (index h)).kids)) ≤ u + 2 * size (forest b₀ (slot b₀ (index h)).kids)

drop_some : (f : Option ℕ) (t : Tree) → is_some f ≡ true → drop_sort f t ≡ t
drop_some None t e = no_bool e
drop_some (Some n) t e = refl

drop_none : (f : Option ℕ) (t : Tree) → is_some f ≡ false → drop_sort f t ≡ kid0 t t.kids
drop_none None t e = refl
drop_none (Some n) t e = no_bool (sym e)

module _ (b₀ : List ℕ) (u h : ℕ) (p : Removes b₀ u h) where
  abbrev hs : List ℕ
  hs = (slot b₀ (index h)).kids

  abbrev o : Op
  o = decode (slot b₀ (index h)).rec

  abbrev c₀ : Forest Marked
  c₀ = forest b₀ (slot b₀ (index h)).kids

  pub standing : Standing b₀ u h
  standing = record { arena = p.arena; here = p.here }

  abbrev seen : Seen b₀ (index h)
  seen = view p.arena p.here

  abbrev sized : size_t (tree_of b₀ h) ≡ suc (size (forest b₀ (slot b₀ (index h)).kids))
  sized = whole p.arena p.here

  -- an unmarked node stays
  pub unmarked : (s : Bool) → marked h ≡ false → Grown b₀ u b₀ (record { used = u; root = h }) (remove_one s (tree_of b₀ h)) (u + 2 * size_t (tree_of b₀ h))
  unmarked s z =
      record {
        arena = p.arena;
        old = refl;
        more = omega arith;
        here = p.here;
        tree = sym (ap (λ m. cond m (remove_top s t.top t.kids (remove_kids (singles (op_t t)) t.kids)) t) z);
        room = omega arith;
      }
    where
      t : Tree
      t = tree_of b₀ h

  -- a marked one
  module _ (s : Bool) (z : marked h ≡ true) where
    now : remove_one s (tree_of b₀ h) ≡ with_single_stream s (Removed b₀ h)
    now = ap₂ (λ m t. remove_one s (set_mark m t)) z seen.tree

    new_ok : OkT (with_single_stream s (Removed b₀ h))
    new_ok = subst OkT now (one_ok s (tree_of b₀ h) (p.arena.all (index h) (half p.arena p.here)).proper.ok)

    -- a tree in its place, and one stream of it
    pub place_asks : (b : List ℕ) (w k : ℕ) → Arena b w → k < 2 * w → length b ≡ length b₀ → w < u + 2 * size_t (tree_of b₀ h) → tree_of b k ≡ Removed b₀ h
        → AsksSingleStream b w k s
    place_asks b w k a l e f q =
        let r = p.room in let m = p.small in let n = p.few in let t = sized in let y = ap size_t q in
        let x = by_size (shape o) (record { op = o; mark = true }) c₀ (remove_kids (singles o) c₀) (kids_size (singles o) c₀) in
        record {
          arena = a;
          here = l;
          room = omega arith;
          small = omega arith;
          ok = subst (λ t. OkT (with_single_stream s t)) (sym q) new_ok;
          few = omega arith;
        }

    pub place_grown : (b : List ℕ) (w k : ℕ) → Same u b₀ b → u ≤ w → w < u + 2 * size_t (tree_of b₀ h) → tree_of b k ≡ Removed b₀ h → (b' : List ℕ) (a : At)
        → Grown b w b' a (with_single_stream s (tree_of b k)) (w + 1) → Grown b₀ u b' a (remove_one s (tree_of b₀ h)) (u + 2 * size_t (tree_of b₀ h))
    place_grown b w k e l f q b' a g =
        let x = g.more in let y = g.room in
        record {
          arena = g.arena;
          old = same_trans u w b₀ b b' l e g.old;
          more = omega arith;
          here = g.here;
          tree = g.tree ∙ ap (with_single_stream s) q
              ∙ sym now;
          room = omega arith;
        }

    -- a sort
    module _ (e : code (decode (slot b₀ (index h)).rec) ≡ 7) where
      abbrev x : NodeRecord
      x = from_bytes (slot b₀ (index h)).rec

      sorts : decode (slot b₀ (index h)).rec ≡ sort_op (from_bytes (slot b₀ (index h)).rec).preserve (from_bytes (slot b₀ (index h)).rec).keys
          (from_bytes (slot b₀ (index h)).rec).fetch
      sorts = sort_op_lem (slot b₀ (index h)).rec (own_proper b₀ u h standing (slot b₀ (index h)).rec refl) e

      only : length (slot b₀ (index h)).kids ≡ 1
      only = one_kid_lem b₀ (slot b₀ (index h)).rec (slot b₀ (index h)).kids (own_over b₀ u h standing) (sort_op x.preserve x.keys x.fetch) sorts
          (λ n. refl)

      dropped : Removed b₀ h ≡ drop_sort (from_bytes (slot b₀ (index h)).rec).fetch
          (node (decode (slot b₀ (index h)).rec) true (forest b₀ (slot b₀ (index h)).kids))
      dropped = ap (λ k. remove_by (shape k) (record { op = o; mark = true }) c₀ (remove_kids (singles o) c₀)) sorts

      -- it stays
      module _ (f : is_some (from_bytes (slot b₀ (index h)).rec).fetch ≡ true) where
        stays : tree_of b₀ h ≡ Removed b₀ h
        stays = ap₂ (λ m t. set_mark m t) z seen.tree ∙ sym (dropped ∙ drop_some x.fetch (node o true c₀) f)

        pub stays_asks : AsksSingleStream b₀ u h s
        stays_asks = let t = sized in place_asks b₀ u h p.arena p.here refl (omega arith) stays

        pub stays_grown : (b' : List ℕ) (a : At) → Grown b₀ u b' a (with_single_stream s (tree_of b₀ h)) (u + 1) → Grown b₀ u b' a (remove_one s (tree_of b₀ h))
            (u + 2 * size_t (tree_of b₀ h))
        stays_grown b' a g = let t = sized in place_grown b₀ u h refl (omega arith) (omega arith) stays b' a g

      -- it goes
      pub sort_some : 0 < length (slot b₀ (index h)).kids
      sort_some = let k = only in omega arith

      module _ (f : is_some (from_bytes (slot b₀ (index h)).rec).fetch ≡ false) (k : ℕ) (hk : k ≡ get_or (slot b₀ (index h)).kids 0 0) where
        goes : tree_of b₀ k ≡ Removed b₀ h
        goes = ap (tree_of b₀) hk ∙ kid_is b₀ hs (node o true c₀) sort_some ∙ sym (dropped ∙ drop_none x.fetch (node o true c₀) f)

        pub goes_asks : AsksSingleStream b₀ u k s
        goes_asks = let t = sized in let y = below_at (2 * index h) hs 0 seen.below sort_some in let v = p.here in
            place_asks b₀ u k p.arena (omega arith) refl (omega arith) goes

        pub goes_grown : (b' : List ℕ) (a : At) → Grown b₀ u b' a (with_single_stream s (tree_of b₀ k)) (u + 1) → Grown b₀ u b' a (remove_one s (tree_of b₀ h))
            (u + 2 * size_t (tree_of b₀ h))
        goes_grown b' a g = let t = sized in place_grown b₀ u k refl (omega arith) (omega arith) goes b' a g

  pub going-none : (kids : List ℕ) → length kids ≡ 8 → Going b₀ u h 0 u kids b₀
  unfolding forest
  going-none kids l = record { made = kids_none b₀ u kids p.arena l; is = refl; left = omega arith }

  module _ (j w : ℕ) (kids b : List ℕ) (q : Going b₀ u h j w kids b) where
    module _ (l : j < length (slot b₀ (index h)).kids) (k : ℕ) (e : k ≡ get_or (slot b (index h)).kids j 0) where
      abbrev next_split : forest b₀ (drop j (slot b₀ (index h)).kids) ≡ plant (tree_of b k) (forest b₀ (drop (suc j) (slot b₀ (index h)).kids))
      next_split = split p.arena p.here q.made l e

      pub going_next : (size_t (tree_of b k) < size_t (tree_of b₀ h)) × Removes b w k
      going_next =
          let s = ap size next_split in let t = sized in let v = q.left in let o = q.made.long in let r = p.room in let m = p.small in
          let x = q.made.more in let y = kid_below p.arena p.here q.made l e in let n = p.few in
          let d = drop-size b₀ hs j in
          (omega arith, record { arena = q.made.arena; here = omega arith; room = omega arith; small = omega arith; few = omega arith })

      module _ (one : Bool) (ho : one ≡ singles (decode (slot b₀ (index h)).rec) j) where
        first_one : one ≡ from (singles (decode (slot b₀ (index h)).rec)) j 0
        first_one = ho ∙ sym (from_first (singles o) j)

        step : remove_kids (from (singles (decode (slot b₀ (index h)).rec)) j) (plant (tree_of b k) (forest b₀ (drop (suc j) (slot b₀ (index h)).kids)))
            ≡ plant (remove_one one (tree_of b k))
            (remove_kids (from (singles (decode (slot b₀ (index h)).rec)) (suc j)) (forest b₀ (drop (suc j) (slot b₀ (index h)).kids)))
        step = ap₂ (λ s q. plant (remove_one s (tree_of b k)) (remove_kids q (forest b₀ (drop (suc j) hs)))) (sym first_one) (from_next (singles o) j)

        pub going_more : (b' : List ℕ) → length b' ≡ length b → (r : At) → Grown b w b' r (remove_one one (tree_of b k)) (w + 2 * size_t (tree_of b k))
            → Going b₀ u h (j + 1) r.used (set kids j r.root) b'
        going_more b' lb r g =
            let y = seen.few in let s = ap size next_split in let v = q.left in let top = g.room in
            record {
              made = kids_more b₀ u j w kids b q.made (omega arith) b' lb r (remove_one one (tree_of b k)) (w + 2 * size_t (tree_of b k)) g;
              is = kids_forest b₀ u j w kids b q.made (omega arith) b' lb r (remove_one one (tree_of b k)) (w + 2 * size_t (tree_of b k)) g
                  (remove_kids (from (singles o) (j + 1)) (forest b₀ (drop (j + 1) hs)))
                  ∙ rw (add-one j) (ap (λ x. forest b (take j kids) ⊕ x) (sym (ap (remove_kids (from (singles o) j)) next_split ∙ step))) ∙ q.is;
              left = rw (add-one j) (omega arith);
            }

    -- all children are done
    module _ (n : ℕ) (e : n ≡ j) (c : n ≡ length (slot b₀ (index h)).kids) where
      same : slot b (index h) ≡ slot b₀ (index h)
      same = same_slot p.arena p.here q.made

      olds : forest b (slot b (index h)).kids ≡ forest b₀ (slot b₀ (index h)).kids
      olds = same_kids p.arena p.here q.made

      news : forest b (take n kids) ≡ remove_kids (singles (decode (slot b₀ (index h)).rec)) (forest b₀ (slot b₀ (index h)).kids)
      news = new_kids p.arena p.here q.made e c (remove_kids (from (singles o) j)) (remove_kids (singles o) c₀) refl q.is

      pub going_rems : Rems b w h (take n kids)
      going_rems =
          let v = q.left in let t = sized in let l = q.made.long in let r = p.room in let m = p.small in let x = q.made.more in
          let y = half p.arena p.here in let f = p.few in let z = ap size olds in
          record {
            arena = q.made.arena;
            here = omega arith;
            room = omega arith;
            small = omega arith;
            below = new_below p.arena p.here q.made e c;
            is = news ∙ ap₂ (λ k f. remove_kids (singles (decode k.rec)) f) (sym same) (sym olds);
            count = counted p.arena p.here q.made e c ∙ ap (λ x. length x.kids) (sym same);
            few = omega arith;
          }

      same_removed : Removed b h ≡ Removed b₀ h
      same_removed = ap₂ (λ k f. remove_by (shape (decode k.rec)) (record { op = decode k.rec; mark = true }) f
          (remove_kids (singles (decode k.rec)) f)) same olds

      module _ (s : Bool) (z : marked h ≡ true) (b' : List ℕ) (lb : length b' ≡ length b) (a : At) (g : Grown b w b' a (Removed b h) (w + 1)) where
        pub end_asks : AsksSingleStream b' a.used a.root s
        end_asks = let v = q.left in let t = sized in let y = g.room in
            place_asks s z b' a.used a.root g.arena g.here (lb ∙ q.made.long) (omega arith) (g.tree ∙ same_removed)

        pub going_end : (b'' : List ℕ) (r : At) → Grown b' a.used b'' r (with_single_stream s (tree_of b' a.root)) (a.used + 1)
            → Grown b₀ u b'' r (remove_one s (tree_of b₀ h)) (u + 2 * size_t (tree_of b₀ h))
        going_end b'' r k =
            let v = q.left in let t = sized in let x = q.made.more in let y = g.room in let m = g.more in
            place_grown s z b' a.used a.root (same_trans u w b₀ b b' x q.made.old g.old) (omega arith) (omega arith)
            (g.tree ∙ same_removed) b'' r k
