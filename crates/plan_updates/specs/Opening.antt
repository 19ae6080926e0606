-- What an open node gives: it can be put, and older slots can be used with more room.
use Rattle.std.specs.Prelude.{List, refl, ℕ, ◌*◌, ◌≤◌, ◌<◌}
use Rattle.std.proofs.Common.{arith}
use Rattle.walks.specs.Marks.{Tree}
use Rattle.arena.specs.declared.At.{At}
use Rattle.plan_context.specs.View.{tree_of, Arena, Grown, Over, Puts}
use Rattle.plan_context.specs.Laws.{theres, same_trans}
use Rattle.plan_updates.specs.Opened.{Opened}

pub opened_over : (m : List ℕ) (u : ℕ) (r ks : List ℕ) (i : ℕ) → Opened m u r ks i → Over m r ks
opened_over m u r ks i o = let c = o.few in record { there = theres m u ks o.arena o.below; canon = o.canon; ok = o.ok; few = omega arith }

pub opened_puts : (m : List ℕ) (u : ℕ) (r ks : List ℕ) (i : ℕ) → Opened m u r ks i → Puts m u r ks
opened_puts m u r ks i o =
    let a = o.room in let b = o.small in let c = o.few in
    record { arena = o.arena; room = omega arith; small = omega arith; below = o.below; canon = o.canon; ok = o.ok; few = omega arith }

pub grown_more : (m : List ℕ) (u : ℕ) (m' : List ℕ) (r : At) (t : Tree) (top top' : ℕ) → top ≤ top' → Grown m u m' r t top → Grown m u m' r t top'
grown_more m u m' r t top top' h g = let x = g.room in
    record { arena = g.arena; old = g.old; more = g.more; here = g.here; tree = g.tree; room = omega arith }

-- one after the other
pub grown_then : (m : List ℕ) (u : ℕ) (m₁ : List ℕ) (s : At) (t : Tree) (top₁ : ℕ) (m₂ : List ℕ) (a : At) (t₂ : Tree) (top₂ top : ℕ)
    → Grown m u m₁ s t top₁ → Grown m₁ s.used m₂ a t₂ top₂ → top₂ ≤ top → Grown m u m₂ a t₂ top
grown_then m u m₁ s t top₁ m₂ a t₂ top₂ top g k h =
    let x = g.more in let y = k.more in let z = k.room in
    record {
      arena = k.arena;
      old = same_trans u s.used m m₁ m₂ x g.old k.old;
      more = omega arith;
      here = k.here;
      tree = k.tree;
      room = omega arith;
    }

-- nothing added
pub grown_none : (m : List ℕ) (u h top : ℕ) → Arena m u → h < 2 * u → u ≤ top → Grown m u m (record { used = u; root = h }) (tree_of m h) top
grown_none m u h top a l k = record { arena = a; old = refl; more = omega arith; here = l; tree = refl; room = k }
