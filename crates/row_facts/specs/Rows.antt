-- Stored facts that are copied and changed in their first bytes. Assumes nothing.
use Rattle.std.specs.Prelude.{◌≡◌, refl, Bool, true, false, cond, List, [], ◌∷◌, ◌++◌, ℕ, ◌+◌, ◌*◌, ◌≤◌, length, get_or, take, set}
use Rattle.std.proofs.Common.{sym, ap, ◌∙◌, subst, arith, length-take, length-take-le}
use Rattle.row_order.specs.Iso.{Key}
use Rattle.semantics.specs.Facts.{Facts, ordered}
use Rattle.key_lists.specs.Keys.{Keyed}
use Rattle.facts.specs.declared.Facts.{Facts as Coded}
use Rattle.facts.specs.Known.{known, Coherent, Says}
use Rattle.facts.specs.Saying.{says-ordered}
use Rattle.fact_slots.specs.Slots.{loaded}
use Rattle.fact_slots.specs.Copies.{kept_front, loaded_kept}

-- ---- other streams, another length of the order

pub loaded_head : (o : List ℕ) (x y z : ℕ) → 4 ≤ length o
    → loaded (set (set (set o 2 x) 3 y) 1 z) ≡ record {
      width = (loaded o).width;
      streams = x + 256 * y;
      consts = (loaded o).consts;
      low = (loaded o).low;
      order = record { word = (loaded o).order.word; len = z };
    }
loaded_head [] x y z h = absurd (omega arith)
loaded_head (a ∷ []) x y z h = absurd (omega arith)
loaded_head (a ∷ b ∷ []) x y z h = absurd (omega arith)
loaded_head (a ∷ b ∷ c ∷ []) x y z h = absurd (omega arith)
loaded_head (a ∷ b ∷ c ∷ d ∷ l) x y z h = refl

pub loaded_streams : (o : List ℕ) (x y : ℕ) → 4 ≤ length o
    → loaded (set (set o 2 x) 3 y) ≡ record {
      width = (loaded o).width;
      streams = x + 256 * y;
      consts = (loaded o).consts;
      low = (loaded o).low;
      order = (loaded o).order;
    }
loaded_streams [] x y h = absurd (omega arith)
loaded_streams (a ∷ []) x y h = absurd (omega arith)
loaded_streams (a ∷ b ∷ []) x y h = absurd (omega arith)
loaded_streams (a ∷ b ∷ c ∷ []) x y h = absurd (omega arith)
loaded_streams (a ∷ b ∷ c ∷ d ∷ l) x y h = refl

keyed_if : (f : Coded) → Coherent f → (keep : Bool) → Keyed (cond keep (known f).order [])
    (record { word = f.order.word; len = cond keep f.order.len 0 })
keyed_if f h true = record { is = refl; few = h.few }
keyed_if f h false = record { is = refl; few = omega arith }

-- the copy with other streams, and with its order or without
pub restream_says : (b d : List ℕ) → 48 ≤ length b → Coherent (loaded b) → (s n : ℕ) (keep : Bool) → n ≡ cond keep (get_or b 1 0) 0
    → Says (ordered (known (loaded b)) s (cond keep (known (loaded b)).order [])) (loaded (set (set (set (take 48 b ++ d) 2 s) 3 0) 1 n))
restream_says b d h f s n keep e =
    let l : 4 ≤ length (take 48 b ++ d) = long_enough in
    let t : s + 256 * 0 ≡ s = omega arith in
    let k = loaded_kept b d h in
    let x : loaded (set (set (set (take 48 b ++ d) 2 s) 3 0) 1 n) ≡ record {
      width = (loaded b).width;
      streams = s;
      consts = (loaded b).consts;
      low = (loaded b).low;
      order = record { word = (loaded b).order.word; len = cond keep (loaded b).order.len 0 };
    } =
    loaded_head (take 48 b ++ d) s 0 n l
    ∙ (λ i. record { width = (k i).width; streams = t i; consts = (k i).consts; low = (k i).low; order = record { word = (k i).order.word; len = e i } })
    in
    subst (Says _) (sym x) (says-ordered (loaded b) s (record { word = (loaded b).order.word; len = cond keep (loaded b).order.len 0 }) _ f
    (keyed_if (loaded b) f keep))
  where
    long_enough : 4 ≤ length (take 48 b ++ d)
    long_enough = let z = ap length (kept_front b d h 4 (omega arith)) in let y = length-take-le 4 b (omega arith) in
        omega (arith, front_le 4 (take 48 b ++ d))
      where
        front_le : (n : ℕ) (l : List ℕ) → length (take n l) ≤ length l
        front_le n l = omega (arith, length-take n l)

-- stored facts with one stream
pub one_says : (F : Facts) (s : ℕ) (ks : List Key) (o : List ℕ) → 4 ≤ length o → Says (ordered F s ks) (loaded o)
    → Says (ordered F 1 ks) (loaded (set (set o 2 1) 3 0))
one_says F s ks o l p =
    let q = p.is in let h = p.fine in
    subst (Says (ordered F 1 ks)) (sym (loaded_streams o 1 0 l)) (record {
      is = λ i. record { width = (q i).width; streams = 1; consts = (q i).consts; cls = (q i).cls; order = (q i).order };
      fine = record { wide = h.wide; long = h.long; alone = h.alone; down = h.down; none = h.none; few = h.few };
    })
