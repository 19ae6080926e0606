-- Removing sorts at most doubles a tree.
use Rattle.std.specs.Prelude.{◌≡◌, refl, Bool, false, ◌&&◌, ◌||◌, ℕ, suc, ◌*◌, ◌≤◌, ltb, Option, Some, None}
use Rattle.std.proofs.Common.{arith}
use Rattle.plan.specs.Forest.{Forest, none, tree, roots, size}
use Rattle.semantics.specs.Facts.{is_nil, known_order}
use Rattle.semantics.specs.Properties.{singles}
use Rattle.walks.specs.Marks.{Marked, Tree, at, over, fact, fetch_t, size_t, kid0, any_mark, rebuild, Shape, a_sort, a_merge, a_repartition, a_coalesce, another, shape}
use Rattle.walks.specs.EnsureSorting.{connected_each, update_sort_ctx_children_data, single_stream_op, with_single_stream, updated_after_removal, drop_sort, remove_by, remove_top, remove_kids}
use Rattle.walks.proofs.Theorems.Calls.Counts.{cond_le}

pub connected_size : (c : Forest Marked) → size (connected_each c) ≡ size c
connected_size none = refl
connected_size (tree m c r) = let y = connected_size r in omega arith

pub single_stream_size : (s : Bool) (t : Tree) → size_t (with_single_stream s t) ≤ suc (size_t t)
single_stream_size s t = cond_le (suc (size_t t)) (s && ltb 1 (fact t).streams)
    (update_sort_ctx_children_data false (over (single_stream_op (known_order (fact t)) (fetch_t t)) false t)) t (omega arith) (omega arith)

kid_size : (t : Tree) (c : Forest Marked) → size c ≤ size t.kids → size_t (kid0 t c) ≤ size_t t
kid_size t none h = omega arith
kid_size t (tree m c r) h = omega arith

updated_size : (m : Marked) (c d : Forest Marked) → size_t (updated_after_removal m c d) ≤ suc (size d)
updated_size m c d =
    let x = connected_size d in
    cond_le (suc (size d)) (any_mark c || is_nil (roots c)) (update_sort_ctx_children_data false (rebuild m.op m.mark d)) (rebuild m.op m.mark d)
    (omega arith) (omega arith)

drop-size : (f : Option ℕ) (t : Tree) → size_t (drop_sort f t) ≤ size_t t
drop-size None t = kid_size t t.kids (omega arith)
drop-size (Some n) t = omega arith

pub by_size : (s : Shape) (m : Marked) (c d : Forest Marked) → size d ≤ 2 * size c → size_t (remove_by s m c d) ≤ suc (2 * size c)
by_size (a_sort p ks f) m c d h = let x = drop-size f (at m c) in omega arith
by_size (a_merge ks f) m c d h = let x = updated_size m c d in let t = updated_after_removal m c d in
    let y = kid_size (updated_after_removal m c d) (updated_after_removal m c d).kids (omega arith) in omega arith
by_size (a_repartition p n q ks) m c d h = let x = updated_size m c d in omega arith
by_size (a_coalesce f) m c d h = let x = updated_size m c d in omega arith
by_size another m c d h = let x = updated_size m c d in omega arith

pub kids_size : (q : ℕ → Bool) (c : Forest Marked) → size (remove_kids q c) ≤ 2 * size c
kids_size q none = omega arith
kids_size q (tree m c r) =
    let d : Forest Marked = remove_kids (singles m.op) c in
    let v : Tree = remove_by (shape m.op) m c (remove_kids (singles m.op) c) in
    let a = by_size (shape m.op) m c (remove_kids (singles m.op) c) (kids_size (singles m.op) c) in
    let g = single_stream_size (q 0) (remove_by (shape m.op) m c (remove_kids (singles m.op) c)) in
    let x = cond_le (2 * suc (size c)) m.mark (remove_top (q 0) m c (remove_kids (singles m.op) c)) (at m c) (omega arith) (omega arith) in
    let y = kids_size (λ i. q (suc i)) r in omega arith
