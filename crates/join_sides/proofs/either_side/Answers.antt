use mathlib.Core.Path.{subst}
use Prim.Native.Nat.{ℕ, ◌-◌}
use Rattle.key_lists.specs.Keys.{keys_of}
use Rattle.asked_facts.specs.Asked.{told}
use Rattle.walks.specs.SortPushdown.{on_side}
use Rattle.join_sides.specs.Sides.{Valids}
use Rattle.join_sides.proofs.Searching.{on_left, on_right_lem, on_neither}
use Rattle.join_sides.proofs.either_side.Goals as goal

pub returns-in-Some : goal.returns-in-Some
returns-in-Some c = let s = c.args in let F = told s.own.now in
    on_left (on_side F 0 s.left (keys_of s.keys)) (on_side F s.left (F.width - s.left) (keys_of s.keys))
    c.on_side-on_left.result c.on_side-on_left.result _ c.on_side-on_left.ensures
    c.in-Some.is

pub returns-in_default-on_right : goal.returns-in_default-on_right
returns-in_default-on_right c = let s = c.args in let F = told s.own.now in
    on_neither (on_side F 0 s.left (keys_of s.keys)) (on_side F s.left (F.width - s.left) (keys_of s.keys))
    c.on_side-on_left.result c.on_side-on_right.result
    c.on_side-on_left.ensures c.in_default.is
    (subst (λ (w : ℕ). Valids (on_side F s.left (w - s.left) (keys_of s.keys)) c.on_side-on_right.result)
    c.width.ensures.0 c.on_side-on_right.ensures) c.in_default-on_right.is

pub returns : goal.returns
returns c = let s = c.args in let F = told s.own.now in
    on_right_lem (on_side F 0 s.left (keys_of s.keys)) (on_side F s.left (F.width - s.left) (keys_of s.keys))
    c.on_side-on_left.result c.on_side-on_right.result _
    c.on_side-on_left.ensures c.in_default.is
    (subst (λ (w : ℕ). Valids (on_side F s.left (w - s.left) (keys_of s.keys)) c.on_side-on_right.result)
    c.width.ensures.0 c.on_side-on_right.ensures) c.in-Some-on_right.is
