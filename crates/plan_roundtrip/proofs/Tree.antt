-- Records and trees: built from the last record to the first, the finished trees are the forest itself.
use Rattle.std.specs.Prelude.{◌≡◌, refl, Bool, true, ◌&&◌, List, [], ◌∷◌, ◌++◌, map, ℕ, zero, suc, ◌-◌, ◌≤◌, leb, eqb, length, take, drop}
use Rattle.std.proofs.Common.{sym, ap, ap₂, ◌∙◌, append_assoc, arith, leb-true, eqb-true, eq-eqb}
use Rattle.plan.specs.Forest.{Forest, none, tree, roots, nodes}
use Rattle.plan_format.specs.Tree.{take_f, drop_f, build}
use Rattle.scan.specs.Below.{and_left, and_right}
use Rattle.plan_format.specs.LastPass.{width_of, widths}
use Rattle.plan_format.specs.Reading.{finished, enough}
use Rattle.plan_format.specs.Record.{fields, children}

infixr 40 ◌⊕◌
abbrev pub ◌⊕◌ : Forest (List ℕ) → Forest (List ℕ) → Forest (List ℕ)
none ⊕ g = g
tree a c r ⊕ g = tree a c (r ⊕ g)

-- each record says how many children it has
abbrev pub arity : Forest (List ℕ) → Bool
arity none = true
arity (tree a c r) = eqb (children a) (length (roots c)) && (arity c && arity r)

split : (n : ℕ) (f : Forest (List ℕ)) → nodes (take_f n f) ++ nodes (drop_f n f) ≡ nodes f
split zero f = refl
split (suc n) none = refl
split (suc n) (tree a c r) = ap (λ (l : List (List ℕ)). a ∷ l) (append_assoc (nodes c) (nodes (take_f n r)) (nodes (drop_f n r))
    ∙ ap (λ (l : List (List ℕ)). nodes c ++ l) (split n r))

-- records, tree, records
pub nodes-build : (l : List (List ℕ)) → nodes (build l) ≡ l
nodes-build [] = refl
nodes-build (x ∷ l) = ap (λ (m : List (List ℕ)). x ∷ m) (split (children x) (build l) ∙ nodes-build l)

take_join : (c g : Forest (List ℕ)) → take_f (length (roots c)) (c ⊕ g) ≡ c
take_join none g = refl
take_join (tree a c r) g = ap (tree a c) (take_join r g)

drop_join : (c g : Forest (List ℕ)) → drop_f (length (roots c)) (c ⊕ g) ≡ g
drop_join none g = refl
drop_join (tree a c r) g = drop_join r g

-- tree, records, tree
pub build-nodes : (f : Forest (List ℕ)) (l : List (List ℕ)) → arity f ≡ true → build (nodes f ++ l) ≡ f ⊕ build l
build-nodes none l h = refl
build-nodes (tree a c r) l h =
    let k = eqb-true (children a) (length (roots c)) (and_left (eqb (children a) (length (roots c))) (arity c && arity r) h) in
    let s = and_right (eqb (children a) (length (roots c))) (arity c && arity r) h in
    let e : build ((nodes c ++ nodes r) ++ l) ≡ c ⊕ (r ⊕ build l) =
    (ap build (append_assoc (nodes c) (nodes r) l) ∙ build-nodes c (nodes r ++ l) (and_left (arity c) (arity r) s) ∙ ap (λ (g : Forest (List ℕ)). c ⊕ g)
    (build-nodes r l (and_right (arity c) (arity r) s))) in
    ap₂ (tree a) (ap₂ take_f k e ∙ take_join c (r ⊕ build l)) (ap₂ drop_f k e ∙ drop_join c (r ⊕ build l))

roots-take : (n : ℕ) (f : Forest (List ℕ)) → n ≤ length (roots f) → length (roots (take_f n f)) ≡ n
roots-take zero f h = refl
roots-take (suc n) none h = absurd (omega arith)
roots-take (suc n) (tree a c r) h = ap suc (roots-take n r (omega arith))

roots-drop : (n : ℕ) (f : Forest (List ℕ)) → length (roots (drop_f n f)) ≡ length (roots f) - n
roots-drop zero f = omega arith
roots-drop (suc n) none = omega arith
roots-drop (suc n) (tree a c r) = roots-drop n r ∙ omega arith

-- the reader's count of trees is the forest's
pub roots-build : (l : List (List ℕ)) → length (roots (build l)) ≡ finished (map children l)
roots-build [] = refl
roots-build (x ∷ l) = let h = roots-build l in let d = roots-drop (children x) (build l) in omega arith

arity-take : (n : ℕ) (f : Forest (List ℕ)) → arity f ≡ true → arity (take_f n f) ≡ true
arity-take zero f h = refl
arity-take (suc n) none h = refl
arity-take (suc n) (tree a c r) h =
    let s = and_right (eqb (children a) (length (roots c))) (arity c && arity r) h in
    ap₂ ◌&&◌ (and_left (eqb (children a) (length (roots c))) (arity c && arity r) h)
    (ap₂ ◌&&◌ (and_left (arity c) (arity r) s) (arity-take n r (and_right (arity c) (arity r) s)))

arity-drop : (n : ℕ) (f : Forest (List ℕ)) → arity f ≡ true → arity (drop_f n f) ≡ true
arity-drop zero f h = h
arity-drop (suc n) none h = refl
arity-drop (suc n) (tree a c r) h = arity-drop n r (and_right (arity c) (arity r) (and_right (eqb (children a) (length (roots c))) (arity c && arity r) h))

pub arity-build : (l : List (List ℕ)) → enough (map children l) ≡ true → arity (build l) ≡ true
arity-build [] h = refl
arity-build (x ∷ l) h =
    let k = leb-true (children x) (finished (map children l)) (and_left (leb (children x) (finished (map children l))) (enough (map children l)) h) in
    let b = arity-build l (and_right (leb (children x) (finished (map children l))) (enough (map children l)) h) in
    let t = roots-build l in
    ap₂ ◌&&◌ (eq-eqb (children x) (length (roots (take_f (children x) (build l)))) (sym (roots-take (children x) (build l) (omega arith))))
    (ap₂ ◌&&◌ (arity-take (children x) (build l) b) (arity-drop (children x) (build l) b))

-- facts of a tree are one fold, and the reader's stack of widths is the fold over the forest
abbrev pub widths_f : Forest (List ℕ) → List ℕ
widths_f none = []
widths_f (tree a c r) = width_of (fields a) a (widths_f c) ∷ widths_f r

pub widths-take : (n : ℕ) (f : Forest (List ℕ)) → widths_f (take_f n f) ≡ take n (widths_f f)
widths-take zero f = refl
widths-take (suc n) none = refl
widths-take (suc n) (tree a c r) = ap (λ (l : List ℕ). width_of (fields a) a (widths_f c) ∷ l) (widths-take n r)

widths-drop : (n : ℕ) (f : Forest (List ℕ)) → widths_f (drop_f n f) ≡ drop n (widths_f f)
widths-drop zero f = refl
widths-drop (suc n) none = refl
widths-drop (suc n) (tree a c r) = widths-drop n r

pub widths-build : (l : List (List ℕ)) → widths l ≡ widths_f (build l)
widths-build [] = refl
widths-build (x ∷ l) =
    ap₂ ◌∷◌ (ap (width_of (fields x) x) (ap (take (children x)) (widths-build l) ∙ sym (widths-take (children x) (build l))))
    (ap (drop (children x)) (widths-build l) ∙ sym (widths-drop (children x) (build l)))
