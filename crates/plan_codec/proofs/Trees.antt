-- Trees of records and trees of operators: the same shape, the same widths, the same rules.
use Rattle.std.specs.Prelude.{◌≡◌, refl, Bool, true, ◌&&◌, List, [], ◌∷◌, ◌++◌, map, ℕ, zero, suc, ◌≤◌, leb, eqb, length, take, Ok, Err, is_ok}
use Rattle.std.proofs.Common.{sym, ap, ap₂, ◌∙◌, append_assoc, arith, length-append, eqb-true, eq-eqb, le-leb}
use Rattle.scan.specs.Below.{and_left, and_right}
use Rattle.plan.specs.Forest.{Forest, none, tree, roots, size, nodes, map_f}
use Rattle.plan.specs.Op.{Plan}
use Rattle.plan.specs.Numbers.{Verdict, Accepted, number_of}
use Rattle.plan.specs.WellFormed.{widths}
use Rattle.plan_format.specs.Record.{children}
use Rattle.plan_format.specs.LastPass.{node_refusal, and_then, last_pass}
use Rattle.plan_format.specs.LastPass.{widths as stack}
use Rattle.plan_format.specs.Reading.{finished, enough}
use Rattle.plan_format.specs.Tree.{take_f, drop_f, build}
use Rattle.plan_format.specs.Passed.{accepted}
use Rattle.plan_roundtrip.proofs.Tree.{◌⊕◌, arity, widths_f, widths-take, build-nodes, roots-build, widths-build}
use Rattle.plan_codec.specs.Encode.{encode}
use Rattle.plan_codec.specs.Writing.{records_of}
use Rattle.plan_codec.proofs.Bits.{both, no_false}
use Rattle.plan_codec.proofs.OneRecord.{encode-children}

-- The tree of a plan's records
abbrev pub recorded : Plan → Forest (List ℕ)
recorded none = none
recorded (tree o c r) = tree (encode (length (roots c)) o) (recorded c) (recorded r)

-- ---- shape

pub nodes-recorded : (f : Plan) → nodes (recorded f) ≡ records_of f
nodes-recorded none = refl
nodes-recorded (tree o c r) = ap (λ (l : List (List ℕ)). encode (length (roots c)) o ∷ l) (ap₂ ◌++◌ (nodes-recorded c) (nodes-recorded r))

pub length_records : (f : Plan) → length (records_of f) ≡ size f
length_records none = refl
length_records (tree o c r) = let a = length-append (records_of c) (records_of r) in let b = length_records c in let d = length_records r in omega arith

pub roots-recorded : (f : Plan) → length (roots (recorded f)) ≡ length (roots f)
roots-recorded none = refl
roots-recorded (tree o c r) = ap suc (roots-recorded r)

pub roots-map : {A B : Type 0} (g : A → B) (f : Forest A) → length (roots (map_f g f)) ≡ length (roots f)
roots-map g none = refl
roots-map g (tree a c r) = ap suc (roots-map g r)

pub length-widths : (f : Plan) → length (widths f) ≡ length (roots f)
length-widths none = refl
length-widths (tree o c r) = ap suc (length-widths r)

pub arity-recorded : (f : Plan) → arity (recorded f) ≡ true
arity-recorded none = refl
arity-recorded (tree o c r) =
    ap₂ ◌&&◌ (eq-eqb (children (encode (length (roots c)) o)) (length (roots (recorded c))) (encode-children (length (roots c)) o ∙ sym (roots-recorded c)))
    (ap₂ ◌&&◌ (arity-recorded c) (arity-recorded r))

length_join : (c g : Forest (List ℕ)) → length (roots c) ≤ length (roots (c ⊕ g))
length_join none g = omega arith
length_join (tree a c r) g = let h = length_join r g in omega arith

-- each record finds its children
pub enough-nodes : (f : Forest (List ℕ)) (l : List (List ℕ)) → arity f ≡ true → enough (map children l) ≡ true → enough (map children (nodes f ++ l)) ≡ true
enough-nodes none l h e = e
enough-nodes (tree a c r) l h e =
    let k = eqb-true (children a) (length (roots c)) (and_left (eqb (children a) (length (roots c))) (arity c && arity r) h) in
    let s = and_right (eqb (children a) (length (roots c))) (arity c && arity r) h in
    let hc = and_left (arity c) (arity r) s in
    let hr = and_right (arity c) (arity r) s in
    let t : List (List ℕ) = (nodes c ++ nodes r) ++ l in
    let assoc : t ≡ nodes c ++ (nodes r ++ l) = append_assoc (nodes c) (nodes r) l in
    let n : finished (map children t) ≡ length (roots (c ⊕ build (nodes r ++ l))) = sym (roots-build t)
    ∙ ap (λ (x : List (List ℕ)). length (roots (build x))) assoc ∙ ap (λ (x : Forest (List ℕ)). length (roots x)) (build-nodes c (nodes r ++ l) hc) in
    let j = length_join c (build (nodes r ++ l)) in
    both (leb (children a) (finished (map children t))) (enough (map children t)) (le-leb (children a) (finished (map children t)) (omega arith))
    (ap (λ (x : List (List ℕ)). enough (map children x)) assoc ∙ enough-nodes c (nodes r ++ l) hc (enough-nodes r l hr e))

-- ---- the last pass, on the tree

-- No node is refused
abbrev pub passes : Forest (List ℕ) → Bool
passes none = true
passes (tree a c r) = eqb (number_of (node_refusal a (widths_f c))) 0 && (passes c && passes r)

passes-take : (n : ℕ) (f : Forest (List ℕ)) → passes f ≡ true → passes (take_f n f) ≡ true
passes-take zero f h = refl
passes-take (suc n) none h = refl
passes-take (suc n) (tree a c r) h =
    let t : Bool = eqb (number_of (node_refusal a (widths_f c))) 0 in
    let s = and_right t (passes c && passes r) h in
    both t (passes c && passes (take_f n r)) (and_left t (passes c && passes r) h) (both (passes c) (passes (take_f n r)) (and_left (passes c) (passes r) s)
    (passes-take n r (and_right (passes c) (passes r) s)))

passes_drop : (n : ℕ) (f : Forest (List ℕ)) → passes f ≡ true → passes (drop_f n f) ≡ true
passes_drop zero f h = h
passes_drop (suc n) none h = refl
passes_drop (suc n) (tree a c r) h =
    passes_drop n r (and_right (passes c) (passes r) (and_right (eqb (number_of (node_refusal a (widths_f c))) 0) (passes c && passes r) h))

passes_join : (n : ℕ) (f : Forest (List ℕ)) → passes (take_f n f) ≡ true → passes (drop_f n f) ≡ true → passes f ≡ true
passes_join zero f h k = k
passes_join (suc n) none h k = refl
passes_join (suc n) (tree a c r) h k =
    let t : Bool = eqb (number_of (node_refusal a (widths_f c))) 0 in
    let s = and_right t (passes c && passes (take_f n r)) h in
    both t (passes c && passes r) (and_left t (passes c && passes (take_f n r)) h) (both (passes c) (passes r) (and_left (passes c) (passes (take_f n r)) s)
    (passes_join n r (and_right (passes c) (passes (take_f n r)) s) k))

-- the widths that a record finds are those of its children
found : (x : List ℕ) (l : List (List ℕ)) → take (children x) (stack l) ≡ widths_f (take_f (children x) (build l))
found x l = ap (take (children x)) (widths-build l) ∙ sym (widths-take (children x) (build l))

both-accepted : (a b : Verdict) → and_then a b ≡ Accepted → (a ≡ Accepted) × (b ≡ Accepted)
both-accepted (Ok x) b e = (refl, e)
both-accepted (Err r) b e = no_false (ap is_ok e)

pub last_tree : (l : List (List ℕ)) → last_pass l ≡ Accepted → passes (build l) ≡ true
last_tree [] e = refl
last_tree (x ∷ l) e =
    let p = both-accepted (last_pass l) (node_refusal x (take (children x) (stack l))) e in
    let i = last_tree l p.0 in
    let k : ℕ = children x in
    both (eqb (number_of (node_refusal x (widths_f (take_f k (build l))))) 0) (passes (take_f k (build l)) && passes (drop_f k (build l)))
    (eq-eqb (number_of (node_refusal x (widths_f (take_f k (build l))))) 0 (ap (λ (ws : List ℕ). number_of (node_refusal x ws)) (sym (found x l))
    ∙ ap number_of p.1))
    (both (passes (take_f k (build l))) (passes (drop_f k (build l))) (passes-take k (build l) i) (passes_drop k (build l) i))

pub tree_last : (l : List (List ℕ)) → passes (build l) ≡ true → last_pass l ≡ Accepted
tree_last [] h = refl
tree_last (x ∷ l) h =
    let k : ℕ = children x in
    let c : Forest (List ℕ) = take_f k (build l) in
    let t : Bool = eqb (number_of (node_refusal x (widths_f c))) 0 in
    let s = and_right t (passes c && passes (drop_f k (build l))) h in
    let i = tree_last l (passes_join k (build l) (and_left (passes c) (passes (drop_f k (build l))) s)
    (and_right (passes c) (passes (drop_f k (build l))) s)) in
    let z : number_of (node_refusal x (widths_f c)) ≡ 0 = eqb-true (number_of (node_refusal x (widths_f c))) 0
    (and_left t (passes c && passes (drop_f k (build l))) h) in
    ap₂ and_then i (ap (node_refusal x) (found x l) ∙ accepted (node_refusal x (widths_f c)) z)
