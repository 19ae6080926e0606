-- The operator of a record, by its kind, and its keys. Assumes nothing.
use Rattle.std.specs.Prelude.{◌≡◌, true, false, ◌||◌, ◌⊎◌, List, [], ◌∷◌, map, ℕ, eqb, get_or, take}
use Rattle.std.proofs.Common.{sym, ap, ◌∙◌, subst, inl, inr, eqb-true, eq-eqb, ne_eqb}
use Rattle.row_order.specs.Packed.{key_of}
use Rattle.plan.specs.Op.{Op, kind}
use Rattle.plan.specs.Numbers.{code, kind_number, kind_of}
use Rattle.plan.specs.declared.Kind.{Kind}
use Rattle.plan_codec.proofs.Bits.{number_back}
use Rattle.plan_codec.specs.Decode.{decode, from_bytes, operator_of}
use Rattle.plan_codec.proofs.FromRecord.{operator_kind}
use Rattle.record_fields.specs.Fields.{packed_keys}
use Rattle.record_fields.specs.Decoded.{packed_keys_lem}
use Rattle.record_fields.specs.Proper.{Proper}

-- the operator of a record of kind k
pub op_of : (r : List ℕ) (k : Kind) → kind_of (get_or r 0 0) ≡ k → decode r ≡ operator_of k (from_bytes r)
unfolding decode
op_of r k e = ap (λ x. operator_of x (from_bytes r)) e

-- what is asked of the operator is asked of that
pub asked_of : {A : Type 0} (f : Op → A) (r : List ℕ) (k : Kind) → kind_of (get_or r 0 0) ≡ k → (x : A) → x ≡ f (operator_of k (from_bytes r)) → x ≡ f (decode r)
asked_of f r k e x h = h ∙ sym (ap f (op_of r k e))

pub kind_is : (r : List ℕ) → kind_of (get_or r 0 0) ≡ kind (decode r)
unfolding decode
kind_is r = sym (operator_kind (kind_of (get_or r 0 0)) (from_bytes r))

-- a test of the kind byte
pub code_is : (r : List ℕ) (n : ℕ) → Proper r → eqb (get_or r 0 0) n ≡ eqb (code (decode r)) n
code_is r n p = ap (λ k. eqb k n) p.kind

pub codes_are : (r : List ℕ) (n m : ℕ) → Proper r → (eqb (get_or r 0 0) n || eqb (get_or r 0 0) m) ≡ (eqb (code (decode r)) n || eqb (code (decode r)) m)
codes_are r n m p = ap (λ k. eqb k n || eqb k m) p.kind

-- a test of an operator's number, back to the record's kind
pub code-kind : (r : List ℕ) (k : Kind) → eqb (code (decode r)) (kind_number k) ≡ true → kind_of (get_or r 0 0) ≡ k
code-kind r k e = kind_is r ∙ sym (number_back (kind (decode r))) ∙ ap kind_of (eqb-true (code (decode r)) (kind_number k) e) ∙ number_back k

-- what the code reads as the record's kind, and its operator's number, say the same
pub number_is : (r : List ℕ) (k : Kind) → k ≡ kind_of (get_or r 0 0) → true ≡ eqb (code (decode r)) (kind_number k)
number_is r k e = sym (eq-eqb _ _ (ap kind_number (sym (e ∙ kind_is r))))

pub number_differs : (r : List ℕ) (k l : Kind) → l ≡ kind_of (get_or r 0 0) → (l ≡ k → ⊥) → false ≡ eqb (code (decode r)) (kind_number k)
number_differs r k l e n = sym (ne_eqb _ _ (λ c. n (e ∙ kind_is r ∙ sym (number_back (kind (decode r))) ∙ ap kind_of c ∙ number_back k)))

-- the kind is one of a list, as the arm of a match that names them says it
abbrev pub OneOf : Kind → List Kind → Type 0
OneOf k [] = ⊥
OneOf k (a ∷ []) = k ≡ a
OneOf k (a ∷ b ∷ ks) = (k ≡ a) ⊎ OneOf k (b ∷ ks)

-- what holds of each of them
abbrev pub Each : (Kind → Type 0) → List Kind → Type 0
Each P [] = Unit
Each P (a ∷ []) = P a
Each P (a ∷ b ∷ ks) = P a × Each P (b ∷ ks)

one_holds : (P : Kind → Type 0) (k : Kind) (ks : List Kind) → OneOf k ks → Each P ks → P k
one_holds P k [] h p = absurd h
one_holds P k (a ∷ []) h p = subst P (sym h) p
one_holds P k (a ∷ b ∷ ks) (inl h) p = subst P (sym h) p.0
one_holds P k (a ∷ b ∷ ks) (inr h) p = one_holds P k (b ∷ ks) h p.1

-- what is asked of the operator, where the answer is the same for each of the list
pub asked_of_each : {A : Type 0} (f : Op → A) (r : List ℕ) (ks : List Kind) (k : Kind) → k ≡ kind_of (get_or r 0 0) → OneOf k ks → (x : A)
    → Each (λ l. x ≡ f (operator_of l (from_bytes r))) ks → x ≡ f (decode r)
asked_of_each f r ks k e h x p = asked_of f r k (sym e) x (one_holds (λ l. x ≡ f (operator_of l (from_bytes r))) k ks h p)

-- the keys, as the code packs them
pub keys_are : (r : List ℕ) → Proper r → map key_of (take (get_or r 12 0) (packed_keys r)) ≡ (from_bytes r).keys
keys_are r p = packed_keys_lem (get_or r 12 0) r p.keys
