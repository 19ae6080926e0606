-- What is asked of key lists, by a row's bytes. Assumes nothing.
use Rattle.std.specs.Prelude.{◌≡◌, Bool, true, List, [], ℕ, Option, Some, None}
use Rattle.std.proofs.Common.{sym, ap, ◌∙◌, subst}
use Rattle.row_order.specs.Iso.{Key}
use Rattle.row_order.specs.Packed.{bit}
use Rattle.scan.specs.Bytes.{le32}
use Rattle.semantics.specs.Facts.{met, nf_by}
use Rattle.semantics.specs.Properties.{fresh_keys}
use Rattle.key_lists.specs.declared.Keys.{Keys}
use Rattle.key_lists.specs.Keys.{keys_of, order_of, Keyed}
use Rattle.key_list_algebra.specs.Normalising.{fresh_normal}
use Rattle.facts.specs.Reading.{is_c_is}
use Rattle.fact_slots.specs.Slots.{loaded}
use Rattle.asked_facts.specs.Asked.{told, FactRow}

-- ---- fresh keys

pub fresh_is : (b : List ℕ) (s : ℕ) (k r : Keys) → FactRow b → s ≡ le32 b 4 → Keyed (nf_by (bit s) (λ c. c) [] (keys_of k)) r
    → Keyed (fresh_keys (told b) [] (keys_of k)) r
fresh_is b s k r f e h =
    subst (λ (l : List Key). Keyed l r) (ap (λ (cs : ℕ → Bool). nf_by cs (λ c. c) [] (keys_of k)) (ap bit e ∙ is_c_is (loaded b) f.fine)
    ∙ sym (fresh_normal (told b) [] (keys_of k))) h

-- no order is met
pub none-met : (b : List ℕ) (o : Option Keys) → o ≡ None → true ≡ met (told b) (order_of o)
none-met b o e = sym (ap (λ x. met (told b) (order_of x)) e)

pub some_met : (b : List ℕ) (o : Option Keys) (k : Keys) (r : Bool) → o ≡ Some k → r ≡ met (told b) (keys_of k) → r ≡ met (told b) (order_of o)
some_met b o k r e h = h ∙ sym (ap (λ x. met (told b) (order_of x)) e)
