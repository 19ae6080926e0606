-- The semantics' questions to facts, answered from the struct. Assumes nothing.
use Rattle.std.specs.Prelude.{◌≡◌, refl, Bool, true, false, List, [], ◌∷◌, ℕ, zero, suc, ◌<◌, eqb, ltb, length, take, get_or}
use Rattle.std.proofs.Common.{ap₂, sym, ◌∙◌, arith, get_or-take, length-take-le, ltb-true, ltb-false}
use Rattle.std.proofs.Math.Path.{fun_ext}
use Rattle.std.proofs.Math.ListN.{get_or-eq_default}
use Rattle.row_order.specs.Iso.{Key}
use Rattle.row_order.specs.Packed.{bit}
use Rattle.row_order.specs.Lists.{tab}
use Rattle.row_order.specs.ListLaws.{length-tab, get_or-tab}
use Rattle.semantics.specs.Facts.{cl, is_c, nf_by, nf, is_nil}
use Rattle.class_tables.specs.Tables.{at, Small}
use Rattle.class_tables.specs.Filling.{read}
use Rattle.key_lists.specs.Keys.{Keyed}
use Rattle.key_lists.specs.Lists.{no_keys_is}
use Rattle.facts.specs.declared.Facts.{Facts as Coded}
use Rattle.facts.specs.Known.{known, Coherent, Agrees}

-- inside a list it does not matter what stands past its end
inside : (t : List ℕ) (c d e : ℕ) → c < length t → get_or t c d ≡ get_or t c e
inside [] c d e h = absurd (omega arith)
inside (x ∷ t) zero d e h = refl
inside (x ∷ t) (suc c) d e h = inside t c d e (omega arith)

module _ (f : Coded) (h : Coherent f) where
  pub classes : Agrees (known f) f.low
  classes c = go (ltb c f.width) refl
    where
      go : (b : Bool) → ltb c f.width ≡ b → get_or (take f.width f.low) c c ≡ at f.low c
      go true e =
          let l = ltb-true c f.width e in let w = h.wide in let n = h.long in
          get_or-take f.width f.low c c l ∙ inside f.low c c 0 (omega arith) ∙ read f.low c (omega arith)
      go false e =
          let l = ltb-false c f.width e in let w = h.wide in let n = h.long in
          get_or-eq_default (take f.width f.low) c (omega (arith, length-take-le f.width f.low (omega arith))) ∙ sym (h.alone c l)

  pub constants : (c : ℕ) → is_c (known f) c ≡ bit f.consts c
  constants c = go (ltb c f.width) refl
    where
      go : (b : Bool) → ltb c f.width ≡ b → get_or (tab f.width (bit f.consts)) c false ≡ bit f.consts c
      go true e = get_or-tab f.width (bit f.consts) false c (ltb-true c f.width e)
      go false e =
          let l = ltb-false c f.width e in
          get_or-eq_default (tab f.width (bit f.consts)) false (omega (arith, length-tab f.width (bit f.consts))) ∙ sym (h.none c l)

  -- the same, as functions
  pub cl_is : at f.low ≡ cl (known f)
  cl_is = fun_ext (λ c. sym (classes c))

  pub is_c_is : bit f.consts ≡ is_c (known f)
  is_c_is = fun_ext (λ c. sym (constants c))

  pub nf_is : (ks : List Key) → nf_by (bit f.consts) (at f.low) [] ks ≡ nf (known f) [] ks
  nf_is ks = ap₂ (λ cs low. nf_by cs low [] ks) is_c_is cl_is

  pub small : Small f.low
  small c l = let d = h.down c in omega arith

  pub no_order : is_nil (known f).order ≡ eqb f.order.len 0
  no_order = no_keys_is f.order.len f.order.word

  pub own_order : Keyed (known f).order f.order
  own_order = record { is = refl; few = h.few }
