use mathlib.Core.Bool.{Bool}
use mathlib.Core.List.{[]}
use mathlib.Core.Path.{subst, fun_ext}
use Prim.Native.Nat.{ℕ}
use borrow.Author.Rules.{rules}
use Rattle.semantics.specs.Facts.{cl, nf_by}
use Rattle.key_lists.specs.Keys.{keys_of, Keyed}
use Rattle.asked_facts.specs.Asked.{told}
use Rattle.asked_facts.specs.Answers.{constants_are}
use Rattle.met_orders.proofs.normal_form.Goals as goal

pub returns : goal.returns
returns c = let b = c.args.b.now in let r = c.normal_by.result in
    subst (λ (cs : ℕ → Bool). Keyed (nf_by cs (cl (told b)) [] (keys_of c.args.k)) r)
    (fun_ext (constants_are b c.get32.result c.requires.fact_row c.get32.ensures)) (c.normal_by.ensures (cl (told b)) (λ d x h e. search rules))
