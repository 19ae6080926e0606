-- What the passes over the blocks use of the definitions.
use Rattle.std.specs.Prelude.{◌≡◌, Bool, true, false, not, List, ℕ, ◌+◌, ◌-◌, take, drop}
use Rattle.std.proofs.Common.{sym, ap, ◌∙◌}
use Rattle.std.proofs.lemmas.Bool.{not-true, not-false}
use Rattle.scan.specs.Bytes.{part}
use Rattle.scan.specs.ByteLaws.{cut}

-- a test of the part that `&s[a..a + n]` lends, as the flag b says it
module _ (test : List ℕ → Bool) (s : List ℕ) (a n : ℕ) (b : Bool) (e : b ≡ test (take (a + n - a) (drop a s))) where
  pub fails : not b ≡ true → test (part a n s) ≡ false
  fails h = sym (e ∙ ap test (cut s a n)) ∙ not-true b h

  pub holds : not b ≡ false → test (part a n s) ≡ true
  holds h = sym (e ∙ ap test (cut s a n)) ∙ not-false b h
