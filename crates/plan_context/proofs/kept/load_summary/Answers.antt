use lib.Dec.{eqb}
use lib.ListN.{get_or}
use Rattle.plan_context.proofs.kept.load_summary.Goals as goal

pub returns : goal.returns
returns c = let e₀ = c.get16.ensures in let e₁ = c.get32.ensures in
    λ i. record {
      passes = eqb (get_or c.args.b.now 104 0) 1;
      endless = eqb (get_or c.args.b.now 105 0) 1;
      nodes = e₀ i;
      fetch = e₁ i;
    }
