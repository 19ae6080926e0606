use Rattle.parallelize_sorts.specs.Exprs.{exprs_are}
use Rattle.parallelize_sorts.proofs.cascades.get_sort_exprs.Goals as goal

pub returns : goal.returns
returns c = exprs_are c.args.r.now (record { keys = c.keys-k.result; fetch = c.fetch_field-f.result })
    c.keys-k.ensures c.fetch_field-f.ensures
