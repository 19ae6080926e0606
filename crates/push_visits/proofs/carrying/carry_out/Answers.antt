use Rattle.push_visits.specs.Carrying.{sort_topping, merge_topping, carried}
use Rattle.push_visits.proofs.carrying.carry_out.Goals as goal

pub sort_over-s-requires : goal.sort_over-s-requires
sort_over-s-requires c = let a = c.args.a.now in
    let b = c.args.b.now in let ks = c.args.kids.now in
    sort_topping a c.args.ua c.args.i b c.args.w c.args.d ks c.requires _ c.below_tops-t.auto.b
    c.below_tops-t.result c.below_tops-t.ensures

pub merge_over-requires : goal.merge_over-requires
merge_over-requires c = let a = c.args.a.now in let b = c.args.b.now in let ks = c.args.kids.now in
    merge_topping a c.args.ua c.args.i b c.args.w c.args.d ks c.requires _
    c.below_tops-t.auto.b
    c.below_tops-t.result
    c.below_tops-t.ensures _ c.sort_over-s.auto.b
    c.sort_over-s.result c.sort_over-s.ensures

pub returns : goal.returns
returns c = let a = c.args.a.now in let b = c.args.b.now in let ks = c.args.kids.now in
    carried a c.args.ua c.args.i b c.args.w c.args.d ks c.requires _
    c.below_tops-t.auto.b
    c.below_tops-t.result
    c.below_tops-t.ensures _
    c.sort_over-s.auto.b c.sort_over-s.result
    c.sort_over-s.ensures _ c.merge_over.result
    c.merge_over.ensures
