use Rattle.fact_slots.proofs.load_row.Goals as goal

pub returns : goal.returns
returns c = λ i. record {
  width = c.wide.ensures i;
  streams = c.get16.ensures i;
  consts = c.get32.ensures i;
  low = c.from_bytes-low.ensures i;
  order = c.order_keys-order.ensures i;
}
