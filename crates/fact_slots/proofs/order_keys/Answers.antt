use Rattle.fact_slots.proofs.order_keys.Goals as goal

pub returns : goal.returns
returns c = λ i. record { word = c.word_at.ensures i; len = c.wide.ensures i }
