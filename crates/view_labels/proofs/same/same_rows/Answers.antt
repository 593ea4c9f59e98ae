use Rattle.view_labels.proofs.same.same_rows.Goals as goal

pub returns-then-same_nets : goal.returns-then-same_nets
returns-then-same_nets c = (
  (λ t. record { nets = c.same_nets.ensures.0 c.if-same_nets.true; calls = c.same_call_rows.ensures.0 t }),
  (λ r. c.same_call_rows.ensures.1 r.calls),
)

pub returns-else-same_nets : goal.returns-else-same_nets
returns-else-same_nets c = (
  (λ t. absurd (let f = c.if-same_nets.false in let z : ⊥ = cc in z)),
  (λ r. c.same_nets.ensures.1 r.nets),
)
