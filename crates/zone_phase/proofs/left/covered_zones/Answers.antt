use Rattle.zone_phase.proofs.left.covered_zones.Goals as goal

pub returns : goal.returns
returns c = record {
  sets = c.in_ok-left.ensures.sets;
  bare = c.in_ok-bare.bare.items;
  left = c.in_ok-left.ensures.left c.args.used.now.margin c.args.used.now.design.now c.args.used.now.cell c.in_ok-bare.ensures.opens;
  covered = record { inputs = c.in_ok-inputs.inputs; lone = c.in_ok-lone.lone };
  is = c.in_ok-left.ensures.covered;
  inputs = c.in_ok-inputs.ensures;
  lone = c.in_ok-lone.ensures.lones;
  canonical = c.in_ok-lone.ensures.canonical;
}
