use Rattle.std.specs.List.{All}
use Rattle.geo_base.specs.Rects.{IsRect}
use Rattle.zone_phase.proofs.Using.{GrownBy}
use Rattle.zone_phase.proofs.zones.push_uses.Given as goal

abbrev pub invariant-loop-found : goal.invariant-loop-found
invariant-loop-found g l = record {
  rects : All IsRect l.out.items;
  exact : GrownBy l.frame.design.now (g.R.Reads.value l.reads) l.name l.frame.cell l.frame.key l.frame.grown l.uses l.found-index l.fn.out.items l.out.items;
}
