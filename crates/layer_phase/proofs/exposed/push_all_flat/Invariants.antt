use Rattle.std.specs.List.{All}
use Rattle.geo_base.specs.Rects.{IsRect}
use Rattle.layer_phase.specs.Looks.{HaveFlat}
use Rattle.cell_context.specs.Placed.{Grows}
use Rattle.layer_phase.proofs.exposed.push_all_flat.Given as goal

abbrev pub invariant-loop-rule : goal.invariant-loop-rule
invariant-loop-rule l = record {
  rects : All IsRect l.out.items;
  held : Grows l.out.items l.places;
  flat : HaveFlat l.design l.names l.rule-index l.cell l.places l.out.items;
}
