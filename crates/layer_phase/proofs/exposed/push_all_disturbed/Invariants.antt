use Rattle.std.specs.List.{All}
use Rattle.geo_base.specs.Rects.{IsRect}
use Rattle.layer_phase.specs.Looks.{HaveDisturbed}
use Rattle.layer_phase.proofs.exposed.push_all_disturbed.Given as goal

abbrev pub invariant-loop-name : goal.invariant-loop-name
invariant-loop-name l = record {
  rects : All IsRect l.out.items;
  zones : HaveDisturbed l.zones l.names l.name l.cell l.out.items;
}
