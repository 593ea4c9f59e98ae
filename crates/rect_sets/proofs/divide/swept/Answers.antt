use Rattle.std.proofs.Common.{refl, ◌++◌, []}
use Rattle.base_laws.proofs.Tests.{or_false}
use Rattle.geo_base.specs.declared.layer.Op.TheVariants.{Or}
use Rattle.rect_sets.specs.Combined.{combined_set}
use Rattle.rect_sets.specs.Divided.{cut_off}
use Rattle.rect_sets.specs.Rects.{covers}
use Rattle.rect_sets.proofs.Dividing.{cut_rects, blocks_same}
use Rattle.rect_sets.proofs.divide.swept.Goals as goal

pub combine-requires-clause-a : goal.combine-requires-clause-a
combine-requires-clause-a c = rw (c.deref.ensures.value, c.in_ok-sort_out.ensures.rest) (cut_rects c.args.cut.now c.args.rest.items c.args.found.now c.requires.rest c.requires.found)

pub returns : goal.returns
returns c = record {
  joined = c.in_ok-joined.joined.items;
  blocks =
      let rest = c.args.rest.items ++ cut_off c.args.cut.now c.args.found.now in
      blocks_same (combined_set Or rest []) (covers rest) c.in_ok-joined.joined.items (λ s. or_false (covers rest s))
      (rw (c.deref.ensures.value, c.in_ok-sort_out.ensures.rest) at c.in_ok-joined.ensures);
  all_are = rw (c.in_ok-extend_from_slice.ensures.items, c.deref-2.ensures.value, c.in_ok-sort_out.ensures.done, c.new-all.ensures.items) refl;
}
