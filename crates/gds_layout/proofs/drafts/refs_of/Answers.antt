use Rattle.std.proofs.Common.{map, ap, ◌∙◌}
use Rattle.gds_elements.specs.Reading.{ref_seen}
use Rattle.gds_layout.specs.Drafts.{ref_of}
use Rattle.gds_layout.proofs.Yielded.{one_yielded, maps_more}
use Rattle.gds_layout.proofs.drafts.refs_of.Goals as goal

pub loop-r-preserved : goal.loop-r-preserved
loop-r-preserved c =
    let inv = c.loop-r.invariant in
    let steps = (c.in-Some.ensures {u = tt}).steps.0 in (
      one_yielded c.args.refs.items c.loop-r.yielded c.next.new.self.rest.items c.loop-r.r-iterator.rest.items c.in-Some.r inv.0 steps,
      ap (map ref_of) c.in_ok-push.ensures.items ∙ maps_more ref_of ref_seen c.loop-r.kept.items c.ref_of.result c.loop-r.yielded c.in-Some.r inv.1 c.ref_of.ensures,
    )
