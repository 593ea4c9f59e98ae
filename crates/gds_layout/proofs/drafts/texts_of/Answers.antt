use Rattle.std.proofs.Common.{map, ap, ◌∙◌}
use Rattle.gds_elements.specs.Reading.{text_seen}
use Rattle.gds_layout.specs.Drafts.{text_of}
use Rattle.gds_layout.proofs.Yielded.{one_yielded, maps_more}
use Rattle.gds_layout.proofs.drafts.texts_of.Goals as goal

pub loop-text-preserved : goal.loop-text-preserved
loop-text-preserved c =
    let inv = c.loop-text.invariant in
    let steps = (c.in-Some.ensures {u = tt}).steps.0 in (
      one_yielded c.args.texts.items c.loop-text.yielded c.next.new.self.rest.items c.loop-text.text-iterator.rest.items c.in-Some.text inv.0 steps,
      ap (map text_of) c.in_ok-push.ensures.items ∙ maps_more text_of text_seen c.loop-text.kept.items c.text_of.result c.loop-text.yielded c.in-Some.text inv.1 c.text_of.ensures,
    )
