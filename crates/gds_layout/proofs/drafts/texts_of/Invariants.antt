use Rattle.std.proofs.Common.{◌≡◌, ◌++◌, map}
use Rattle.gds_elements.specs.Reading.{text_seen}
use Rattle.gds_layout.specs.Drafts.{text_of}
use Rattle.gds_layout.proofs.drafts.texts_of.Given as goal

abbrev pub invariant-loop-text : goal.invariant-loop-text
invariant-loop-text l = (l.fn.texts.items ≡ l.yielded ++ l.text-iterator.rest.items) × (map text_of l.kept.items ≡ map text_seen l.yielded)
