use Rattle.law_samples.specs.Latch.{untold}
use Rattle.std.proofs.Common.{refl}
use Rattle.composed_laws.proofs.Matching.{matched_tops}
use Rattle.law_samples.specs.Chain.{layout, schematic, same, left, layout_alignment, schematic_alignment, answers, pairings}
use Rattle.law_samples.proofs.chain.Answering.{answered}
use Rattle.law_samples.proofs.chain.Chained.{chain_pair, all_flattened, further}
use Rattle.law_samples.proofs.chain.Partnered.{names_apart, namesakes}
use Rattle.law_samples.proofs.chain.Sound.{sound_layout, sound_schematic, normal_layout, normal_schematic, good_layout}
use Rattle.law_samples.proofs.chain.Widths.{no_width}
use Rattle.law_samples.proofs.chain.flattened_and_matched.Goals as goal

pub returns-clause-matched : goal.returns-clause-matched
returns-clause-matched c = (
  sound_layout,
  sound_schematic,
  normal_layout,
  normal_schematic,
  good_layout,
  (chain_pair, answered, (λ k x h. refl), matched_tops layout schematic 3 1 same left schematic layout_alignment schematic_alignment chain_pair untold answers pairings answered (λ k x h. refl)),
)

pub returns-clause-all_flattened : goal.returns-clause-all_flattened
returns-clause-all_flattened c = all_flattened

pub returns-clause-names : goal.returns-clause-names
returns-clause-names c = names_apart

pub returns-clause-namesakes : goal.returns-clause-namesakes
returns-clause-namesakes c = namesakes

pub returns-clause-further : goal.returns-clause-further
returns-clause-further c = further

pub returns-clause-width : goal.returns-clause-width
returns-clause-width c = no_width
