use Rattle.std.proofs.Common.{◌≤◌, Bool, List, length, sym, ◌∙◌, ap, subst}
use Rattle.std.specs.List.{All}
use Rattle.rule_text.specs.Seen.{rules_seen}
use Rattle.rule_text.specs.Reaches.{MOST_REACH, reaches}
use Rattle.rule_text.specs.declared.rules.LayerRule.{LayerRule}
use Rattle.gate_phase.proofs.indexes.IndexedLayers.new.Goals as goal

pub all_indexes-requires-clause-layers : goal.all_indexes-requires-clause-layers
all_indexes-requires-clause-layers c = (rules_seen c.args.rules.now, c.requires.layers, ap (λ (l : List Bool). length l) c.deref.ensures.value ∙ c.in_ok-marks.ensures)

pub reaches-requires : goal.reaches-requires
reaches-requires c = subst (λ (l : List LayerRule). All (λ n. n ≤ MOST_REACH) (reaches l)) (sym c.as_slice-names.ensures.value) c.requires.rules.formed.near
