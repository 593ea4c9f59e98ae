use Rattle.std.proofs.Common.{◌∙◌, ap, map, length, List, ℕ}
use Rattle.netlist_join.specs.declared.join.Origin.{Origin}
use Rattle.netlist_turn.specs.Seen.{told_seen}
use Rattle.netlist_turn.specs.declared.made.Told.{Told}
use Rattle.netlist_run.specs.Sums.{told_text}
use Rattle.netlist_run.proofs.run.finished.Goals as goal

pub returns-clause-lines : goal.returns-clause-lines
returns-clause-lines c =
    c.in_ok-lines.ensures
    ∙ ap (λ (os : List Origin). told_text c.args.has_title c.args.files.now os c.args.joined.now.comments c.args.scale (map told_seen c.as_slice-told.result.now) (length c.as_slice-cards.result.now)) c.as_slice-origins.ensures.value
    ∙ ap (λ (ts : List Told). told_text c.args.has_title c.args.files.now c.args.joined.now.origins.items c.args.joined.now.comments c.args.scale (map told_seen ts) (length c.as_slice-cards.result.now)) c.as_slice-told.ensures.value
    ∙ ap (λ (ns : List ℕ). told_text c.args.has_title c.args.files.now c.args.joined.now.origins.items c.args.joined.now.comments c.args.scale (map told_seen c.args.turned.told.items) (length ns)) c.as_slice-cards.ensures.value
