use Rattle.std.proofs.Common.{◌≡◌, ◌∙◌, rules}
use Rattle.rule_layers.specs.Meaning.{wiring_of}
use Rattle.rule_text.specs.Seen.{rules_seen}
use Rattle.net_phase.proofs.Wiring.{names_long, same_grounds}
use Rattle.net_phase.proofs.wires.find_wires.Goals as goal

pub returns : goal.returns
returns c =
    let r = rules_seen c.args.rules.now in
    let w = wiring_of r in
    let kept : c.in_ok-conductors.conductors ≡ c.len.result = search rules in
    record {
      conductors = kept ∙ c.len.ensures ∙ c.args.rules.now.names.ok.0 ∙ names_long r;
      joins = c.in_ok-joins.ensures;
      grounds = same_grounds w c.in_ok-grounds.grounds.lines.items c.in_ok-grounds.ensures.lines;
      globals = c.in_ok-grounds.ensures.globals;
    }
