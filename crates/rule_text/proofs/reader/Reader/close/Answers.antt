use Rattle.rule_text.proofs.SoundLemmas.{sound}
use Rattle.rule_text.specs.Seen.{rules_seen}
use Rattle.rule_text.proofs.reader.Reader.close.Goals as goal

pub returns-clause-sound : goal.returns-clause-sound
returns-clause-sound c =
    let r = rules_seen c.args.self.rules in
    λ formed. rw c.into_rules-rules.ensures (sound r c.args.self.device_lines.items c.args.self.more_lines.items formed c.requires.lines c.requires.other_lines c.in_ok-connected.ensures.ok)
