use Rattle.std.proofs.Common.{sym, subst}
use Rattle.netlist_file.specs.File.{HasNetlist}
use Rattle.netlist_file.specs.declared.file.NetlistFile.{NetlistFile}
use Rattle.rule_text.specs.Seen.{rules_seen}
use Rattle.netlist_file.proofs.file.extract_netlist.Goals as goal

pub returns : goal.returns
returns g c =
    let is = c.in_ok-cells.ensures in
    subst (λ (f : NetlistFile). HasNetlist c.args.layout.now (rules_seen c.args.rules.now) f) (sym c.file_of.ensures) (record {
      file = is.file c.in_ok-text.text.items c.in_ok-text.ensures;
      sound = is.sound;
      normal = is.normal;
    })
