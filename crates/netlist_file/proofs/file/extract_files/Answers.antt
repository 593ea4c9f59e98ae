use Rattle.std.proofs.Common.{rules, sym, subst}
use Rattle.net_model.specs.Rows.{plain_netlist}
use Rattle.netlist_file.specs.File.{HasNetlist}
use Rattle.netlist_file.specs.declared.file.NetlistFile.{NetlistFile}
use Rattle.rule_text.specs.Seen.{rules_seen}
use Rattle.spice_text.specs.Written.{IsWritten}
use Rattle.netlist_file.proofs.file.extract_files.Goals as goal

pub returns-in_ok-text-in-Whole : goal.returns-in_ok-text-in-Whole
returns-in_ok-text-in-Whole g c =
    let is = c.in_ok-cells.ensures in
    let text = c.in_ok-text-in-Whole.field-0.items in
    let written : IsWritten (plain_netlist c.in_ok-cells.cells.netlist) text = search rules in
    record {
      shapes = search rules;
      netlist = subst (λ (f : NetlistFile). HasNetlist c.args.layout.now (rules_seen c.args.rules.now) f) (sym c.file_of-file.ensures) (record {
        file = is.file text written;
        sound = is.sound;
        normal = is.normal;
      });
    }
