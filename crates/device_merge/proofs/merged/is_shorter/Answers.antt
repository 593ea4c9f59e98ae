use Rattle.std.proofs.Common.{rules, ◌≡◌, ◌∙◌, ℕ, ap, ap₂, nat_lt, length, sym}
use Rattle.std.proofs.lemmas.List.{length-map}
use Rattle.merge_laws.specs.Grouped.{groups, merged_row}
use Rattle.net_model.specs.Rows.{plain_circuit, plain_device}
use Rattle.plain_netlist.specs.Netlist.{Circuit}
use Rattle.device_merge.proofs.merged.is_shorter.Goals as goal

pub returns : goal.returns
returns c =
    let given = plain_circuit c.args.c.now in
    let own = c.args.merged.now.devices.items in
    let few : length own ≡ length (groups given.devices) = sym (length-map own plain_device) ∙ ap (λ (x : Circuit). length x.devices) c.requires ∙ length-map (groups given.devices) merged_row in
    let all : length c.args.c.now.devices.items ≡ length given.devices = sym (length-map c.args.c.now.devices.items plain_device) in
    search rules ∙ ap₂ nat_lt few all
