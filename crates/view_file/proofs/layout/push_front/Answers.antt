use Rattle.std.proofs.Common.{ℕ, List, ◌++◌, ◌∙◌, map, ap}
use Rattle.net_model.specs.Rows.{plain_circuit}
use Rattle.rule_text.specs.Seen.{rules_seen}
use Rattle.view_file.specs.Layout.{device_text, layer_text, top_text, unit_row}
use Rattle.view_file.proofs.Joins.{four_texts}
use Rattle.view_file.proofs.layout.push_front.Goals as goal

pub returns : goal.returns
returns c =
    let rules = rules_seen c.args.rules.now in
    let p = c.args.picture.now in
    four_texts c.args.out.now.items (top_text c.args.top.now) (unit_row c.args.unit.now) (layer_text p.names.layers.items rules) (device_text p (map plain_circuit c.args.circuits.now))
    c.push_top.new.out.items c.push_unit.new.out.items c.push_all_layers.new.out.items c.push_devices.new.out.items
    c.in_ok-push_top.ensures
    c.in_ok-push_unit.ensures
    (c.in_ok-push_all_layers.ensures ∙ ap (λ (names : List (List ℕ)). c.push_unit.new.out.items ++ layer_text names rules) c.deref.ensures.value)
    c.in_ok-push_devices.ensures
