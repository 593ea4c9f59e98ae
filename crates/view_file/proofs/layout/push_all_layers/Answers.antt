use Rattle.std.proofs.Common.{ℕ, List, ◌++◌, ◌∙◌, ap}
use Rattle.rule_text.specs.declared.rules.LayerRule.{LayerRule}
use Rattle.view_file.specs.Layers.{connect_rows, global_rows, layer_rows, name_row, region_layer}
use Rattle.view_file.proofs.Joins.{four_texts}
use Rattle.view_file.proofs.layout.push_all_layers.Goals as goal

pub returns : goal.returns
returns c =
    let names = c.args.names.now in
    let rules = c.args.rules.now in
    let out = c.args.out.now.items in
    four_texts out (layer_rows rules.names.items) (name_row region_layer) (connect_rows names rules.connects.items) (global_rows names rules.globals.items)
    c.push_layers.new.out.items c.push_name_row.new.out.items c.push_connects.new.out.items c.push_globals.new.out.items
    (c.in_ok-push_layers.ensures ∙ ap (λ (rs : List LayerRule). out ++ layer_rows rs) c.deref.ensures.value)
    c.in_ok-push_name_row.ensures
    (c.in_ok-push_connects.ensures ∙ ap (λ (cs : List (ℕ × ℕ)). c.push_name_row.new.out.items ++ connect_rows names cs) c.deref-2.ensures.value)
    (c.in_ok-push_globals.ensures ∙ ap (λ (gs : List (ℕ × List ℕ)). c.push_connects.new.out.items ++ global_rows names gs) c.deref-3.ensures.value)
