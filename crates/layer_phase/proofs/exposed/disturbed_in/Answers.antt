use Rattle.std.proofs.Common.{◌∙◌, ◌^◌, sym}
use Rattle.std.proofs.lemmas.Bool.{and_parts}
use Rattle.geo_base.specs.Rects.{has}
use Rattle.rect_sets.specs.Rects.{covers}
use Rattle.layer_phase.proofs.Around.{set_within}
use Rattle.layer_phase.proofs.Exposing.{hold}
use Rattle.layer_phase.proofs.exposed.disturbed_in.Goals as goal

pub returns-clause-within : goal.returns-clause-within
returns-clause-within c =
    let w = c.args.window.now in
    set_within (2 ^ 37) w c.in_ok-part.part c.requires.window.near (λ q e. (and_parts (covers c.in_ok-all.all q) (has w q) (sym (c.in_ok-part.ensures q) ∙ e)).1)

pub returns-clause-zones : goal.returns-clause-zones
returns-clause-zones c =
    hold c.args.zones.now c.args.names.now c.args.cell c.args.window.now c.push_all_disturbed.new.out.items c.in_ok-all.all c.in_ok-part.part c.in_ok-push_all_disturbed.ensures.zones c.in_ok-all.ensures c.in_ok-part.ensures
