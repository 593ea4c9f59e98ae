use Rattle.std.proofs.Common.{◌≡◌, ◌∙◌, Some, List, ap, sym, subst, arith, length, slice_get}
use Rattle.std.proofs.lemmas.Option.{slice_get-get_or}
use Rattle.geo_base.specs.declared.shapes.Rect.{Rect}
use Rattle.layer_phase.specs.Keeps.{IsZoneAt}
use Rattle.layer_phase.specs.Looks.{HaveDisturbed}
use Rattle.cell_context.specs.Placed.{Grows}
use Rattle.layer_phase.proofs.Held.{inputs_more}
use Rattle.layer_phase.proofs.exposed.push_all_disturbed.Goals as goal

pub loop-name-preserved : goal.loop-name-preserved
loop-name-preserved c =
    let names = c.args.names.now in let i = c.loop-name.name in let rule = c.index-names-name.result in
    let at : slice_get names i ≡ Some rule = slice_get-get_or names i rule c.loop-name-test.true ∙ ap Some (sym c.index-names-name.is) in
    let e = c.in_ok-push_disturbed.ensures in
    record {
      rects = e.rects;
      zones = inputs_more names i rule (λ name key. (zone : List Rect) → IsZoneAt c.args.zones.now c.args.cell name zone → Grows zone c.push_disturbed.new.out.items) at
          (λ name key lt is zone there q h. e.grows q (c.loop-name.invariant.zones name key lt is zone there q h)) e.zone;
    }

pub returns-clause-zones : goal.returns-clause-zones
returns-clause-zones c =
    let end : c.loop-name.name ≡ length c.args.names.now = (let a = c.loop-name-test.false in let b = c.loop-name.auto.name-end in omega arith) in
    subst (λ n. HaveDisturbed c.args.zones.now c.args.names.now n c.args.cell c.loop-name.out.items) end c.loop-name.invariant.zones
