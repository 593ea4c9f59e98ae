use Rattle.std.proofs.Common.{refl, subst}
use Rattle.geo_base.specs.declared.shapes.Square.{Square}
use Rattle.rect_sets.specs.Rects.{IsCanonical}
use Rattle.cell_graph.specs.Linked.{plain}
use Rattle.rule_text.specs.Seen.{rules_seen}
use Rattle.gate_shapes.specs.Sets.{in_set}
use Rattle.gate_phase.specs.Own.{unit_window}
use Rattle.gate_phase.proofs.Holding.{close_near, close_windows, held_near, part_windows, unit_has, unit_near}
use Rattle.gate_phase.proofs.Numbering.{device_is, known_device}
use Rattle.gate_phase.proofs.Telling.{below_told, kept_flat, settled_told}
use Rattle.gate_phase.proofs.own.own_gate.Goals as goal

pub close_to-requires : goal.close_to-requires
close_to-requires c = held_near c.args.at.now.reach c.args.at.now.site.design.now c.args.at.now.site.cell c.args.part c.requires.ready.most c.sound.ensures c.requires.held

pub is_own-requires-clause-part : goal.is_own-requires-clause-part
is_own-requires-clause-part c = held_near c.args.at.now.reach c.args.at.now.site.design.now c.args.at.now.site.cell c.args.part c.requires.ready.most c.sound.ensures c.requires.held

pub is_own-requires-clause-near : goal.is_own-requires-clause-near
is_own-requires-clause-near c = close_near c.args.at.now.reach c.args.at.now.site.design.now c.args.at.now.site.cell c.args.part c.in_ok-close.close c.requires.ready.most c.sound.ensures c.requires.held c.in_ok-close.ensures

pub is_own-requires-clause-windows : goal.is_own-requires-clause-windows
is_own-requires-clause-windows c =
    close_windows c.args.at.now.reach c.args.at.now.site.design.now c.args.at.now.site.cell c.args.part c.in_ok-close.close c.requires.ready.most c.sound.ensures c.requires.held c.in_ok-close.ensures (subst IsCanonical c.close.view_is c.close.invariant)

pub is_own-requires-clause-least : goal.is_own-requires-clause-least
is_own-requires-clause-least c = unit_near c.args.at.now.reach c.args.at.now.site.design.now c.args.at.now.site.cell c.args.part c.args.least c.requires.ready.most c.sound.ensures c.requires.held c.requires.least.has

pub returns-then-not-branch : goal.returns-then-not-branch
returns-then-not-branch c = λ u at is settled.
    let d = c.args.at.now.site.design.now in let r = rules_seen c.args.at.now.site.rules.now in let z = c.args.at.now.site.zones.now in let cell = c.args.at.now.site.cell in let n = c.args.at.now.number in
    let part = c.args.part in let close = c.in_ok-close.close in let least = c.args.least in let inside = c.requires.least.has in let ready = c.requires.ready.site in
    let flat = λ (a : Square) (e : in_set part a). kept_flat (plain d) cell u.gate a (is.kept a e) in
    let told = is.told least inside in
    let miss = (settled_told d r z cell n u c.sound.ensures ready.zones ready.reached at part close least told flat c.in_ok-close.ensures c.args.at.now.reach (c.requires.ready.reach u at)).1 settled in
    (below_told d r z cell n u c.sound.ensures ready.zones ready.reached at part close least told flat c.in_ok-close.ensures settled (unit_window least) (unit_has least) c.args.at.now.reach (c.requires.ready.reach u at)).0 (c.in_ok-is_own.ensures.below c.if-not-branch.true miss)

pub shape_in-requires-clause-device : goal.shape_in-requires-clause-device
shape_in-requires-clause-device c = known_device (rules_seen c.args.at.now.site.rules.now) c.args.at.now.number c.args.at.now.device c.requires.ready.site.rules c.requires.ready.device

pub shape_in-requires-clause-some : goal.shape_in-requires-clause-some
shape_in-requires-clause-some c = (c.args.least, c.requires.least.has)

pub shape_in-requires-clause-part : goal.shape_in-requires-clause-part
shape_in-requires-clause-part c = part_windows c.args.at.now.reach c.args.at.now.site.design.now c.args.at.now.site.cell c.args.part c.requires.ready.most c.sound.ensures c.requires.held (subst IsCanonical c.part.view_is c.part.invariant)

pub shape_in-requires-clause-near : goal.shape_in-requires-clause-near
shape_in-requires-clause-near c = held_near c.args.at.now.reach c.args.at.now.site.design.now c.args.at.now.site.cell c.args.part c.requires.ready.most c.sound.ensures c.requires.held

pub shape_in-requires-clause-windows : goal.shape_in-requires-clause-windows
shape_in-requires-clause-windows c = close_windows c.args.at.now.reach c.args.at.now.site.design.now c.args.at.now.site.cell c.args.part c.in_ok-close.close c.requires.ready.most c.sound.ensures c.requires.held c.in_ok-close.ensures (subst IsCanonical c.close.view_is c.close.invariant)

pub returns : goal.returns
returns c = λ u at is.
    let d = c.args.at.now.site.design.now in let r = rules_seen c.args.at.now.site.rules.now in let z = c.args.at.now.site.zones.now in let cell = c.args.at.now.site.cell in let n = c.args.at.now.number in
    let part = c.args.part in let close = c.in_ok-close.close in let least = c.args.least in let inside = c.requires.least.has in let ready = c.requires.ready.site in
    let flat = λ (a : Square) (e : in_set part a). kept_flat (plain d) cell u.gate a (is.kept a e) in
    let told = is.told least inside in
    let yes = c.if-not-branch.false in
    let settled = (settled_told d r z cell n u c.sound.ensures ready.zones ready.reached at part close least told flat c.in_ok-close.ensures c.args.at.now.reach (c.requires.ready.reach u at)).0 (c.in_ok-is_own.ensures.kept yes) in
    let squares = told.squares settled in (
      refl,
      (
        refl,
        record {
          listed = record {
            settled = settled;
            new = λ b. c.in_ok-is_own.ensures.new yes ((below_told d r z cell n u c.sound.ensures ready.zones ready.reached at part close least told flat c.in_ok-close.ensures settled (unit_window least) (unit_has least) c.args.at.now.reach (c.requires.ready.reach u at)).1 b);
          };
          least = record { has = (squares least).0 inside; least = λ q i. c.requires.least.least q ((squares q).1 i) };
          area = squares;
          shape = c.in_ok-shape.ensures u least (device_is r n c.args.at.now.device u c.requires.ready.device at) (record { settled = settled; squares = squares; are_close = c.in_ok-close.ensures });
        },
      ),
    )
