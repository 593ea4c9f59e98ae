use Rattle.std.proofs.Common.{◌≡◌, false, true, refl}
use Rattle.zone_phase.proofs.Alone.{array_adds, none_adds}
use Rattle.zone_phase.proofs.references.push_reference.Goals as goal

pub push_alone-requires-clause-alone : goal.push_alone-requires-clause-alone
push_alone-requires-clause-alone c = c.if-not-is_alone.ensures.0 refl

pub returns-then-not-is_alone-clause-exact : goal.returns-then-not-is_alone-clause-exact
returns-then-not-is_alone-clause-exact c =
    array_adds c.args.frame.now.design.now c.args.zone.now c.args.parent c.args.index c.args.frame.now.key c.args.place.now c.args.frame.now.grown c.args.out.now.items c.push_array.new.out.items
    (λ a. let f : false ≡ true = c.if-not-is_alone.ensures.1 a in cc)
    c.in_ok-push_array.ensures.exact

pub returns-then-is_calm-clause-exact : goal.returns-then-is_calm-clause-exact
returns-then-is_calm-clause-exact c =
    none_adds c.args.frame.now.design.now c.args.zone.now c.args.parent c.args.index c.args.frame.now.key c.args.place.now c.args.frame.now.grown c.args.out.now.items (c.if-not-is_alone.ensures.0 refl) (c.if-is_calm.ensures.zone refl) (c.if-is_calm.ensures.own refl)
