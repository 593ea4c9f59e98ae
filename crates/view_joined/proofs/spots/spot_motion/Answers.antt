use Rattle.std.proofs.Common.{Option, map, subst, sym}
use Rattle.part_origins.specs.Inside.{plain_spot}
use Rattle.part_origins.specs.declared.inside.Part.{Part}
use Rattle.view_netlist.specs.Drawing.{IsSmallShift}
use Rattle.view_joined.proofs.Small.{still_small}
use Rattle.view_joined.specs.Spots.{IsSpotMotion}
use Rattle.view_joined.proofs.spots.spot_motion.Goals as goal

pub returns-in-None-clause-small : goal.returns-in-None-clause-small
returns-in-None-clause-small c = subst IsSmallShift (sym c.still.ensures) still_small

pub returns-in-Some-clause-far : goal.returns-in-Some-clause-far
returns-in-Some-clause-far c s =
    let h = c.call_at.ensures.far s in
    (h.0, subst (λ (by : Option Part). IsSpotMotion (map plain_spot c.args.spots.now) c.args.drawings.now c.args.motions.now by h.0) (sym c.in-Some.is) h.1, h.2)
