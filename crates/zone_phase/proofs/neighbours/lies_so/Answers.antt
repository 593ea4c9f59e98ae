use Rattle.std.proofs.Common.{◌≡◌, ◌∙◌, Some, ap, sym}
use Rattle.std.proofs.lemmas.Option.{slice_get-get_or}
use Rattle.zone_phase.specs.declared.neighbours.Neighbour.{Neighbour}
use Rattle.zone_phase.proofs.Nearing.{some_here}
use Rattle.zone_phase.proofs.neighbours.lies_so.Goals as goal

pub returns-in-Some : goal.returns-in-Some
returns-in-Some c =
    let h = c.in-Some.known.now in
    let l = c.in-Some.ensures.lookup in
    λ e. some_here (λ (m : Neighbour). (m.other.cell ≡ c.args.cell) × (m.relative ≡ c.args.relative.now)) c.args.list.now c.args.position h
    (slice_get-get_or c.args.list.now c.args.position h l.3.0 ∙ ap Some (sym l.1)) (c.is_alike.ensures e)
