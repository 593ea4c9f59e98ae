use Rattle.std.proofs.Common.{◌≡◌, ℕ, Bool, List, map, length, subst, ap, ◌∙◌, arith}
use Rattle.std.specs.Prelude.{Option}
use Rattle.std.proofs.lemmas.List.{length-map}
use Rattle.net_model.specs.Rows.{plain_netlist, plain_circuit}
use Rattle.net_align.specs.Marks.{FindsSole, IsSole}
use Rattle.net_align.proofs.Marking.{called_long}
use Rattle.net_align.proofs.partners.partner_by_place.Goals as goal

pub unless_said-requires : goal.unless_said-requires
unless_said-requires c =
    let nl = c.args.schematic.now in
    let marks = c.deref.result.now in
    let b = c.in-Some.b in
    let sole : IsSole marks b = subst (λ (o : Option ℕ). FindsSole marks o) c.in-Some.is c.sole_unmarked.ensures in
    let same : length marks ≡ length (map plain_circuit nl.circuits.items) = ap (λ (t : List Bool). length t) (c.deref.ensures.value ∙ c.in_ok-called.ensures) ∙ called_long (plain_netlist nl) in
    let low = sole.here.low in
    let k = length-map nl.circuits.items plain_circuit in
    omega (arith, low, same, k)
