use Rattle.std.proofs.Common.{◌∙◌, sym, subst, arith}
use Rattle.std.specs.List.{All}
use Rattle.geo_base.specs.Near.{IsNearRect}
use Rattle.cell_graph.specs.Grown.{IsInGrown}
use Rattle.layer_phase.proofs.Exposing.{exposed_held}
use Rattle.layer_phase.proofs.exposed.find_exposed.Goals as goal

pub returns-in-None-clause-near : goal.returns-in-None-clause-near
returns-in-None-clause-near c = subst (All IsNearRect) (sym c.empty.ensures) (λ k r lt. absurd (let z : ⊥ = omega (arith, lt) in z))

pub returns-in-None-clause-exposed : goal.returns-in-None-clause-exposed
returns-in-None-clause-exposed c = λ s e.
    absurd (subst (λ o. IsInGrown c.args.view.now.reach o s) (sym c.hull.ensures ∙ c.in-None.is) (exposed_held c.args.view.now.reach c.args.view.now.design.now c.args.view.now.zones.now c.args.view.now.names.now c.args.cell s c.sound.ensures e))
