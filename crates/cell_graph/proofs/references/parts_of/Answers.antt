use Rattle.std.proofs.Common.{◌≡◌, ◌++◌, ◌∷◌, [], true, is_ok, if◌then◌else◌, Bool, List, ◌+◌, sym, ap, subst, ◌∙◌}
use Rattle.std.proofs.lemmas.Result.{err_from_is_err_and}
use Rattle.cell_graph.specs.Parts.{Part}
use Rattle.cell_graph.specs.Naming.{ArePartsTo}
use Rattle.cell_graph.proofs.Looking.{one_more_part, none_loose}
use Rattle.cell_graph.proofs.references.parts_of.Goals as goal

pub places_at-requires-clause-before : goal.places_at-requires-clause-before
places_at-requires-clause-before c = none_loose c.args.cells.now c.loop-i.i c.loop-i.parts.items c.loop-i.invariant

pub returns-in_err-places-clause-fault : goal.returns-in_err-places-clause-fault
returns-in_err-places-clause-fault c top =
    let p = err_from_is_err_and c.from_residual.result c.from_residual.ensures.1 in
    rw (p.1, p.2) (c.in_err-places.ensures.fault top)

pub loop-i-preserved : goal.loop-i-preserved
loop-i-preserved c =
    let ok : is_ok c.push.result ≡ true = sym c.in_ok-map_err.ensures.variant in
    let old = c.loop-i.parts.items in
    let items : c.push.new.self.items ≡ old ++ c.in_ok-places.places ∷ [] = c.push.ensures.items ∙ ap (λ (b : Bool). if b then old ++ c.in_ok-places.places ∷ [] else old) ok in
    subst (λ (ps : List Part). ArePartsTo c.args.cells.now (c.loop-i.i + 1) ps) (sym items)
    (one_more_part c.args.cells.now c.loop-i.i old c.in_ok-places.places c.in_ok-places.ensures.places c.loop-i.invariant)
