use Rattle.std.proofs.Common.{◌≡◌, ◌+◌, ◌∙◌, List, [], ◌∷◌, ◌++◌, ap, append_assoc, drop, get_or, sym}
use Rattle.std.proofs.lemmas.Option.{slice_get-get_or}
use Rattle.std.proofs.lemmas.Result.{err_from_is_err_and}
use Rattle.geo_base.specs.declared.motion.Motion.{Motion}
use Rattle.net_walk.proofs.Walking.{no_element}
use Rattle.net_walk.specs.declared.cells.Element.{Element}
use Rattle.view_drawing.proofs.Fars.{called_one, err_as}
use Rattle.view_drawing.proofs.Placing.{drop_at}
use Rattle.view_drawing.specs.Calls.{called_motions}
use Rattle.view_drawing.proofs.calls.call_motions.Goals as goal

pub returns-in_err-add_call-clause-far : goal.returns-in_err-add_call-clause-far
returns-in_err-add_call-clause-far c =
    let e = err_from_is_err_and c.from_residual-in_err-add_call.result c.from_residual-in_err-add_call.ensures.1 in
    let es = c.args.elements.now in
    let k = c.elements.k in
    rw (e.1, e.2) (λ s. (k, get_or es k no_element, slice_get-get_or es k no_element c.elements-test.true, c.in_err-add_call.ensures.far (err_as _ _ s)))

pub elements-preserved : goal.elements-preserved
elements-preserved c =
    let table = c.args.circuits.now in
    let es = c.args.elements.now in
    let k = c.elements.k in
    let e = get_or es k no_element in
    let out = c.elements.out.items in
    let rest = drop (k + 1) es in
    let step : drop k es ≡ e ∷ rest = drop_at es k e (slice_get-get_or es k no_element c.elements-test.true) in (
      ap (λ (l : List Motion). l ++ called_motions table rest) c.in_ok-add_call.ensures.added ∙ append_assoc out (called_motions table (e ∷ [])) (called_motions table rest)
          ∙ ap (λ (l : List Motion). out ++ l) (sym (called_one table e rest)) ∙ ap (λ (l : List Element). out ++ called_motions table l) (sym step) ∙ c.elements.invariant.0,
      c.in_ok-add_call.ensures.small c.elements.invariant.1,
    )
