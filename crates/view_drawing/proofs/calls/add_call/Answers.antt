use Rattle.std.proofs.Common.{sym}
use Rattle.std.proofs.lemmas.Result.{err_from_is_err_and}
use Rattle.view_drawing.proofs.Fars.{err_as}
use Rattle.view_drawing.proofs.calls.add_call.Goals as goal

pub returns-in_err-keep-clause-far : goal.returns-in_err-keep-clause-far
returns-in_err-keep-clause-far c =
    let e = err_from_is_err_and c.from_residual.result c.from_residual.ensures.1 in
    rw (e.1, e.2) (λ s. (sym c.if-has_circuit.ensures, c.in_err-keep.ensures.far (err_as _ _ s)))
