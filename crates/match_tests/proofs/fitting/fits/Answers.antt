use Rattle.std.proofs.Common.{◌≡◌, Bool, true, length, refl}
use Rattle.std.proofs.lemmas.Result.{IfOk-weaker}
use Rattle.match_types.specs.Children.{children_of}
use Rattle.net_model.specs.Rows.{plain_circuit}
use Rattle.match_tests.specs.Fitting.{AreCallsFit, IsFit}
use Rattle.match_tests.proofs.Rows.{fitting}
use Rattle.match_tests.proofs.fitting.fits.Goals as goal

pub returns : goal.returns
returns c =
    let circuit = c.args.circuit.now in
    let children = children_of c.args.children.now in
    IfOk-weaker c.calls_fit.result
    (λ (good : Bool). good ≡ true → AreCallsFit circuit children (length circuit.calls.items))
    (λ (good : Bool). good ≡ true → IsFit (plain_circuit circuit) children)
    (λ good calls yes. fitting circuit children (c.if-not-devices_fit.ensures refl) (calls yes))
    c.calls_fit.ensures
