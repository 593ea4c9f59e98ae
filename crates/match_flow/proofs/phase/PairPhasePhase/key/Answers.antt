use Rattle.std.proofs.Common.{◌∙◌, ap}
use Rattle.match_flow.proofs.Paired.{key_of}
use Rattle.match_flow.proofs.phase.PairPhasePhase.key.Goals as goal

pub returns : goal.returns
returns c =
    ap (λ a. key_of a c.of-2.result.value c.of-3.result.value c.of-4.result.value) c.of.ensures ∙ (ap (λ b. key_of c.self.inside.left.now b c.of-3.result.value c.of-4.result.value) c.of-2.ensures
    ∙ (ap (λ n. key_of c.self.inside.left.now c.self.inside.right.now n c.of-4.result.value) c.of-3.ensures
    ∙ (ap (λ t. key_of c.self.inside.left.now c.self.inside.right.now c.self.inside.limit t) c.of-4.ensures ∙ ap (λ v. key_of v.left v.right v.limit v.same_pins) c.self.view_is)))
