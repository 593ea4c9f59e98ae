use Rattle.std.proofs.Common.{◌≡◌, ◌<◌, ◌∙◌, ℕ, List, length, get_or, ap, subst, arith}
use Rattle.flat_layout.specs.Circuits.{true_places}
use Rattle.circuit_phase.proofs.Marked.{place_in}
use Rattle.circuit_phase.proofs.drawn.drawn_names.Goals as goal

pub bases_of-requires : goal.bases_of-requires
bases_of-requires c =
    let is : c.deref-2.result.now ≡ true_places 0 c.args.drawn.now = c.deref-2.ensures.value ∙ c.in_ok-nets.ensures in
    let long : length c.deref.result.now ≡ length c.args.drawn.now = ap length c.deref.ensures.value ∙ c.requires.count in
    λ i lt.
    let low = place_in 0 c.args.drawn.now i (subst (λ (l : List ℕ). i < length l) is lt) in
    let e = ap (λ (l : List ℕ). get_or l i 0) is in
    omega (arith, low, e, long)
