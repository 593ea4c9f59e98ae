use Rattle.std.proofs.Common.{◌≡◌, ◌++◌, ◌∷◌, [], ℕ, List, ap, sym, ◌∙◌, rules}
use Rattle.part_origins.proofs.Standing.{range_next}
use Rattle.part_origins.proofs.inside.own_nets.Goals as goal

pub loop-n-preserved : goal.loop-n-preserved
loop-n-preserved c =
    let pushed : c.push.new.self.items ≡ c.loop-n.nets.items ++ c.loop-n.n ∷ [] = search rules in
    pushed ∙ (ap (λ (t : List ℕ). t ++ c.loop-n.n ∷ []) c.loop-n.invariant ∙ sym (range_next c.loop-n.n))
