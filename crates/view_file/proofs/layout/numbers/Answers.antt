use Rattle.std.proofs.Common.{◌++◌, ◌∷◌, ◌∙◌, [], ℕ, List, sym, ap}
use Rattle.view_file.proofs.Ranges.{next}
use Rattle.view_file.proofs.layout.numbers.Goals as goal

pub numbers-preserved : goal.numbers-preserved
numbers-preserved c = c.in_ok-push.ensures.items ∙ ap (λ (l : List ℕ). l ++ c.numbers.k ∷ []) c.numbers.invariant ∙ sym (next c.numbers.k)
