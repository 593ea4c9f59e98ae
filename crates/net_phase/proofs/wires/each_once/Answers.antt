use Rattle.std.proofs.Common.{◌≡◌, ◌↔◌, ℕ, List, subst}
use Rattle.std.specs.List.{Contains}
use Rattle.std.specs.List.Sorted.{IsPermutation}
use Rattle.net_phase.proofs.Results.{if_ok}
use Rattle.net_phase.proofs.Wiring.{once_sorted, same_pair}
use Rattle.net_phase.proofs.wires.each_once.Goals as goal

pub returns : goal.returns
returns c =
    let lines = c.args.lines.now in
    let sorted = c.sort_unstable.new.self.items in
    let same : c.in_ok-sorted.sorted.items ≡ lines = c.in_ok-sorted.ensures.items_if_clones_equal (λ x y e. same_pair x y e.0 e.1) in
    let moved : IsPermutation lines sorted = subst (λ (l : List (ℕ × ℕ)). IsPermutation l sorted) same c.sort_unstable.ensures.permutation in
    if_ok _ _ c.unlike_last.result (λ v all.
    once_sorted sorted lines v.items moved (λ x. subst (λ (l : List (ℕ × ℕ)). Contains v.items x ↔ Contains l x) c.deref.ensures.value (all x))) c.unlike_last.ensures
