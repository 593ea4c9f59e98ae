use Rattle.std.proofs.Common.{◌∙◌, ℕ, subst}
use Rattle.std.specs.List.Sorted.{IsPermutation}
use Rattle.std.proofs.lemmas.List.Sorted.{IsNonDecreasingBy-from_sort}
use Rattle.layout_shapes.proofs.Reaching.{sorted}
use Rattle.layout_shapes.proofs.shapes.reached_cells.Goals as goal

pub returns : goal.returns
returns c =
    let found = c.sort_unstable.new.self.items in
    let order = c.in_ok-cells.ensures.items_if_clones_equal (λ x y e. e) ∙ c.order.ensures in
    let perm : IsPermutation c.args.design.now.order found = subst (λ ks. IsPermutation ks found) order c.sort_unstable.ensures.permutation in
    sorted c.args.design.now found c.sound.ensures.order perm (IsNonDecreasingBy-from_sort (λ (k : ℕ). k) found c.sort_unstable.ensures.sorted)
