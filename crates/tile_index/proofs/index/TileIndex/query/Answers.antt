use Rattle.std.proofs.Common.{◌≡◌, ◌∙◌, subst, ap, ℕ}
use Rattle.std.specs.List.Sorted.{IsPermutation}
use Rattle.std.proofs.lemmas.List.Sorted.{IsNonDecreasingBy-from_sort}
use Rattle.tile_index.specs.Windows.{ArePositions}
use Rattle.tile_index.specs.Entries.{hits}
use Rattle.tile_index.proofs.Positions.{positions_right}
use Rattle.tile_index.proofs.index.TileIndex.query.Goals as goal

pub returns : goal.returns
returns c =
    let entries = c.self.inside.entries.items in
    let found = c.sort_unstable.new.self.items in
    let hits_are : c.in_ok-found.found.items ≡ hits c.args.w entries = c.in_ok-found.ensures {u = tt} ∙ ap (hits c.args.w) c.deref-2.ensures.value in
    let perm : IsPermutation (hits c.args.w entries) found = subst (λ ks. IsPermutation ks found) hits_are c.sort_unstable.ensures.permutation in
    subst (λ rects. ArePositions rects c.args.w found) c.self.view_is
    (positions_right _ entries c.args.w found c.self.invariant.entries_are perm
    (IsNonDecreasingBy-from_sort (λ (k : ℕ). k) found c.sort_unstable.ensures.sorted))
