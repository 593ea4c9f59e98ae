use Rattle.std.proofs.Common.{◌≡◌, ◌-◌, inr, List, ◌∷◌, length, take, drop, get_or, sym, subst, rules}
use Rattle.view_words.proofs.Rows.{first_and_rest}
use Rattle.view_words.specs.Numbers.{IsSmallRect}
use Rattle.view_shapes.proofs.Adding.{no_piece}
use Rattle.view_shapes.specs.Pieces.{AreSmall, HasFar}
use Rattle.view_shapes.specs.declared.pieces.Piece.{Piece}
use Rattle.view_shapes.proofs.pieces.are_small.Goals as goal

pub pieces-preserved : goal.pieces-preserved
pieces-preserved c =
    let rest = c.pieces.rest.now in
    let first : Piece = get_or rest 0 no_piece in
    let after = take (length rest - 1) (drop 1 rest) in
    let e : rest ≡ first ∷ after = first_and_rest rest no_piece c.in-len1-up.len_at_least in
    let one : IsSmallRect first.rect = search rules in (
      (λ small. c.pieces.invariant.0 (subst (λ (z : List Piece). AreSmall z) (sym e) (one, small))),
      (λ far. c.pieces.invariant.1 (subst (λ (z : List Piece). HasFar z) (sym e) (inr far))),
    )
