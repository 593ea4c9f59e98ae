use Rattle.std.proofs.Common.{arith}
use Rattle.std.proofs.lemmas.Int.{ints}
use Rattle.flat_laws.proofs.Squares.{same_square}
use Rattle.flat_slow.proofs.moves.origin.Goals as goal

pub returns : goal.returns
returns c =
    let x = c.unturned.ensures.x in
    let y = c.unturned.ensures.y in
    let dx = c.in_ok-x.ensures.1 in
    let dy = c.in_ok-y.ensures.1 in
    same_square _ _ (omega (arith, ints)) (omega (arith, ints))
