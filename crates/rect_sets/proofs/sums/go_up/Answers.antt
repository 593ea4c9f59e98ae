use Rattle.std.proofs.Common.{arith}
use Rattle.std.proofs.lemmas.Int.{ints}
use Rattle.rect_sets.proofs.Summing.{step_on, step_next}
use Rattle.rect_sets.proofs.sums.go_up.Goals as goal

pub returns-then-begun-2 : goal.returns-then-begun-2
returns-then-begun-2 c = rw c.up_to.ensures (step_on c.args.begun.now c.args.end.now.y c.args.out.now.items (omega (arith, ints)) (omega (arith, ints)) c.requires.begun (omega (arith, ints)))

pub returns : goal.returns
returns c = rw (c.next_edge.ensures, c.in_ok-push_piece.ensures) (step_next c.args.begun.now c.args.end.now c.args.out.now.items (omega (arith, ints)))
