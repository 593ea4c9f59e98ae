use Rattle.std.proofs.Common.{rules, arith, w64, ◌≤ℤ◌}
use mir.Val.{SFits}
use Rattle.std.proofs.lemmas.Int.{ints}
use Rattle.rect_sets.proofs.Striping.{passed_first}
use Rattle.rect_sets.proofs.parts.passed_lines.Goals as goal

pub returns-then-index-x : goal.returns-then-index-x
returns-then-index-x c =
    let f : SFits w64 c.index.result.now = search rules in
    let g : SFits w64 c.args.x = search rules in
    let le : c.index.result.now ≤ℤ c.args.x = omega (arith, ints, c.if-index-x.true) in
    passed_first c.args.x c.stripe_of-guess.result c.args.lines.now.at.items c.index.result.now c.requires (omega arith) (omega arith) c.index.ensures le
