use Rattle.std.proofs.Common.{rules}
use Rattle.rect_sets.specs.Levels.{HasRange}
use Rattle.rect_sets.proofs.Ranging.{added_one}
use Rattle.rect_sets.proofs.levels.push_other.Goals as goal

pub returns-in_ok-push : goal.returns-in_ok-push
returns-in_ok-push c =
    let none : HasRange c.args.below.now c.args.rect.now → ⊥ = search rules in
    rw c.in_ok-push.ensures.items (added_one c.args.below.now c.args.out.now.items c.args.rect.now none)
