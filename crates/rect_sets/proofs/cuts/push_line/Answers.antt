use Rattle.std.proofs.Common.{rules, arith, w64, ◌<ℤ◌}
use mir.Val.{SFits}
use Rattle.std.proofs.lemmas.Int.{ints, to_z-of_z}
use Rattle.rect_sets.proofs.Striping.{rising_none, rising_pushed}
use Rattle.rect_sets.proofs.cuts.push_line.Goals as goal
use Rattle.rect_sets.proofs.cuts.push_line.Goals.{then-count-eq0-via-then-count-eq0, then-count-eq0-via-else-count-eq0+then-index-place}

pub returns-in_ok-push : goal.returns-in_ok-push
returns-in_ok-push c =
    let g : SFits w64 c.args.place = search rules in
    rw (c.in_ok-push.ensures.items, to_z-of_z w64 c.args.place g) (elim c.then-count-eq0.branch [
      | then-count-eq0-via-then-count-eq0 w ↦ rising_none c.args.at.now.items c.args.place (omega (arith, w.if-count-eq0.true))
      | then-count-eq0-via-else-count-eq0+then-index-place w ↦
          (let f : SFits w64 w.index.result.now = search rules in
          let lt : w.index.result.now <ℤ c.args.place = omega (arith, ints, w.if-index-place.true) in
          rising_pushed c.args.at.now.items c.args.place w.index.result.now c.len-count.result c.requires (omega (arith, w.if-count-eq0.false)) (omega arith) w.index.ensures lt)
    ])
