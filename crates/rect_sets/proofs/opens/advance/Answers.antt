use Rattle.std.proofs.Common.{rules, ◌≡◌, w64}
use mir.Val.{SFits}
use Rattle.std.proofs.lemmas.Int.{to_z-of_z}
use Rattle.rect_sets.specs.Opens.{open_at, run_at, rect_of, fresh}
use Rattle.rect_sets.proofs.Joining.{advance_same, advance_closed, advance_freshly}
use Rattle.rect_sets.proofs.opens.advance.Goals as goal

pub returns-in_ok-push-in-Same : goal.returns-in_ok-push-in-Same
returns-in_ok-push-in-Same c =
    let t = c.in-Same.ensures in
    rw c.in_ok-push-in-Same.ensures.items (advance_same c.args.y c.args.opens.now c.args.runs.now c.args.j.now c.args.i.now c.args.next.now.items c.args.closed.now.items t.0 t.1 t.2 c.requires.apart)

pub returns-in_ok-push-in-Close : goal.returns-in_ok-push-in-Close
returns-in_ok-push-in-Close c =
    let fy : SFits w64 c.args.y = search rules in
    let t = c.in-Close.ensures in
    let made : c.rect_of.result ≡ rect_of c.args.y (open_at c.args.opens.now c.args.j.now) = simp to_z-of_z at c.rect_of.ensures in
    rw (c.in_ok-push-in-Close.ensures.items, made) (advance_closed c.args.y c.args.opens.now c.args.runs.now c.args.j.now c.args.i.now c.args.next.now.items c.args.closed.now.items c.requires.left.i_in t.0 t.1 c.requires.apart)

pub returns-in_ok-push-in-Fresh : goal.returns-in_ok-push-in-Fresh
returns-in_ok-push-in-Fresh c =
    let fy : SFits w64 c.args.y = search rules in
    let t = c.in-Fresh.ensures in
    let made : c.fresh.result ≡ fresh c.args.y (run_at c.args.runs.now c.args.i.now) = simp to_z-of_z at c.fresh.ensures in
    rw (c.in_ok-push-in-Fresh.ensures.items, made) (advance_freshly c.args.y c.args.opens.now c.args.runs.now c.args.j.now c.args.i.now c.args.next.now.items c.args.closed.now.items c.requires.left.j_in t.0 t.1 c.requires.apart)
