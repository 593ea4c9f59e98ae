use Rattle.std.proofs.Common.{◌<◌, ◌≤◌, ℕ, Option, length, set, sym, subst, arith}
use Rattle.view_drawing.specs.Nets.{IsPushed}
use Rattle.view_drawing.proofs.Listing.{pushed, pushed_past}
use Rattle.view_drawing.proofs.nets.push_shape.Goals as goal

pub returns-in_ok-push : goal.returns-in_ok-push
returns-in_ok-push c =
    let lists = c.args.lists.now.items in
    let k = c.in-Some.k in
    let p = c.args.piece.now in
    let lt : k < length lists = omega (arith, c.if-k-len.true) in
    subst (λ (n : Option ℕ). IsPushed n p lists (set lists k c.push.new.self)) (sym c.in-Some.is)
    (pushed lists k c.index_mut.result.now c.push.new.self p lt c.index_mut.ensures.value c.in_ok-push.ensures.items)

pub returns-else-k-len : goal.returns-else-k-len
returns-else-k-len c =
    let lists = c.args.lists.now.items in
    let k = c.in-Some.k in
    let p = c.args.piece.now in
    let past : length lists ≤ k = omega (arith, c.if-k-len.false) in
    subst (λ (n : Option ℕ). IsPushed n p lists lists) (sym c.in-Some.is) (pushed_past lists k p past)
