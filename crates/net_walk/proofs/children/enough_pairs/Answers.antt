use Rattle.std.proofs.Common.{◌≡◌, List, [], sym, subst}
use Rattle.link_classes.specs.Classes.{AreInRange}
use Rattle.net_link_laws.specs.Places.{places_of}
use Rattle.net_walk.proofs.Enough.{enough, leading_of, led_range}
use Rattle.net_walk.proofs.Walking.{as_long}
use Rattle.net_walk.proofs.children.enough_pairs.Goals as goal
use Rattle.touching_pieces.specs.Pairs.{AddsTouching}
use Rattle.touching_pieces.specs.declared.pieces.Piece.{Piece}

pub alike_together-requires-clause-pairs : goal.alike_together-requires-clause-pairs
alike_together-requires-clause-pairs g c =
    let d = g.C.Cells.design c.args.cells.now in let w = g.C.Cells.wiring c.args.cells.now in let t = g.C.Cells.tables c.args.cells.now in
    let es = c.places-elements.result.now in let ls = c.in_ok-leaders.leaders.items in let all = c.in_ok-all.all.items in
    let touching = c.touching_pairs.new.out.items in let led = c.push_followers.new.out.items in
    let spans : c.in_ok-spans.spans.items ≡ leading_of ls all = rw (c.deref.ensures.value, c.deref-2.ensures.value) at c.in_ok-spans.ensures in
    let touch = rw (c.deref-3.ensures.value, c.deref-4.ensures.value, c.new-touching.ensures.items) at c.in_ok-touching_pairs.ensures in
    let leads = subst (λ (l : List Piece). AddsTouching l l [] touching) spans touch in
    let follow = rw c.deref-5.ensures.value at c.in_ok-push_followers.ensures in
    let range = led_range d w t c.args.cell es ls all touching led c.places-elements.ensures.all c.in_ok-leaders.ensures c.in_ok-all.ensures leads follow in
    rw c.deref-6.ensures.value (subst (λ n. AreInRange n led) (sym (as_long es (places_of d c.args.cell) c.places-elements.ensures.all)) range)

pub returns : goal.returns
returns g c =
    let d = g.C.Cells.design c.args.cells.now in let w = g.C.Cells.wiring c.args.cells.now in let t = g.C.Cells.tables c.args.cells.now in
    let es = c.places-elements.result.now in let ls = c.in_ok-leaders.leaders.items in let all = c.in_ok-all.all.items in
    let touching = c.touching_pairs.new.out.items in let led = c.push_followers.new.out.items in
    let spans : c.in_ok-spans.spans.items ≡ leading_of ls all = rw (c.deref.ensures.value, c.deref-2.ensures.value) at c.in_ok-spans.ensures in
    let touch = rw (c.deref-3.ensures.value, c.deref-4.ensures.value, c.new-touching.ensures.items) at c.in_ok-touching_pairs.ensures in
    let leads = subst (λ (l : List Piece). AddsTouching l l [] touching) spans touch in
    let follow = rw c.deref-5.ensures.value at c.in_ok-push_followers.ensures in
    enough d w t c.args.cell es ls all touching led c.places-elements.ensures.all c.in_ok-leaders.ensures c.in_ok-all.ensures leads follow c.in_ok-pairs.pairs.items (rw c.deref-6.ensures.value at c.in_ok-pairs.ensures)
