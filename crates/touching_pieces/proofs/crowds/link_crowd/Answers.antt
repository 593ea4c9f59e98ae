use Rattle.std.proofs.Common.{◌≡◌, arith, sym, get_or, subst, List, ◌∷◌, []}
use Rattle.touching_pieces.proofs.Chains.{among_at, crowd}
use Rattle.touching_pieces.proofs.Links.{no_piece}
use Rattle.touching_pieces.proofs.crowds.link_crowd.Goals as goal
use Rattle.touching_pieces.specs.Crowds.{AddsCrowd, AddsFirsts, apart_from, touched_by}
use Rattle.touching_pieces.specs.Pairs.{AddsTouching}
use Rattle.touching_pieces.specs.declared.pieces.Piece.{Piece}

pub returns : goal.returns
returns c =
    let ps = c.args.ones.now in
    let qs = c.args.others.now in
    let hub = get_or ps c.args.hub no_piece in
    let items = c.in_ok-touched.ensures in
    let first : AddsTouching (hub ∷ []) (touched_by hub qs) c.args.out.now.items c.link_one.new.out.items = rw (c.deref.ensures.value, items) at c.in_ok-link_one.ensures in
    let rest : AddsFirsts ps (touched_by hub qs) c.link_one.new.out.items c.link_firsts.new.out.items = rw (c.deref-3.ensures.value, items) at c.in_ok-link_firsts.ensures in
    let is : c.in_ok-left.left.items ≡ apart_from hub qs = c.in_ok-left.ensures in
    subst (λ (xs : List Piece). AddsCrowd ps qs xs c.args.out.now.items c.link_firsts.new.out.items) (sym is)
    (crowd hub ps qs c.args.out.now.items c.link_one.new.out.items c.link_firsts.new.out.items (among_at ps c.args.hub no_piece (omega arith)) first rest)
