use Rattle.std.proofs.Common.{◌≡◌, ◌∙◌, List, length, arith, ap, sym, eqb-true}
use Rattle.geo_base.specs.declared.shapes.Rect.{Rect}
use Rattle.net_link_laws.specs.Places.{owned_before}
use Rattle.net_walk.proofs.Partnering.{no_own, partners_added}
use Rattle.net_walk.proofs.Walking.{owned_step}
use Rattle.net_walk.proofs.partners.push_partners.Goals as goal
use Rattle.net_walk.specs.Owned.{rect_pieces}
use Rattle.net_walk.specs.Partners.{ArePartnerPieces}
use Rattle.touching_pieces.specs.Pairs.{AddsTouching}

pub returns-then-is_empty : goal.returns-then-is_empty
returns-then-is_empty g c =
    let none = eqb-true (length c.own-own.result.now) 0 (sym c.is_empty.ensures ∙ c.if-is_empty.true) in
    no_own (g.C.Cells.design c.args.cells.now) (g.C.Cells.wiring c.args.cells.now) (g.C.Cells.tables c.args.cells.now) c.args.spans.now.cell c.args.spans.now.from c.args.conductor c.args.out.now.items
    (ap (λ (l : List Rect). length l) (sym c.own-own.ensures.all) ∙ none)

pub push_rects-requires-clause-room : goal.push_rects-requires-clause-room
push_rects-requires-clause-room g c =
    let t = g.C.Cells.tables c.args.cells.now in
    let step = owned_step t c.args.spans.now.cell c.args.conductor (length (g.C.Cells.wiring c.args.cells.now).conductors) c.requires.known in
    let long = ap (λ (l : List Rect). length l) c.own-own.ensures.all in
    let at = c.requires.at in
    let from = c.requires.spans.from in
    let room = c.requires.spans.room in
    omega (arith, step, long, at, from, room)

pub returns : goal.returns
returns g c =
    let d = g.C.Cells.design c.args.cells.now in
    let w = g.C.Cells.wiring c.args.cells.now in
    let t = g.C.Cells.tables c.args.cells.now in
    let cell = c.args.spans.now.cell in
    let ones = c.push_rects.new.out.items in
    let tied = c.in_ok-tied.tied.items in
    let partners = c.in_ok-partners.partners.items in
    let own : ones ≡ rect_pieces c.args.conductor (owned_before t cell c.args.conductor) (t.own cell c.args.conductor) = rw (c.new-ones.ensures.items, c.own-own.ensures.all, c.requires.at) at c.in_ok-push_rects.ensures.list in
    let pieces : ArePartnerPieces d t cell tied ones c.args.spans.now.from c.args.spans.now.pieces.now partners = rw (c.deref.ensures.value, c.deref-2.ensures.value) at c.in_ok-partners.ensures in
    let touching : AddsTouching ones partners c.args.out.now.items c.touching_pairs.new.out.items = rw (c.deref-3.ensures.value, c.deref-4.ensures.value) at c.in_ok-touching_pairs.ensures in
    partners_added d w t cell c.args.spans.now.from c.args.conductor c.requires.known c.requires.spans.from ones c.args.spans.now.pieces.now partners own c.requires.spans.pieces tied (λ e j. c.in_ok-tied.ensures e ((c.requires.joins c.args.conductor e).1 j)) pieces c.args.out.now.items c.touching_pairs.new.out.items touching
