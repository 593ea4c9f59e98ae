use Rattle.std.proofs.Common.{◌≡◌, ◌<◌, [], ℕ, List, refl, rules, sym, subst, arith}
use Rattle.net_link_laws.specs.declared.piece.NetPiece.{NetPiece}
use Rattle.net_link_laws.proofs.Held.{conductor}
use Rattle.gate_phase.proofs.Results.{on_ok}
use Rattle.pin_phase.specs.Corners.{AreAtCorners, IsPieceOf}
use Rattle.pin_phase.specs.Sets.{Adds}
use Rattle.pin_phase.specs.Tagged.{IsLineTag}
use Rattle.pin_phase.proofs.Added.{none_added}
use Rattle.pin_phase.proofs.Naming.{line_tags, pieces_in}
use Rattle.pin_phase.proofs.texts.tag_line.Goals as goal

pub returns-then-conductors-line : goal.returns-then-conductors-line
returns-then-conductors-line g c =
    let d = g.C.Cells.design c.args.cells.now in let w = g.C.Cells.wiring c.args.cells.now in let t = g.C.Cells.tables c.args.cells.now in
    none_added (IsLineTag d t c.args.cell c.args.text.now c.args.line.now) c.args.tags.now (λ x s k.
    let lt = conductor d w t c.args.cell x c.args.line.now.conductor k.corner.square c.requires.nets k.corner.holds in
    let same = c.conductors.ensures in let le = c.if-conductors-line.true in
    let z : ⊥ = omega arith in z)

pub tag_pieces-requires : goal.tag_pieces-requires
tag_pieces-requires g c = λ x h.
    let d = g.C.Cells.design c.args.cells.now in let w = g.C.Cells.wiring c.args.cells.now in let t = g.C.Cells.tables c.args.cells.now in
    let are = subst (λ (l : List NetPiece). AreAtCorners d t c.args.cell c.args.line.now.conductor c.args.text.now.at l) (sym c.deref.ensures.value) c.in_ok-pieces.ensures in
    subst (λ n. x < n) (sym c.requires.count) (pieces_in d w t c.args.cell c.args.line.now.conductor c.args.text.now.at c.deref.result.now (c.requires.nets c.args.cell ([], refl)) are x h)

pub returns : goal.returns
returns g c =
    let d = g.C.Cells.design c.args.cells.now in let t = g.C.Cells.tables c.args.cells.now in
    let are = subst (λ (l : List NetPiece). AreAtCorners d t c.args.cell c.args.line.now.conductor c.args.text.now.at l) (sym c.deref.ensures.value) c.in_ok-pieces.ensures in
    let key = sym c.is_same.ensures in
    on_ok (Adds (λ (x : ℕ) (s : List ℕ). IsPieceOf c.deref.result.now x × (s ≡ c.deref-2.result.now)) c.args.tags.now c.tag_pieces.new.tags) (Adds (IsLineTag d t c.args.cell c.args.text.now c.args.line.now) c.args.tags.now c.tag_pieces.new.tags) c.tag_pieces.result
    (line_tags d t c.args.cell c.args.text.now c.args.line.now c.deref.result.now c.deref-2.result.now c.args.tags.now c.tag_pieces.new.tags (search rules) c.deref-2.ensures.value are) c.tag_pieces.ensures
