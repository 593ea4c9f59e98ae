use Rattle.std.proofs.Common.{◌≡◌, ◌<◌, ℕ, List, get_or, length, pos, subst, arith}
use Rattle.net_link_laws.specs.declared.piece.NetPiece.{NetPiece}
use Rattle.pin_phase.specs.Sets.{Adds}
use Rattle.pin_phase.proofs.Texting.{all_told, more_told, piece_at}
use Rattle.pin_phase.proofs.texts.tag_pieces.Goals as goal

pub add-requires : goal.add-requires
add-requires c =
    let pieces = c.args.pieces.now in let i = c.loop-piece.piece-index in
    let d : NetPiece = record { net = 0; rect = record { x1 = pos 0; y1 = pos 0; x2 = pos 0; y2 = pos 0 } } in
    let lt : i < length pieces = omega arith in
    subst (λ (k : ℕ). (get_or pieces i d).net < k) (let e : length c.args.tags.now ≡ length c.loop-piece.tags = (let n = c.loop-piece.invariant.count in omega arith) in e)
    (c.requires (get_or pieces i d).net (piece_at pieces i d lt))

pub loop-piece-preserved : goal.loop-piece-preserved
loop-piece-preserved c =
    let pieces = c.args.pieces.now in let i = c.loop-piece.piece-index in
    let d : NetPiece = record { net = 0; rect = record { x1 = pos 0; y1 = pos 0; x2 = pos 0; y2 = pos 0 } } in
    let lt : i < length pieces = omega arith in
    more_told pieces i d c.args.text.now c.args.tags.now c.loop-piece.tags c.add.new.self lt c.loop-piece.invariant
    (subst (λ (t : List ℕ). Adds (λ (x : ℕ) (s : List ℕ). (x ≡ (get_or pieces i d).net) × (s ≡ t)) c.loop-piece.tags c.add.new.self) c.in_ok-tag.ensures c.in_ok-add.ensures)

pub returns : goal.returns
returns c = all_told c.args.pieces.now c.loop-piece.piece-index c.args.text.now c.args.tags.now c.loop-piece.tags (omega arith) c.loop-piece.invariant
