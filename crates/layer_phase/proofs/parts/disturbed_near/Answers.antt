use Rattle.std.proofs.Common.{◌≡◌, ◌∙◌, List, Option, Some, sym, subst}
use Rattle.std.specs.List.{All}
use Rattle.geo_base.specs.Rects.{IsRect}
use Rattle.geo_base.specs.declared.shapes.Rect.{Rect}
use Rattle.tile_index.specs.Windows.{ArePositions}
use Rattle.cell_context.proofs.Near.{pieces_of}
use Rattle.deep_tables.specs.declared.zones.ZoneKey.TheVariants.{Layer}
use Rattle.deep_tables.specs.Zones.{zone_of}
use Rattle.layer_phase.proofs.parts.disturbed_near.Goals as goal

one : (o : Option (List Rect)) (a b : List Rect) → o ≡ Some a → o ≡ Some b → a ≡ b
one o a b e f = let g : Some a ≡ Some b = sym e ∙ f in cc

pub push_pieces-requires-clause-near : goal.push_pieces-requires-clause-near
push_pieces-requires-clause-near c =
    subst (λ (l : List Rect). ArePositions l c.args.window.now c.deref.result.now) (sym (c.rects.ensures.list ∙ c.set.ensures)) (rw c.deref.ensures.value c.in_ok-near.ensures)

pub returns-clause-rects : goal.returns-clause-rects
returns-clause-rects c = λ k r lt. (c.in_ok-push_pieces.ensures.pieces k r lt).some

pub returns-clause-zone : goal.returns-clause-zone
returns-clause-zone c = λ v at q.
    let same : c.rects.result.now ≡ v = c.rects.ensures.list ∙ c.set.ensures ∙ one (zone_of c.args.zones.now c.args.cell (Layer c.args.name)) c.indexed-zone.result.now v c.indexed-zone.ensures at in
    pieces_of c.push_pieces.new.out.items c.new-there.result.items c.rects.result.now v c.args.window.now q c.new-there.ensures.items same (c.in_ok-push_pieces.ensures.covers q)

pub returns-clause-sound : goal.returns-clause-sound
returns-clause-sound c = λ v at.
    let same : c.rects.result.now ≡ v = c.rects.ensures.list ∙ c.set.ensures ∙ one (zone_of c.args.zones.now c.args.cell (Layer c.args.name)) c.indexed-zone.result.now v c.indexed-zone.ensures at in
    subst (All IsRect) (c.set.ensures ∙ one (zone_of c.args.zones.now c.args.cell (Layer c.args.name)) c.indexed-zone.result.now v c.indexed-zone.ensures at) c.rects.ensures.sound
