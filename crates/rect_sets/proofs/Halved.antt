-- The blocks of a set, from those of its halves.
use Rattle.std.proofs.Common.{◌≡◌, Bool, List, [], ◌++◌}
use Rattle.std.proofs.lemmas.List.Elements.{All-nil}
use Rattle.std.specs.List.{All}
use Rattle.geo_base.specs.Rects.{IsRect}
use Rattle.geo_base.specs.declared.shapes.Rect.{Rect}
use Rattle.geo_base.specs.declared.shapes.Square.{Square}
use Rattle.rect_sets.specs.Divided.{kept, cut_off}
use Rattle.rect_sets.specs.EdgeCuts.{AreSides}
use Rattle.rect_sets.specs.Edges.{set_of}
use Rattle.rect_sets.specs.Halves.{low_half, high_half}
use Rattle.rect_sets.specs.Levels.{AreJoinedAcross}
use Rattle.rect_sets.specs.Rects.{covers}
use Rattle.rect_sets.specs.Sweeps.{AreBlocks}
use Rattle.rect_sets.specs.declared.cuts.Axis.{Axis}
use Rattle.rect_sets.specs.declared.cuts.Axis.TheVariants.{X, Y}
use Rattle.rect_sets.specs.declared.cuts.Cut.{Cut}
use Rattle.rect_sets.specs.declared.row.Edge.{Edge}
use Rattle.geo_base.specs.declared.layer.Op.{Op}
use Rattle.geo_base.specs.declared.layer.Op.TheVariants.{Or}
use Rattle.rect_sets.proofs.Dividing.{halves, blocks_same, block_rects, cut_rects}
use Rattle.rect_sets.proofs.Levelling.{levels}

-- what touches the line has squares
pub touching_rects : (f : Square → Bool) (cut : Cut) (a : List Rect) → AreBlocks f a → All IsRect (cut_off cut a)
touching_rects f cut a h = cut_rects cut [] a (All-nil IsRect) (block_rects f a h)

-- it is swept again, or put together at a level line
pub halved : (op : Op) (cut : Cut) (es low high edges : List Edge) (a b joined : List Rect) → AreSides cut es low high → AreBlocks (set_of op low) a → AreBlocks (set_of op high) b → ((s : Square) → set_of Or edges s ≡ covers (cut_off cut b ++ cut_off cut a) s) → AreBlocks (set_of Or edges) joined → AreBlocks (set_of op es) ((kept cut b ++ kept cut a) ++ joined)
halved op cut es low high edges a b joined sides h k same j =
    halves (set_of op es) cut a b joined
    (blocks_same (set_of op low) (low_half (set_of op es) cut) a (sides.low_set op) h)
    (blocks_same (set_of op high) (high_half (set_of op es) cut) b (sides.high_set op) k)
    (blocks_same (set_of Or edges) (covers (cut_off cut b ++ cut_off cut a)) joined same j)

pub levelled : (op : Op) (cut : Cut) (es low high : List Edge) (a b joined : List Rect) → cut.axis ≡ Y → AreSides cut es low high → AreBlocks (set_of op low) a → AreBlocks (set_of op high) b → AreJoinedAcross (cut_off cut a) (cut_off cut b) joined → AreBlocks (set_of op es) ((kept cut b ++ kept cut a) ++ joined)
levelled op cut es low high a b joined level sides h k j =
    by_axis cut.axis level
    (blocks_same (set_of op low) (low_half (set_of op es) cut) a (sides.low_set op) h)
    (blocks_same (set_of op high) (high_half (set_of op es) cut) b (sides.high_set op) k) j
  where
    by_axis : (axis : Axis) → axis ≡ Y → AreBlocks (low_half (set_of op es) (record { axis = axis; at = cut.at })) a → AreBlocks (high_half (set_of op es) (record { axis = axis; at = cut.at })) b → AreJoinedAcross (cut_off (record { axis = axis; at = cut.at }) a) (cut_off (record { axis = axis; at = cut.at }) b) joined → AreBlocks (set_of op es) ((kept (record { axis = axis; at = cut.at }) b ++ kept (record { axis = axis; at = cut.at }) a) ++ joined)
    by_axis X e h k j = let none : ⊥ = cc in absurd none
    by_axis Y e h k j = levels (set_of op es) cut.at a b joined h k j
