use Rattle.std.proofs.Common.{◌≡◌, map, length, arith, pos, inl, inr}
use Rattle.base_laws.proofs.Items.{map_to}
use Rattle.std.proofs.lemmas.Option.{slice_get-get_or, slice_get_within}
use Rattle.std.proofs.lemmas.List.{length-map}
use Rattle.flat_slow.specs.declared.design.SlowShape.{SlowShape}
use Rattle.flat_slow.proofs.Ways.{key_same, key_other, has_in, has_out, yes_is, no_is, at_some, some_at, none_more_of}
use Rattle.flat_slow.specs.Paths.{plain_layer, IsOnLayer}
use Rattle.flat_slow.proofs.design.is_own.Goals.{else-eq-via-then-eq+else-has, else-eq-via-else-eq}
use Rattle.flat_slow.proofs.design.is_own.Goals as goal

abbrev no_shape : SlowShape
no_shape = record { key = record { layer = 0; datatype = 0 }; rect = record { x1 = pos 0; y1 = pos 0; x2 = pos 0; y2 = pos 0 } }

pub returns-then-has : goal.returns-then-has
returns-then-has c =
    yes_is _ (at_some (IsOnLayer c.args.key c.args.q) (map plain_layer c.args.shapes.now) c.loop-shape.shape-index _ (map_to plain_layer c.args.shapes.now c.loop-shape.shape-index _ (slice_get-get_or c.args.shapes.now c.loop-shape.shape-index no_shape c.loop-shape-test.true)) (key_same _ _ c.if-eq.ensures, inl (has_in _ _ c.if-has.ensures)))

pub loop-shape-preserved : goal.loop-shape-preserved
loop-shape-preserved c = none_more_of (IsOnLayer c.args.key c.args.q) plain_layer c.args.shapes.now no_shape c.loop-shape.shape-index c.loop-shape-test.true c.loop-shape.invariant
    (elim c.else-eq.branch [
      | else-eq-via-then-eq+else-has w ↦ (λ h. elim h.1 [ inl i ↦ has_out _ _ w.if-has.ensures i | inr n ↦ absurd n ])
      | else-eq-via-else-eq w ↦ (λ h. key_other _ _ w.if-eq.ensures h.0)
    ])

pub returns : goal.returns
returns c = no_is _ (λ h.
    let s = some_at (IsOnLayer c.args.key c.args.q) (map plain_layer c.args.shapes.now) h in
    let w = slice_get_within (map plain_layer c.args.shapes.now) s.0 s.1 s.2 in
    let l : length (map plain_layer c.args.shapes.now) ≡ length c.args.shapes.now = length-map c.args.shapes.now plain_layer in
    c.loop-shape.invariant s.0 s.1 (omega arith) s.2 s.3)
