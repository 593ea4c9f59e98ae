use Rattle.std.proofs.Common.{◌≡◌, map, length, arith}
use Rattle.base_laws.proofs.Items.{map_to}
use Rattle.std.proofs.lemmas.Option.{slice_get-get_or, slice_get_within}
use Rattle.std.proofs.lemmas.List.{length-map}
use Rattle.flat_layout.specs.Layout.{Place}
use Rattle.flat_slow.proofs.Ways.{yes_is, no_is, at_some, some_at, none_place, no_place}
use Rattle.flat_slow.specs.Paths.{plain_place}
use Rattle.flat_slow.proofs.design.has_place.Goals as goal

pub returns-then-place-cell : goal.returns-then-place-cell
returns-then-place-cell c =
    yes_is _ (at_some (λ (p : Place). p.cell ≡ c.args.cell) (map plain_place c.args.places.now) c.loop-place.place-index _ (map_to plain_place c.args.places.now c.loop-place.place-index _ (slice_get-get_or c.args.places.now c.loop-place.place-index no_place c.loop-place-test.true)) c.if-place-cell.true)

pub loop-place-preserved : goal.loop-place-preserved
loop-place-preserved c = none_place c.args.places.now c.args.cell c.loop-place.place-index c.loop-place-test.true c.loop-place.invariant c.if-place-cell.false

pub returns : goal.returns
returns c = no_is _ (λ h.
    let s = some_at (λ (p : Place). p.cell ≡ c.args.cell) (map plain_place c.args.places.now) h in
    let w = slice_get_within (map plain_place c.args.places.now) s.0 s.1 s.2 in
    let l : length (map plain_place c.args.places.now) ≡ length c.args.places.now = length-map c.args.places.now plain_place in
    c.loop-place.invariant s.0 s.1 (omega arith) s.2 s.3)
