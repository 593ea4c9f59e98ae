use Rattle.std.proofs.Common.{◌≡◌, List, false, true, get_or, length, sym, ◌∙◌, ap, subst, arith}
use Rattle.geo_base.specs.declared.shapes.Square.{Square}
use Rattle.geo_base.specs.Motions.{moved_square}
use Rattle.flat_layout.specs.Layers.{IsKept}
use Rattle.flat_layout.specs.Layout.{Place, IsPlaced}
use Rattle.flat_laws.proofs.Paths.{same_place, moved_square-injective}
use Rattle.flat_slow.specs.declared.design.SlowPlace.{SlowPlace}
use Rattle.flat_slow.proofs.Ways.{yes_is, no_is, no_place, cell_at, item_at, placed_at, within, none_place_next}
use Rattle.flat_slow.specs.Slow.{plain_formula}
use Rattle.flat_slow.specs.Paths.{plain, plain_place}
use Rattle.flat_slow.proofs.layers.is_below.Goals as goal

pub returns-then-branch : goal.returns-then-branch
returns-then-branch c =
    let here = cell_at c.args.d.now c.args.cell c.index.result.now (let a = c.if-cell-len.false in let b = c.len.ensures in let d = c.args.d.now.cells.ok.0 in omega arith) c.index.ensures in
    let there = item_at c.deref-place-items.result.now c.index.result.now.places.items c.loop-place.place-index no_place c.deref-place-items.ensures.value c.loop-place-test.true in
    let place = plain_place (get_or c.deref-place-items.result.now c.loop-place.place-index no_place) in
    yes_is _ (record {
      number = c.loop-place.place-index;
      place = place;
      square = c.in_ok-r.r;
      placed = placed_at c.args.d.now c.args.cell c.index.result.now c.loop-place.place-index _ here there;
      kept = c.in_ok-is_kept.ensures.0 c.if-branch.true;
      image = c.in_ok-r.ensures;
    })

pub loop-place-preserved : goal.loop-place-preserved
loop-place-preserved c =
    let here = cell_at c.args.d.now c.args.cell c.index.result.now (let a = c.if-cell-len.false in let b = c.len.ensures in let d = c.args.d.now.cells.ok.0 in omega arith) c.index.ensures in
    let there = item_at c.deref-place-items.result.now c.index.result.now.places.items c.loop-place.place-index no_place c.deref-place-items.ensures.value c.loop-place-test.true in
    let place = plain_place (get_or c.deref-place-items.result.now c.loop-place.place-index no_place) in
    let placed = placed_at c.args.d.now c.args.cell c.index.result.now c.loop-place.place-index _ here there in
    none_place_next (λ k p. IsPlaced (plain c.args.d.now) c.args.cell k p × ((r : Square) × IsKept (plain c.args.d.now) p.cell (plain_formula c.args.layer.now) r × (moved_square p.motion r ≡ c.args.q)))
    c.loop-place.place-index c.loop-place.invariant (λ p (at, (r, kept, is)).
    let same : p ≡ place = same_place (plain c.args.d.now) c.args.cell c.loop-place.place-index p place at placed in
    let to : moved_square place.motion r ≡ c.args.q = subst (λ (x : Place). moved_square x.motion r ≡ c.args.q) same is in
    let one : r ≡ c.in_ok-r.r = moved_square-injective place.motion r c.in_ok-r.r (to ∙ sym c.in_ok-r.ensures) in
    let found : IsKept (plain c.args.d.now) place.cell (plain_formula c.args.layer.now) c.in_ok-r.r = subst (λ (x : Place). IsKept (plain c.args.d.now) x.cell (plain_formula c.args.layer.now) c.in_ok-r.r) same (subst (λ x. IsKept (plain c.args.d.now) p.cell (plain_formula c.args.layer.now) x) one kept) in
    let e = c.in_ok-is_kept.ensures.1 found in let f = c.if-branch.false in let g : false ≡ true = sym f ∙ e in let z : ⊥ = cc in z)

pub returns : goal.returns
returns c =
    let here = cell_at c.args.d.now c.args.cell c.index.result.now (let a = c.if-cell-len.false in let b = c.len.ensures in let d = c.args.d.now.cells.ok.0 in omega arith) c.index.ensures in
    no_is _ (λ h.
    let lt = within c.args.d.now c.args.cell c.index.result.now h.number h.place here h.placed in
    let e = ap (λ (l : List SlowPlace). length l) c.deref-place-items.ensures.value in
    let past = c.loop-place-test.false in
    c.loop-place.invariant h.number h.place (omega arith) (h.placed, (h.square, h.kept, h.image)))
