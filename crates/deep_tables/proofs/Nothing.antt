-- No squares.
use Rattle.std.proofs.Common.{◌≡◌, true, false, [], arith}
use Rattle.std.proofs.lemmas.Int.{ints}
use Rattle.geo_base.specs.declared.shapes.Rect.{Rect}
use Rattle.rect_sets.specs.Rects.{covers, IsBlock, IsCanonical}
use Rattle.deep_tables.specs.Layers.{EmptyLayerLaw}
use Rattle.deep_tables.specs.Zones.{EmptyZoneLaw}

no_block : (r : Rect) → IsBlock (covers []) r → ⊥
no_block r b =
    let run = b.rows r.y1 (omega (arith, ints)) b.some in
    let covered : false ≡ true = run.inside r.x1 (omega (arith, ints)) run.some in cc

nothing : IsCanonical []
nothing = record { each = λ r. ((λ h. absurd h), (λ b. no_block r b)); ordered = tt }

pub no_squares : EmptyLayerLaw
no_squares d cell = record {
  canonical = nothing;
  each = λ q. ((λ e. let f : false ≡ true = e in let z : ⊥ = cc in absurd z), (λ h. absurd h));
  parted = λ q h. absurd h;
}

pub no_zone : EmptyZoneLaw
no_zone d n cell = record {
  canonical = nothing;
  each = λ q. ((λ e. let f : false ≡ true = e in let z : ⊥ = cc in absurd z), (λ h. absurd h.0.listed));
}
