-- Input layers of a cell.
use Rattle.std.proofs.Common.{◌⊎◌, inl, inr, ℕ, List, [], ◌∷◌, sym, subst}
use Rattle.geo_base.specs.declared.layer.LayerKey.{LayerKey}
use Rattle.geo_base.specs.declared.shapes.Square.{Square}
use Rattle.flat_layout.specs.Layers.{Input, IsKeptBelow}
use Rattle.flat_layout.specs.Layout.{Design, IsOwn, Takes}
use Rattle.cell_graph.proofs.Bridge.{own}
use Rattle.layer_phase.specs.Parts.{InputLayerLaw}

-- a flat square is the cell's own, or a placed cell's
either : (d : Design) (cell end : ℕ) (key : LayerKey) (path : List ℕ) (s q : Square) → Takes d cell path end s q → IsOwn d end key s → IsOwn d cell key q ⊎ IsKeptBelow d cell (Input key) q
either d cell end key [] s q (here, same) is = inl (subst (λ c. IsOwn d c key q) (sym here) (subst (λ x. IsOwn d end key x) same is))
either d cell end key (k ∷ path) s q (p, placed, r, takes, image) is = inr (record {
  number = k;
  place = p;
  square = r;
  placed = placed;
  kept = record { path = path; end = end; square = s; takes = takes; own = is };
  image = image;
})

pub input_layer : InputLayerLaw
input_layer d cell key sound canonical = record {
  canonical = canonical;
  each = λ q. let law = own d sound cell key q in (law.1, law.0);
  parted = λ q f. either _ cell f.end key f.path f.square q f.takes f.own;
}
