-- The parts give the layer.
use Rattle.std.proofs.Common.{◌≡◌, ◌⊎◌, inl, inr, ℕ, ◌+◌, ◌≤◌, Bool, true, false, not, ◌&&◌, refl, sym, ◌∙◌, ap}
use Rattle.base_laws.proofs.Tests.{not_both}
use Rattle.std.proofs.lemmas.Bool.{cases_Bool}
use Rattle.geo_base.specs.declared.shapes.Square.{Square}
use Rattle.rect_sets.specs.Rects.{covers}
use Rattle.flat_layout.specs.Layers.{Formula, Input, Empty, Binary, Sized, inputs, reach, InFlat, IsCalmAt, IsKeptBelow, IsKept, IsLocal}
use Rattle.flat_laws.proofs.Moves.{within_back}
use Rattle.flat_laws.proofs.Names.{near_input}
use Rattle.cell_graph.specs.Grown.{IsInGrown}
use Rattle.cell_graph.specs.Linked.{Linked, IsSound, hull_of, cell_at, plain}
use Rattle.cell_graph.proofs.Bridge.{hulls, hull_sound}
use Rattle.cell_graph.proofs.Growing.{within_grown}
use Rattle.deep_laws.specs.Layers.{AreDecidedBelow, IsDerived}
use Rattle.deep_laws.proofs.Layers.{candidate, below, keeps, calm_kept, new_local, local_new}
use Rattle.layer_phase.specs.Around.{around}
use Rattle.layer_phase.specs.Parts.{IsFromCalmHull, HaveZones, LayerLaw}
use Rattle.layer_phase.proofs.Around.{rects_of}
use Rattle.layer_phase.proofs.Stirring.{calm_around}

split_local : (f z c : Bool) → ((f && not z) && not c) ≡ true → (f ≡ true) × (z ≡ false) × (c ≡ false)
split_local true false false e = (refl, refl, refl)
split_local true false true e = let g : false ≡ true = e in absurd (let z : ⊥ = cc in z)
split_local true true c e = let g : false ≡ true = e in absurd (let z : ⊥ = cc in z)
split_local false z c e = let g : false ≡ true = e in absurd (let z : ⊥ = cc in z)

join_local : (f z c : Bool) → f ≡ true → z ≡ false → c ≡ false → ((f && not z) && not c) ≡ true
join_local f z c e g h = ap (λ b. (b && not z) && not c) e ∙ ap (λ b. (true && not b) && not c) g ∙ ap (λ b. (true && not false) && not b) h

-- round the shapes of placed cells the tables tell where all is shut
pub decided : (n : ℕ) (d : Linked) (name : Formula) (cell : ℕ) → reach name + reach name ≤ n → IsSound d → HaveZones n d name cell → AreDecidedBelow (plain d) cell name
decided n d name cell twice sound zones k p key z r placed flat near =
    let e = zones k p placed in
    let m = reach name in
    let inner = within_grown m (hull_of (cell_at d p.cell)) r z (hulls d sound p.cell key z flat) (within_back m z r near) in
    let is = calm_around m n d (inputs name) p.cell e.0 r twice e.1 (rects_of e.0 e.2) (hull_sound d p.cell sound) inner in
    elim (cases_Bool (covers (around m e.0) r)) [
      | inl c ↦ inr (λ calm. not_both (covers (around m e.0) r) c (is.1 calm))
      | inr c ↦ inl (is.0 c)
    ]

kept_flat : (d : Linked) (cell : ℕ) (name : Formula) (q : Square) → IsKept (plain d) cell name q → InFlat (plain d) cell name q
kept_flat d cell (Input key) q h = h
kept_flat d cell Empty q h = h
kept_flat d cell (Binary op a b) q h = h.0
kept_flat d cell (Sized by a) q h = h.0

-- a name's flat squares lie in the hull, grown by its reach
pub near_held : (d : Linked) (cell : ℕ) (name : Formula) (q : Square) → IsSound d → InFlat (plain d) cell name q → IsInGrown (reach name) (hull_of (cell_at d cell)) q
near_held d cell name q sound f =
    let u = near_input (plain d) cell name q f in
    within_grown (reach name) (hull_of (cell_at d cell)) q u.2 (hulls d sound cell u.0 u.2 u.4) (within_back (reach name) u.2 q u.3)

-- a kept square below lies in the placed cell's hull
below_held : (d : Linked) (name : Formula) (cell : ℕ) (q : Square) → IsDerived name → IsSound d → IsKeptBelow (plain d) cell name q → IsFromCalmHull d name cell q
below_held d name cell q derived sound h = record {
  number = h.number;
  place = h.place;
  square = h.square;
  placed = h.placed;
  held = near_held d h.place.cell name h.square sound (kept_flat d h.place.cell name h.square h.kept);
  calm = (calm_kept (plain d) h.place.cell name h.square derived h.kept).1;
  image = h.image;
}

pub layer : LayerLaw
layer n d name cell places flat zone calm local derived twice sound reached zones parts canonical made = record {
  canonical = canonical;
  each = λ q. (to q, from q);
  parted = λ q kept. elim (part q kept) [ inl e ↦ inl (to q e) | inr h ↦ inr h ];
}
  where
    calm_below : (q : Square) → InFlat (plain d) cell name q → IsFromCalmHull d name cell q → IsKeptBelow (plain d) cell name q
    calm_below q f h = (below (plain d) name cell q derived reached f).1 (record { number = h.number; place = h.place; square = h.square; placed = h.placed; calm = h.calm; image = h.image })

    calm_zone : (q : Square) → covers zone q ≡ false → InFlat (plain d) cell name q → IsCalmAt (plain d) (inputs name) (reach name) cell q
    calm_zone q e f = (parts.zones q (near_held d cell name q sound f)).0 e

    zone_off : (q : Square) → InFlat (plain d) cell name q → IsCalmAt (plain d) (inputs name) (reach name) cell q → covers zone q ≡ false
    zone_off q f calm = (parts.zones q (near_held d cell name q sound f)).1 calm

    to : (q : Square) → covers local q ≡ true → IsLocal (plain d) cell name q
    to q e =
        let s = split_local (covers flat q) (covers zone q) (covers calm q) (sym (made q) ∙ e) in
        let f = (parts.flats q).0 s.0 in
        new_local (plain d) cell name q derived (
          keeps (plain d) cell name q (f.1, calm_zone q s.1 f.1),
          λ h. not_both (covers calm q) ((parts.calms q s.0 s.1).1 (below_held d name cell q derived sound h)) s.2,
        )

    looked : (q : Square) → IsKept (plain d) cell name q → (covers places q ≡ true) ⊎ IsKeptBelow (plain d) cell name q
    looked q kept = elim (candidate (plain d) name cell q reached (decided n d name cell twice sound zones) (kept_flat d cell name q kept)) [
      | inl h ↦ inl (parts.own q h)
      | inr g ↦ elim g [
        | inl h ↦ elim (parts.stirred q h) [
          | inl e ↦ inl e
          | inr e ↦ let k = calm_kept (plain d) cell name q derived kept in absurd (not_both (covers zone q) e (zone_off q k.0 k.1))
        ]
        | inr h ↦ inr h
      ]
    ]

    part : (q : Square) → IsKept (plain d) cell name q → (covers local q ≡ true) ⊎ IsKeptBelow (plain d) cell name q
    part q kept =
        let k = calm_kept (plain d) cell name q derived kept in
        elim (looked q kept) [
          | inr h ↦ inr h
          | inl e ↦
              let f = (parts.flats q).1 (e, k.0) in
              let z = zone_off q k.0 k.1 in
              elim (cases_Bool (covers calm q)) [
                | inl c ↦ inr (calm_below q k.0 ((parts.calms q f z).0 c))
                | inr c ↦ inl (made q ∙ join_local (covers flat q) (covers zone q) (covers calm q) f z c)
              ]
        ]

    from : (q : Square) → IsLocal (plain d) cell name q → covers local q ≡ true
    from q h =
        let new = local_new (plain d) cell name q derived h in
        elim (part q new.0) [
          | inl e ↦ e
          | inr b ↦ absurd (new.1 b)
        ]
