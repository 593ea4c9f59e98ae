-- What accessors find in right tables.
use Rattle.std.proofs.Common.{◌≡◌, inl, inr, ℕ, List, Option, Some, None, IsSomeAnd, length, slice_get, refl, sym, ◌∙◌, ap, arith}
use Rattle.std.proofs.lemmas.Option.{slice_get_cases}
use Rattle.deep_tables.specs.Zones.{AreCellZones, ZoneAtLaw, ZoneEntryLaw, DeviceZoneAtLaw, squares_for}
use Rattle.deep_tables.specs.Layers.{AreCellLayers, LayerAtLaw, squares_on}
use Rattle.deep_tables.specs.Entries.{entry}
use Rattle.deep_tables.specs.declared.zones.ZoneKey.TheVariants.{Layer, Device}

-- an entry that is there and right
pub some_and : {X : Type 0} (P : X → Type 0) (o : Option X) → IsSomeAnd o P → (x : X) × (o ≡ Some x) × P x
some_and {X} P None h = absurd h
some_and {X} P (Some x) h = (x, refl, h)

-- lists of one length have items at the same places
pub beside : {X Y : Type 0} (xs : List X) (ys : List Y) (i : ℕ) (x : X) → slice_get xs i ≡ Some x → length ys ≡ length xs → (y : Y) × (slice_get ys i ≡ Some y)
beside {X} {Y} xs ys i x at same = elim (slice_get_cases xs i).1 [
  | inr h ↦ let z : ⊥ = (let e : Some x ≡ None = sym at ∙ h.1 in cc) in absurd z
  | inl h ↦ elim (slice_get_cases ys i).1 [ inl g ↦ (g.0, g.2) | inr g ↦ (let lt = h.1 in let le = g.0 in absurd (let z : ⊥ = omega arith in z)) ]
]

pub zone_entry : ZoneEntryLaw
zone_entry d r table cell i x right reached at =
    let v = some_and (AreCellZones d r cell) (entry table cell) (right cell reached) in
    let z = beside _ v.0.layers.items i x at v.2.names in
    (z.0, ap (λ o. squares_for o (Layer i)) v.1 ∙ z.1)

pub zone_at : ZoneAtLaw
zone_at d r table cell i x right reached at asked =
    let v = some_and (AreCellZones d r cell) (entry table cell) (right cell reached) in
    let z = beside _ v.0.layers.items i x at v.2.names in
    (z.0, ap (λ o. squares_for o (Layer i)) v.1 ∙ z.1, v.2.layers i x z.0 at z.1 asked)

pub device_zone_at : DeviceZoneAtLaw
device_zone_at d r table cell i u right reached at =
    let v = some_and (AreCellZones d r cell) (entry table cell) (right cell reached) in
    let z = beside _ v.0.devices.items i u at v.2.rules in
    (z.0, ap (λ o. squares_for o (Device i)) v.1 ∙ z.1, v.2.devices i u z.0 at z.1)

pub layer_at : LayerAtLaw
layer_at d r table cell i x right reached at =
    let v = some_and (AreCellLayers d r cell) (entry table cell) (right cell reached) in
    let z = beside _ v.0.layers.items i x at v.2.names in
    (z.0, ap (λ o. squares_on o i) v.1 ∙ z.1, v.2.layers i x z.0 at z.1)
