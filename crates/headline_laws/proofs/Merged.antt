-- The flat layout's netlist, merged, through the layout's merged circuits, to the flattened schematic, merged.
use Rattle.std.proofs.Common.{◌≡◌, ℕ, List, refl, subst}
use Rattle.composed_laws.proofs.Matching.{matched_tops}
use Rattle.composed_laws.specs.Matched.{AreDevicesMatched, AreNetsMatched}
use Rattle.flat_layout.specs.Circuits.{IsCircuitCell}
use Rattle.flat_layout.specs.Expanded.{AreTablesRight, CircuitTables}
use Rattle.flat_layout.specs.Gates.{Rule}
use Rattle.flat_layout.specs.Layout.{Design}
use Rattle.flat_layout.specs.Nets.{Tables}
use Rattle.flat_layout.specs.Regions.{Wiring}
use Rattle.headline_laws.proofs.Flattened.{flat_corresponds}
use Rattle.headline_laws.specs.FlatNetlist.{flat_netlist, IsFlatGateOf, IsFlatRegionOf}
use Rattle.headline_laws.specs.Merged.{MergedMatchLaw}
use Rattle.merge_laws.proofs.Expands.{merged_expands}
use Rattle.merge_laws.proofs.Flats.{merged_same}
use Rattle.merge_laws.specs.Grouped.{merged_netlist, IsMadeOf}
use Rattle.merge_laws.specs.Merge.{merged}
use Rattle.plain_netlist.proofs.Alike.{reversed, through}
use Rattle.plain_netlist.proofs.Rows.{rows_wider}
use Rattle.plain_netlist.specs.Flats.{Flat, Corresponds, expanded, Reversed, Through}
use Rattle.plain_netlist.specs.Netlist.{Netlist, Slot}

-- pairs of nets that are the same pairs, said otherwise
pub nets_as : {D N E M : Type 0} (F : Flat D N) (G : Flat E M) (device : D → E → Type 0) (net to : N → M → Type 0) → ((a : N) (x : M) → net a x → to a x) → ((a : N) (x : M) → to a x → net a x)
    → Corresponds F G device net → Corresponds F G device to
nets_as F G device net to f b h = record {
  there = λ x r k. let y = h.there x r k in (y.0, y.1, y.2, y.3, rows_wider net to f r y.1 y.4);
  back = λ y s k. let x = h.back y s k in (x.0, x.1, x.2, x.3, rows_wider net to f x.1 s x.4);
  devices = h.devices;
  nets = λ a c x y k l. h.nets a c x y (b a x k) (b c y l);
  pins = λ a x k. h.pins a x (b a x k);
}

module _ (d : Design) (w : Wiring) (t : Tables) (g : CircuitTables) (layout : Netlist) (rules : List Rule) (unit : ℕ) (level : ℕ → ℕ) (right : AreTablesRight d w t g layout rules unit level) (top : ℕ) (is : IsCircuitCell g.cells top d.top) (schematic : Netlist) (right_top : ℕ) where
  -- what the merged circuits expand to corresponds, when merged, and so does the flat layout with the flattened schematic, both merged
  pub merged_by : (devices nets : Slot → Slot → Type 0) → Corresponds (merged (expanded (merged_netlist layout) top)) (merged (expanded (merged_netlist schematic) right_top)) devices nets
      → Corresponds (merged (flat_netlist d w rules unit)) (merged (expanded schematic right_top))
      (Through (Reversed (IsFlatGateOf d w g layout top rules)) (Through (Reversed (IsMadeOf layout top)) (Through devices (IsMadeOf schematic right_top))))
      (Through (Reversed (IsFlatRegionOf d w t g layout top)) nets)
  merged_by devices nets third =
      let flat = flat_netlist d w rules unit in
      let own = expanded layout top in
      let near = expanded (merged_netlist layout) top in
      let other = expanded (merged_netlist schematic) right_top in
      let given = expanded schematic right_top in
      let gates = IsFlatGateOf d w g layout top rules in
      let regions = IsFlatRegionOf d w t g layout top in
      let first = reversed (merged own) (merged flat) gates regions (merged_same own flat gates regions (flat_corresponds d w t g layout rules unit level right top is)) in
      let second = reversed (merged near) (merged own) (IsMadeOf layout top) (λ (a x : Slot). a ≡ x) (merged_expands layout top) in
      let fourth = merged_expands schematic right_top in
      let last = through (merged near) (merged other) (merged given) devices nets (IsMadeOf schematic right_top) (λ (a x : Slot). a ≡ x) third fourth in
      let later = through (merged own) (merged near) (merged given) (Reversed (IsMadeOf layout top)) (Reversed (λ (a x : Slot). a ≡ x)) (Through devices (IsMadeOf schematic right_top)) (Through nets (λ (a x : Slot). a ≡ x)) second last in
      let whole = through (merged flat) (merged own) (merged given) (Reversed gates) (Reversed regions)
      (Through (Reversed (IsMadeOf layout top)) (Through devices (IsMadeOf schematic right_top))) (Through (Reversed (λ (a x : Slot). a ≡ x)) (Through nets (λ (a x : Slot). a ≡ x))) first later in
      nets_as (merged flat) (merged given) (Through (Reversed gates) (Through (Reversed (IsMadeOf layout top)) (Through devices (IsMadeOf schematic right_top))))
      (Through (Reversed regions) (Through (Reversed (λ (a x : Slot). a ≡ x)) (Through nets (λ (a x : Slot). a ≡ x)))) (Through (Reversed regions) nets)
      (λ a x (m, k, (n, e, (o, h, q))). (m, k, subst (λ z. nets m z) q (subst (λ z. nets z o) e h)))
      (λ a x (m, k, h). (m, k, (m, refl, (x, h, refl))))
      whole

  -- and so where they do unmerged
  pub merged_between : (devices nets : Slot → Slot → Type 0) → Corresponds (expanded (merged_netlist layout) top) (expanded (merged_netlist schematic) right_top) devices nets
      → Corresponds (merged (flat_netlist d w rules unit)) (merged (expanded schematic right_top))
      (Through (Reversed (IsFlatGateOf d w g layout top rules)) (Through (Reversed (IsMadeOf layout top)) (Through devices (IsMadeOf schematic right_top))))
      (Through (Reversed (IsFlatRegionOf d w t g layout top)) nets)
  merged_between devices nets h = merged_by devices nets (merged_same (expanded (merged_netlist layout) top) (expanded (merged_netlist schematic) right_top) devices nets h)

pub merged_match : MergedMatchLaw
merged_match d w t g layout rules unit level right top is schematic right_top same left far v c p asked answers pairings are all =
    merged_between d w t g layout rules unit level right top is schematic right_top
    (AreDevicesMatched (merged_netlist layout) left far (merged_netlist schematic) v c p.left_aligned p.right_aligned pairings top right_top)
    (AreNetsMatched (merged_netlist layout) left far (merged_netlist schematic) v c p.left_aligned p.right_aligned pairings top right_top)
    (matched_tops (merged_netlist layout) (merged_netlist schematic) top right_top same left far v c p asked answers pairings are all)
