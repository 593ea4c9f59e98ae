-- What is known at a ready selection.
use Rattle.std.proofs.Common.{◌≡◌, ◌↔◌, ℕ, ◌<◌, ◌≤◌, ◌^◌, Bool, true, List, [], Some, get_or, length, refl, sym, ◌∙◌, subst, arith}
use Rattle.std.specs.List.{All}
use Rattle.base_laws.proofs.Items.{one_entry}
use Rattle.std.specs.Prelude.{IsSome}
use Rattle.geo_base.specs.declared.shapes.Rect.{Rect}
use Rattle.geo_base.specs.declared.shapes.Square.{Square}
use Rattle.rect_sets.specs.Near.{IsNearSet}
use Rattle.rect_sets.specs.Rects.{IsCanonical}
use Rattle.flat_layout.specs.Parts.{IsCloseTo}
use Rattle.flat_laws.proofs.Joints.{region_has}
use Rattle.cell_graph.specs.Linked.{IsRectWithin, IsSound}
use Rattle.deep_tables.specs.Zones.{zone_of}
use Rattle.deep_tables.specs.declared.zones.ZoneKey.TheVariants.{Layer}
use Rattle.rule_layers.specs.Formulas.{zone_margin}
use Rattle.gate_phase.specs.Close.{AreApart}
use Rattle.gate_phase.specs.Kept.{HasLocals}
use Rattle.gate_phase.specs.Own.{IsHeldPart}
use Rattle.gate_phase.specs.Site.{layout_at, rules_at}
use Rattle.gate_phase.specs.declared.site.Site.{Site}
use Rattle.gate_phase.proofs.Holding.{close_windows, held_near}
use Rattle.gate_phase.proofs.Locals.{locals_of}
use Rattle.gate_phase.proofs.Marking.{count_behind}
use Rattle.gate_phase.proofs.Reaching.{name_most}
use Rattle.gate_shapes.specs.Sets.{in_set}
use Rattle.select_laws.specs.Rest.{ArePartedSquares, IsCandidate}
use Rattle.select_laws.specs.Selects.{Select, sight}
use Rattle.select_phase.specs.Selections.{IsReadySelection, meant_at, trees_at}
use Rattle.select_phase.specs.Sorted.{IsCalmPart, IsPartAt}
use Rattle.rule_text.specs.declared.rules.SelectRule.{SelectRule}
use Rattle.select_phase.proofs.Calmness.{calm_zone}
use Rattle.select_phase.proofs.Zoning.{both_reach, candidates_held, sight_margin, sight_reach, sight_zone}

module _ (site : Site) (s : SelectRule) (sound : IsSound site.design.now) (ready : IsReadySelection site s) where
  abbrev x : Select
  x = meant_at site s

  abbrev n : ℕ
  n = (sight x).reach

  -- a name's tree is that of a name of the rules
  named : (i : ℕ) → i < length (trees_at site) → i < length site.rules.now.names.items
  named i lt = let long = count_behind [] site.rules.now.names.items in omega (arith, lt, long)

  pub region_locals : HasLocals (layout_at site) site.layers.now s.region x.region
  region_locals = locals_of (layout_at site) (rules_at site) site.layers.now s.region ready.site.layers (named s.region ready.known.region) ready.site.rules

  pub other_locals : HasLocals (layout_at site) site.layers.now s.other x.other
  other_locals = locals_of (layout_at site) (rules_at site) site.layers.now s.other ready.site.layers (named s.other ready.known.other) ready.site.rules

  pub squares_parted : ArePartedSquares (layout_at site) (sight x) site.cell
  squares_parted q kept = (region_locals site.cell ready.site.reached).2.parted q kept

  pub most : n ≤ 10000
  most = let e = both_reach (rules_at site) s ready.known in let limit = name_most (rules_at site) s.name ready.site.rules in omega (arith, e, limit)

  -- a part of the candidates
  module _ (part : List Rect) (a : Square) (is : IsPartAt (layout_at site) x site.cell part a) where
    pub part_held : IsHeldPart n site.design.now site.cell part
    part_held = candidates_held site.design.now x site.cell part sound ready.site.reached (λ q e. region_has x.joint (IsCandidate (layout_at site) x.joint (sight x) site.cell) a q ((is q).0 e))

    pub part_near : IsNearSet part
    part_near = held_near n site.design.now site.cell part most sound part_held

    pub windows_near : (close : List Rect) → ((q : Square) → in_set close q ↔ IsCloseTo (in_set part) q) → IsCanonical close → All (IsRectWithin (2 ^ 39)) close
    windows_near close all good = close_windows n site.design.now site.cell part close most sound part_held all good

  pub zone_there : IsSome (zone_of site.zones.now site.cell (Layer s.name))
  zone_there = let z = sight_zone site.design.now (rules_at site) site.zones.now site.cell s sound ready.site.zones ready.site.reached ready.known in subst IsSome (sym z.1) refl

  -- what is told by the zone of the selection's own name
  pub calm_told : (part close zone : List Rect) (reach : ℕ) (told : Bool) → IsHeldPart n site.design.now site.cell part → ((q : Square) → in_set close q ↔ IsCloseTo (in_set part) q) → zone_of site.zones.now site.cell (Layer s.name) ≡ Some zone
      → reach ≡ get_or site.layers.now.reaches s.name 0 → (told ≡ true) ↔ AreApart reach close zone → (told ≡ true) ↔ IsCalmPart (layout_at site) x site.cell part
  calm_told part close zone reach told held all at is h =
      let z = sight_zone site.design.now (rules_at site) site.zones.now site.cell s sound ready.site.zones ready.site.reached ready.known in
      let same : z.0 ≡ zone = one_entry (zone_of site.zones.now site.cell (Layer s.name)) z.0 zone z.1 at in
      let far : n ≡ reach = sight_reach (rules_at site) site.layers.now.reaches s ready.site.layers.reaches ready.known ∙ sym is in
      let law = calm_zone site.design.now x site.cell (zone_margin site.rules.now.names.items) part close z.0 sound ready.way z.2 (sight_margin (rules_at site) s ready.known) held all in
      let apart : AreApart reach close zone ↔ AreApart n close z.0 =
      ((λ g. subst (λ m. AreApart m close z.0) (sym far) (subst (λ (l : List Rect). AreApart reach close l) (sym same) g)), (λ g. subst (λ (l : List Rect). AreApart reach close l) same (subst (λ m. AreApart m close z.0) far g))) in
      ((λ e. law.0 (apart.0 (h.0 e))), (λ c. h.1 (apart.1 (law.1 c))))
