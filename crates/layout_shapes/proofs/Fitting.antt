-- Each reached cell can be written.
use Rattle.std.proofs.Common.{◌≡◌, inl, inr, ℕ, ◌+◌, ◌<◌, List, [], ◌∷◌, ◌++◌, length, get_or, slice_get, Option, Some, None, sym, ap, ◌∙◌, subst, arith}
use Rattle.base_laws.proofs.Items.{item_at}
use Rattle.std.proofs.lemmas.Bool.{false_from_ne_true}
use Rattle.std.specs.Prelude.{IsSome}
use Rattle.std.specs.List.{All}
use Rattle.std.proofs.lemmas.List.{length-append, get_or_default}
use Rattle.std.proofs.lemmas.Option.{slice_get_cases, get_or_from_slice_get}
use Rattle.geo_base.specs.declared.shapes.Rect.{Rect}
use Rattle.flat_layout.specs.Layers.{Formula}
use Rattle.flat_layout.specs.Layout.{IsReached}
use Rattle.cell_graph.specs.Linked.{Linked, IsHull, IsOrder, IsSound, HullIsSound, cell_at, hull_of, plain, places_at}
use Rattle.cell_graph.specs.declared.cells.CellPart.{CellPart}
use Rattle.rule_text.specs.declared.rules.LayerRule.{LayerRule}
use Rattle.rule_text.specs.declared.rules.Output.{Output}
use Rattle.rule_text.specs.Rules.{Rules}
use Rattle.rule_text.specs.Sound as rules
use Rattle.rule_layers.specs.Formulas.{formula_by, formulas_behind, formulas}
use Rattle.deep_tables.specs.Layers.{AreLayers, LayerAtLaw, layer_of}
use Rattle.deep_tables.specs.declared.layers.CellLayers.{CellLayers}
use Rattle.gds_layout.specs.declared.layout.Layout.{Layout}
use Rattle.gds_shapes.specs.Data.{IsNamed}
use Rattle.gds_shapes.specs.References.{FitsReference}
use Rattle.layout_shapes.specs.Wide.{AreHeld, IsFirstWide, IsWideCell, has_wide_line}
use Rattle.layout_shapes.specs.Writable.{IsWritable, CanWriteLine, CanWriteCell}
use Rattle.layout_shapes.specs.Written.{AreReached, name_of, ref_of}
use Rattle.layout_shapes.proofs.Long.{narrow_line}
use Rattle.layout_shapes.proofs.Reaching.{contained, within, reached_at}

count_behind : (before : List Formula) (names : List LayerRule) → length (formulas_behind before names) ≡ length before + length names
count_behind before [] = omega arith
count_behind before (n ∷ names) =
    let more = count_behind (before ++ formula_by before n.form ∷ []) names in
    let one : length (before ++ formula_by before n.form ∷ []) ≡ length before + 1 = length-append before (formula_by before n.form ∷ []) in
    omega (arith, more, one)

some_is : (o : Option (List Rect)) (v : List Rect) → o ≡ Some v → IsSome o
some_is o v e = subst (λ (p : Option (List Rect)). IsSome p) (sym e) search

held_line : LayerAtLaw → (d : Linked) (r : Rules) (table : List (Option CellLayers)) (cell : ℕ) (o : Output) → AreLayers (plain d) r table → IsReached (plain d) cell
    → o.layer < length r.names → IsSome (layer_of table cell o.layer)
held_line at d r table cell o are reached below =
    let count = count_behind [] r.names in
    let x = item_at (formulas r.names) o.layer (omega (arith, below, count)) in
    let h = at (plain d) r table cell o.layer x.0 are reached x.1 in
    some_is (layer_of table cell o.layer) h.0 h.1

-- what holds of each entry and its number holds of all
entries : {X : Type 0} (P : X → Type 0) (xs : List X) → ((k : ℕ) (x : X) → slice_get xs k ≡ Some x → P x) → All P xs
entries {X} P xs h k z lt = elim (slice_get_cases xs k).1 [
  | inl f ↦ subst P (sym (get_or_from_slice_get xs k f.0 z f.2)) (h k f.0 f.2)
  | inr f ↦ (let le = f.0 in absurd (let bad : ⊥ = omega (arith, lt, le) in bad))
]

held_cell : LayerAtLaw → (d : Linked) (r : Rules) (table : List (Option CellLayers)) (cell : ℕ) → rules.IsSound r → AreLayers (plain d) r table → IsReached (plain d) cell → AreHeld table r cell
held_cell at d r table cell sound_rules are reached =
    entries (λ (o : Output). IsSome (layer_of table cell o.layer)) r.outputs (λ k o e. held_line at d r table cell o are reached (sound_rules.formed.outputs k o e).below)

-- the table has what each reached cell holds
pub all_held : LayerAtLaw → (d : Linked) (r : Rules) (table : List (Option CellLayers)) → IsOrder d → rules.IsSound r → AreLayers (plain d) r table → All (AreHeld table r) d.order
all_held at d r table order sound_rules are k z lt =
    held_cell at d r table (get_or d.order k z) sound_rules are (contained d order (get_or d.order k z) (k, lt, get_or_default d.order k (get_or d.order k z) z lt))

-- the hull of a cell that has one
pub hull_in : (d : Linked) (cell : ℕ) (h : Rect) → IsSound d → cell < length d.cells → hull_of (cell_at d cell) ≡ Some h → IsHull h
hull_in d cell h sound inside e =
    let c = item_at d.cells cell inside in
    let has : c.0.hull ≡ Some h = sym (ap hull_of c.1) ∙ e in
    subst HullIsSound has (sound.each cell c.0 c.1).hull

pub can_write : LayerAtLaw → (l : Layout) (r : Rules) (table : List (Option CellLayers)) (cell : ℕ) → IsSound l.design → rules.IsSound r → AreLayers (plain l.design) r table → IsWritable l
    → (IsWideCell (plain l.design) r table cell → ⊥) → IsReached (plain l.design) cell → CanWriteCell l r table cell
can_write at l r table cell sound sound_rules are writable narrow reached =
    let d = l.design in
    let inside = within d cell sound.order reached in
    let count = writable.count in
    let dated : cell < length l.cell_dates.items = omega (arith, inside, count) in
    let c = item_at d.cells cell inside in
    let can = writable.each cell c.0 c.1 in
    record {
      inside = inside;
      dated = dated;
      dates = writable.dates cell [] dated;
      name = subst (λ (o : Option CellPart). IsNamed (name_of o)) (sym c.1) can.name;
      refs = subst (λ (o : Option CellPart). All (λ p. FitsReference (ref_of d p)) (places_at o)) (sym c.1) can.refs;
      lines = entries (CanWriteLine table cell) r.outputs (λ k o e. record {
        key = sound_rules.formed.written k o e;
        held = held_line at d r table cell o are reached (sound_rules.formed.outputs k o e).below;
        long = narrow_line table r cell k o (false_from_ne_true (has_wide_line table r cell) (λ h. narrow (inl h))) e;
      });
    }

pub all_can : LayerAtLaw → (l : Layout) (r : Rules) (table : List (Option CellLayers)) (cells : List ℕ) → IsSound l.design → rules.IsSound r → AreLayers (plain l.design) r table → IsWritable l
    → IsFirstWide l.design r table None → AreReached l.design cells → All (CanWriteCell l r table) cells
all_can at l r table cells sound sound_rules are writable narrow reached k z lt =
    let here = reached_at l.design cells k z reached lt in
    can_write at l r table (get_or cells k z) sound sound_rules are writable (narrow (get_or cells k z) here) here
