-- What the written cells have on an output line's layer is what the layout's cells hold themselves
-- of the line's name.
use Rattle.std.proofs.Common.{◌≡◌, ◌↔◌, inl, inr, ℕ, zero, suc, ◌+◌, List, [], ◌∷◌, ◌++◌, map, length, slice_get, Option, Some, refl, sym, ap, subst, ◌∙◌, arith}
use Rattle.base_laws.proofs.Items.{map_to, item_at}
use Rattle.std.proofs.lemmas.List.{length-append}
use Rattle.std.proofs.lemmas.Option.{get_or_from_slice_get}
use Rattle.geo_base.specs.declared.layer.LayerKey.{LayerKey}
use Rattle.geo_base.specs.declared.shapes.Rect.{Rect}
use Rattle.geo_base.specs.declared.shapes.Square.{Square}
use Rattle.flat_layout.specs.Layers.{Formula, Empty, IsLocal}
use Rattle.flat_layout.specs.Layout as flat
use Rattle.flat_layout.specs.Layout.{IsOwn, IsReached, Some_of}
use Rattle.flat_layout.specs.Plane.{IsIn}
use Rattle.flat_layout.specs.Values.{IsLocalLayer}
use Rattle.plain_netlist.proofs.Listing.{apart_at}
use Rattle.cell_graph.specs.Linked.{Linked, plain}
use Rattle.cell_graph.proofs.Bridge.{covers_some, some_covers}
use Rattle.rule_text.specs.declared.rules.LayerRule.{LayerRule}
use Rattle.rule_text.specs.declared.rules.Output.{Output}
use Rattle.rule_text.specs.Rules.{Rules}
use Rattle.rule_text.specs.Sound.{IsSound}
use Rattle.rule_layers.specs.Formulas.{formula_by, formulas_behind, formulas}
use Rattle.deep_tables.specs.Layers.{AreLayers, LayerAtLaw, layer_of}
use Rattle.deep_tables.specs.declared.layers.CellLayers.{CellLayers}
use Rattle.layout_shapes.specs.Written.{AreReached, line_of, squares_of}
use Rattle.shapes_file.specs.Flat.{formula_at}
use Rattle.shapes_file.proofs.Drawn.{cell_drawn, design_drawn, layer_drawn}
use Rattle.shapes_file.proofs.Walked.{reached_at}

count_behind : (before : List Formula) (names : List LayerRule) → length (formulas_behind before names) ≡ length before + length names
count_behind before [] = omega arith
count_behind before (n ∷ names) =
    let more = count_behind (before ++ formula_by before n.form ∷ []) names in
    let one : length (before ++ formula_by before n.form ∷ []) ≡ length before + 1 = length-append before (formula_by before n.form ∷ []) in
    omega (arith, more, one)

-- an output line's list of a reached cell
pub record IsHeld (d : Linked) (r : Rules) (table : List (Option CellLayers)) (m : ℕ) (o : Output) : Type 0 where
  pub rects : List Rect
  pub there : layer_of table m o.layer ≡ Some rects
  pub local : IsLocalLayer (plain d) (formula_at r o.layer) m rects

pub held : LayerAtLaw → (d : Linked) (r : Rules) (table : List (Option CellLayers)) (m k : ℕ) (o : Output) → IsSound r → AreLayers (plain d) r table → IsReached (plain d) m → slice_get r.outputs k ≡ Some o → IsHeld d r table m o
held law d r table m k o sound are reached at =
    let count = count_behind [] r.names in
    let below = (sound.formed.outputs k o at).below in
    let x = item_at (formulas r.names) o.layer (omega (arith, below, count)) in
    let h = law (plain d) r table m o.layer x.0 are reached x.1 in
    let same : x.0 ≡ formula_at r o.layer = sym (get_or_from_slice_get (formulas r.names) o.layer x.0 Empty x.1) in
    record { rects = h.0; there = h.1; local = subst (λ (f : Formula). IsLocalLayer (plain d) f m h.0) same h.2 }

-- ---- what a written cell has on a layer

abbrev pub IsOn : LayerKey → Square → flat.Layer → Type 0
IsOn key q layer = (layer.key ≡ key) × Some_of (IsIn q) layer.rects

-- an output line on the key, whose list of the cell has the square
pub record IsOnLine (r : Rules) (table : List (Option CellLayers)) (m : ℕ) (key : LayerKey) (q : Square) : Type 0 where
  pub number : ℕ
  pub line : Output
  pub at : slice_get r.outputs number ≡ Some line
  pub on_key : line.key ≡ key
  pub square : Some_of (IsIn q) (line_of table m line).1

some_line : (table : List (Option CellLayers)) (m : ℕ) (key : LayerKey) (q : Square) (os : List Output) → Some_of (IsOn key q) (map layer_drawn (map (line_of table m) os)) → (k : ℕ) × (o : Output) × (slice_get os k ≡ Some o) × IsOn key q (layer_drawn (line_of table m o))
some_line table m key q [] h = absurd h
some_line table m key q (o ∷ os) (inl h) = (0, o, refl, h)
some_line table m key q (o ∷ os) (inr h) = let r = some_line table m key q os h in (suc r.0, r.1, r.2, r.3)

line_some : (table : List (Option CellLayers)) (m : ℕ) (key : LayerKey) (q : Square) (os : List Output) (k : ℕ) (o : Output) → slice_get os k ≡ Some o → IsOn key q (layer_drawn (line_of table m o)) → Some_of (IsOn key q) (map layer_drawn (map (line_of table m) os))
line_some table m key q [] k o e h = absurd cc
line_some table m key q (x ∷ os) zero o e h = let same : o ≡ x = cc in inl (subst (λ (y : Output). IsOn key q (layer_drawn (line_of table m y))) same h)
line_some table m key q (x ∷ os) (suc k) o e h = inr (line_some table m key q os k o e h)

pub line_down : (d : Linked) (r : Rules) (table : List (Option CellLayers)) (ks : List ℕ) (j m : ℕ) (key : LayerKey) (q : Square) → slice_get ks j ≡ Some m → IsOwn (design_drawn d r table ks) j key q → IsOnLine r table m key q
line_down d r table ks j m key q at h =
    let here = map_to (cell_drawn d r table ks) ks j m at in
    let same : h.0 ≡ cell_drawn d r table ks m = (let e : Some h.0 ≡ Some (cell_drawn d r table ks m) = sym h.1 ∙ here in cc) in
    let s = some_line table m key q r.outputs (subst (λ (c : flat.Cell). Some_of (IsOn key q) c.layers) same h.2) in
    record { number = s.0; line = s.1; at = s.2; on_key = s.3.0; square = s.3.1 }

pub line_up : (d : Linked) (r : Rules) (table : List (Option CellLayers)) (ks : List ℕ) (j m : ℕ) (key : LayerKey) (q : Square) → slice_get ks j ≡ Some m → IsOnLine r table m key q → IsOwn (design_drawn d r table ks) j key q
line_up d r table ks j m key q at h = (
  cell_drawn d r table ks m,
  map_to (cell_drawn d r table ks) ks j m at,
  line_some table m key q r.outputs h.number h.line h.at (h.on_key, h.square),
)

-- no two lines have one key
one_line : (r : Rules) (j k : ℕ) (o x : Output) → IsSound r → slice_get r.outputs j ≡ Some x → slice_get r.outputs k ≡ Some o → x.key ≡ o.key → x ≡ o
one_line r j k o x sound a b e =
    let first : slice_get (map (λ (y : Output). y.key) r.outputs) j ≡ Some o.key = map_to (λ (y : Output). y.key) r.outputs j x a ∙ ap (λ (key : LayerKey). Some key) e in
    let same : j ≡ k = apart_at o.key (map (λ (y : Output). y.key) r.outputs) j k sound.formed.keys first (map_to (λ (y : Output). y.key) r.outputs k o b) in
    let there : slice_get r.outputs k ≡ Some x = subst (λ (n : ℕ). slice_get r.outputs n ≡ Some x) same a in
    let f : Some x ≡ Some o = sym there ∙ b in cc

pub own_is : LayerAtLaw → (d : Linked) (r : Rules) (table : List (Option CellLayers)) (ks : List ℕ) (j m k : ℕ) (o : Output) (q : Square) → IsSound r → AreLayers (plain d) r table → AreReached d ks
    → slice_get ks j ≡ Some m → slice_get r.outputs k ≡ Some o → IsOwn (design_drawn d r table ks) j o.key q ↔ IsLocal (plain d) m (formula_at r o.layer) q
own_is law d r table ks j m k o q sound are reached at line =
    let h = held law d r table m k o sound are (reached_at d ks j m reached at) line in
    let list : (line_of table m o).1 ≡ h.rects = ap squares_of h.there in (
      (λ own.
          let f = line_down d r table ks j m o.key q at own in
          let same = one_line r f.number k o f.line sound f.at line f.on_key in
          let here : Some_of (IsIn q) (line_of table m o).1 = subst (λ (x : Output). Some_of (IsIn q) (line_of table m x).1) same f.square in
          (h.local.each q).0 (some_covers h.rects q (subst (λ (rs : List Rect). Some_of (IsIn q) rs) list here))),
      (λ local.
          line_up d r table ks j m o.key q at (record {
            number = k;
            line = o;
            at = line;
            on_key = refl;
            square = subst (λ (rs : List Rect). Some_of (IsIn q) rs) (sym list) (covers_some h.rects q ((h.local.each q).1 local));
          })),
    )
