-- What the tables have of a reached cell.
use Rattle.std.proofs.Common.{◌≡◌, ℕ, zero, suc, ◌<◌, ◌≤◌, ◌^◌, true, false, ◌&&◌, List, [], ◌∷◌, Option, Some, None, get_or, length, max, sym, ◌∙◌, subst, arith}
use Rattle.std.proofs.lemmas.Bool.{and_from}
use Rattle.std.specs.List.{All}
use Rattle.std.proofs.lemmas.Option.{slice_get-get_or}
use Rattle.geo_base.specs.Rects.{has, grown}
use Rattle.geo_base.specs.declared.shapes.Rect.{Rect}
use Rattle.geo_base.specs.declared.shapes.Square.{Square}
use Rattle.rect_sets.specs.Near.{HasNearCorners}
use Rattle.flat_layout.specs.Layers.{Formula, Empty, IsKept, reach}
use Rattle.flat_layout.specs.Layout.{Design, IsReached}
use Rattle.cell_graph.specs.Linked.{Linked, IsSound, HullIsSound, cell_at, hull_of, plain}
use Rattle.cell_graph.proofs.Bridge.{hull_sound, inside_has}
use Rattle.cell_context.specs.Arrays.{IsPart}
use Rattle.cell_context.proofs.Visiting.{wider_rect}
use Rattle.rule_text.specs.Rules.{Rules}
use Rattle.rule_text.specs.Sound as rules
use Rattle.rule_layers.specs.Formulas.{formulas}
use Rattle.gate_phase.specs.Indexes.{AreLayersOf, LayersOf}
use Rattle.deep_tables.proofs.Reading.{layer_at}
use Rattle.gate_search.specs.Gather.{AreMet}
use Rattle.gate_phase.specs.Kept.{HasLocals, HoldsNear}
use Rattle.gate_phase.specs.Layer.{IsKeptNear, KeptOf, formula_of}
use Rattle.cell_graph.specs.Grown.{IsInGrown}
use Rattle.cell_graph.proofs.Growing.{grown_frame}
use Rattle.gate_phase.proofs.Holding.{frame_corners}
use Rattle.gate_phase.proofs.Keeping.{in_one, kept_grown, one_window}
use Rattle.gate_phase.proofs.Reaching.{name_most, name_reach}
use Rattle.gate_phase.proofs.Marking.{count_behind}

-- the table's layers of a name
pub locals_of : (d : Design) (r : Rules) (layers : LayersOf) (i : ℕ) → AreLayersOf d r layers → i < length r.names → rules.IsSound r → HasLocals d layers i (get_or (formulas r.names) i Empty)
locals_of d r layers i right lt ruled cell reached =
    let l = layer_at d r layers.table cell i (get_or (formulas r.names) i Empty) right.table reached (slice_get-get_or (formulas r.names) i Empty (let n = count_behind [] r.names in omega arith)) in
    (l.0, l.1, l.2, record { is = sym (name_reach r layers.reaches i right.reaches); most = name_most r i ruled })

-- a reached cell is one of the design's
pub reached_cell : (d : Linked) (cell : ℕ) → IsSound d → IsReached (plain d) cell → cell < length d.cells
reached_cell d cell sound reached = let k = sound.order.all cell reached in subst (λ n. n < length d.cells) k.2 (sound.order.inside k.0 k.1)

pub one_all : {A : Type 0} (P : A → Type 0) (x : A) → P x → All P (x ∷ [])
one_all P x h zero r lt = h
one_all P x h (suc k) r lt = absurd (let z : ⊥ = omega arith in z)

grown_plane : (n : ℕ) (o : Option Rect) (q : Square) (plane : Rect) → n ≤ 20001 → HullIsSound o → HoldsNear plane → IsInGrown n o q → has plane q ≡ true
grown_plane n None q plane most sound all h = absurd h
grown_plane n (Some w) q plane most sound all h = inside_has (grown n w) plane q (all (grown n w) (wider_rect (2 ^ 37) (2 ^ 39) (grown n w) (omega arith) (grown_frame n w most sound).near)) h

-- a layer of two reaches as far as one of them
pub both_most : (m n : ℕ) → m ≤ 10000 → n ≤ 10000 → max m n ≤ 10000
both_most m n h g = grind (arith, h, g)

-- what a cell keeps is near
pub kept_corners : (d : Linked) (cell : ℕ) (x : Formula) (q : Square) → IsSound d → reach x ≤ 10000 → IsKept (plain d) cell x q → HasNearCorners q
kept_corners d cell x q sound most kept = frame_corners (reach x) (hull_of (cell_at d cell)) q (omega (arith, most)) (hull_sound d cell sound) (kept_grown d cell x q sound kept)

-- and in the plane
kept_plane : (d : Linked) (cell : ℕ) (x : Formula) (q : Square) (plane : Rect) → IsSound d → reach x ≤ 10000 → HoldsNear plane → IsKept (plain d) cell x q → has plane q ≡ true
kept_plane d cell x q plane sound most all kept = grown_plane (reach x) (hull_of (cell_at d cell)) q plane (omega (arith, most)) (hull_sound d cell sound) all (kept_grown d cell x q sound kept)

-- a window may be cut to the plane
pub met_near : (v : KeptOf) (w near plane : Rect) (set : List Rect) → IsSound v.design → reach (formula_of v.rules v.name) ≤ 10000 → HoldsNear plane → IsPart w plane near → AreMet (IsKept (plain v.design) v.cell (formula_of v.rules v.name)) (near ∷ []) set → AreMet (IsKeptNear v) (w ∷ []) set
met_near v w near plane set sound most all part met =
    let x = formula_of v.rules v.name in
    record {
      sound = λ q e. let k = met.sound q e in record { kept = k; near = kept_corners v.design v.cell x q sound most k };
      complete = λ q k e.
          met.complete q k.kept
          (one_window near q (part.has q ∙ and_from (has w q) (has plane q) (in_one w q e) (kept_plane v.design v.cell x q plane sound most all k.kept)));
    }

-- and one that misses the plane has nothing
pub none_near : (v : KeptOf) (w plane : Rect) → IsSound v.design → reach (formula_of v.rules v.name) ≤ 10000 → HoldsNear plane → ((q : Square) → (has w q && has plane q) ≡ false) → AreMet (IsKeptNear v) (w ∷ []) []
none_near v w plane sound most all none = record {
  sound = λ q e. absurd (let f : false ≡ true = e in let z : ⊥ = cc in z);
  complete = λ q k e.
      let x = formula_of v.rules v.name in
      let in_plane = kept_plane v.design v.cell x q plane sound most all k.kept in
      absurd (let f : false ≡ true = sym (none q) ∙ and_from (has w q) (has plane q) (in_one w q e) in_plane in let z : ⊥ = cc in z);
}
