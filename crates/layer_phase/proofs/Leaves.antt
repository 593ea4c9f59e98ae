-- Cells that place no other.
use Rattle.std.proofs.Common.{◌≡◌, ◌∙◌, ◌≤◌, ◌^◌, Bool, true, false, ℕ, List, [], Option, Some, ap, sym, subst, arith, length}
use Rattle.std.proofs.lemmas.Option.{slice_get_within}
use Rattle.geo_base.specs.Rects.{has, grown}
use Rattle.geo_base.specs.declared.shapes.Rect.{Rect}
use Rattle.geo_base.specs.declared.shapes.Square.{Square}
use Rattle.rect_sets.specs.Rects.{covers}
use Rattle.cell_graph.specs.Linked.{Linked, IsSound, IsRectWithin, HullHas, HullIsSound, cell_at, hull_of, places_at}
use Rattle.cell_graph.proofs.Bridge.{hull_sound, own_in_hull}
use Rattle.cell_graph.proofs.Growing.{within_rect}
use Rattle.flat_laws.proofs.Moves.{within_back}
use Rattle.rule_text.specs.declared.rules.LayerRule.{LayerRule}
use Rattle.deep_tables.specs.declared.zones.CellZones.{CellZones}
use Rattle.layer_phase.specs.Looks.{AreLooks}
use Rattle.layer_phase.proofs.Around.{grown_within, set_within}

-- where no cell is placed, the hull is enough to look at
pub whole_looks : (n : ℕ) (d : Linked) (z : List (Option CellZones)) (names : List LayerRule) (marks : List Bool) (cell : ℕ) (w wide : Rect) (set : List Rect) → n ≤ 10000 → IsSound d → hull_of (cell_at d cell) ≡ Some w
    → wide ≡ grown n w → places_at (cell_at d cell) ≡ [] → ((q : Square) → covers set q ≡ has wide q) → AreLooks n d z names marks cell set
whole_looks n d z names marks cell w wide set most sound hull is leaf same = record {
  within = set_within (2 ^ 37) wide set (subst (IsRectWithin (2 ^ 37)) (sym is) (grown_within (2 ^ 36) n (2 ^ 37) w (omega arith) (subst HullIsSound hull (hull_sound d cell sound)).near)) (λ q e. sym (same q) ∙ e);
  own = λ name key named s q e near. same q ∙ subst (λ r. has r q ≡ true) (sym is) (within_rect n w q s (subst (λ o. HullHas o s) hull (own_in_hull d cell key s sound e)) (within_back n s q near));
  stirred = [];
  for_all = λ name lt mark zone there q e. absurd (let f : false ≡ true = e in let z : ⊥ = cc in z);
  below = λ i p at row column s a b h.
      let lt = slice_get_within (places_at (cell_at d cell)) i p at in let n = ap length leaf in absurd (omega arith);
}
