use Rattle.std.proofs.Common.{◌≡◌, ◌∙◌, true, false, List, [], ap, sym, subst}
use Rattle.geo_base.specs.Motions.{moved_square}
use Rattle.geo_base.specs.declared.shapes.Rect.{Rect}
use Rattle.rect_sets.specs.Rects.{covers}
use Rattle.cell_graph.specs.Grown.{IsInGrown}
use Rattle.cell_graph.specs.Linked.{HullHas, motion_at}
use Rattle.cell_graph.proofs.Bridge.{own_in_hull}
use Rattle.cell_graph.proofs.Growing.{grown_up}
use Rattle.layer_phase.proofs.Exposing.{exposed_held}
use Rattle.layer_phase.proofs.looks.looks.Goals as goal

pub returns-in-None : goal.returns-in-None
returns-in-None c =
    let d = c.args.view.now.design.now in let n = c.args.view.now.reach in let none = sym c.hull.ensures ∙ c.in-None.is in
    record {
      within = λ q e. absurd (let f : false ≡ true = sym (ap (λ (l : List Rect). covers l q) c.empty.ensures) ∙ e in let z : ⊥ = cc in z);
      own = λ name key named s q here near. absurd (subst (λ o. HullHas o s) none (own_in_hull d c.args.cell key s c.sound.ensures here));
      stirred = [];
      for_all = λ name lt mark zone there q e. absurd (let f : false ≡ true = e in let z : ⊥ = cc in z);
      below = λ i p at row column s a b e.
          let held = exposed_held n d c.args.view.now.zones.now c.args.view.now.names.now p.cell s c.sound.ensures e in
          absurd (subst (λ o. IsInGrown n o (moved_square (motion_at p row column) s)) none (grown_up n d c.args.cell i row column p s c.sound.ensures (record { there = at; row_in = a; column_in = b }) held));
    }
