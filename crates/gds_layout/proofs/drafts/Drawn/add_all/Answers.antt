use Rattle.std.proofs.Common.{◌≡◌, ◌++◌, ◌∷◌, [], List, map, sym, ap, subst, ◌∙◌, append_assoc}
use Rattle.std.proofs.lemmas.List.{map-append}
use Rattle.gds_elements.specs.Meaning.{Cell}
use Rattle.gds_elements.specs.Fillable.{AreFillable}
use Rattle.gds_elements.specs.Reading.{cell_seen}
use Rattle.gds_layout.specs.Drafts.{AreDrawn}
use Rattle.gds_layout.proofs.Yielded.{one_yielded, next_seen}
use Rattle.gds_layout.proofs.drafts.Drawn.add_all.Goals as goal

pub loop-cell-preserved : goal.loop-cell-preserved
loop-cell-preserved c =
    let inv = c.loop-cell.invariant in
    let steps = (c.in-Some.ensures {u = tt}).steps.0 in
    let cell = c.in-Some.cell in (
      one_yielded c.args.cells.items c.loop-cell.yielded c.next.new.self.rest.items c.loop-cell.cell-iterator.rest.items cell inv.0 steps,
      λ before h.
          let so_far = before ++ map cell_seen c.loop-cell.yielded in
          let whole : so_far ++ cell_seen cell ∷ [] ≡ before ++ map cell_seen (c.loop-cell.yielded ++ cell ∷ []) =
          append_assoc before (map cell_seen c.loop-cell.yielded) (cell_seen cell ∷ []) ∙ ap (λ (cs : List Cell). before ++ cs) (sym (map-append cell_seen c.loop-cell.yielded (cell ∷ []))) in
          subst (λ (cs : List Cell). AreDrawn cs c.add.new.self) whole (c.in_ok-add.ensures so_far (inv.1 before h)),
    )

pub add-requires : goal.add-requires
add-requires c =
    let inv = c.loop-cell.invariant in
    let steps = (c.in-Some.ensures {u = tt}).steps.0 in
    next_seen AreFillable cell_seen c.args.cells.items c.loop-cell.yielded c.next.new.self.rest.items c.loop-cell.cell-iterator.rest.items c.in-Some.cell c.requires inv.0 steps
