use Rattle.std.proofs.Common.{ℕ, ◌++◌, ◌∷◌, [], List, sym, ap, subst, ◌∙◌}
use Rattle.std.proofs.lemmas.List.{map-append}
use Rattle.cell_graph.specs.declared.drafts.CellDraft.{CellDraft}
use Rattle.gds_elements.specs.Meaning.{Cell}
use Rattle.gds_elements.specs.Reading.{cell_seen}
use Rattle.gds_layout.specs.Drafts.{AreDraftsOf}
use Rattle.gds_layout.proofs.Drafting.{drafted_more}
use Rattle.gds_layout.proofs.drafts.Drawn.add.Goals as goal

pub returns : goal.returns
returns c = λ before h.
    let cell = cell_seen c.args.cell in
    record {
      drafted = subst (λ (ds : List CellDraft). AreDraftsOf (before ++ cell ∷ []) ds) (sym c.in_ok-push.ensures.items)
          (drafted_more before c.args.self.now.cells.items cell c.in_ok-draft.draft h.drafted c.in_ok-draft.ensures);
      dated = c.in_ok-push-2.ensures.items ∙ ap (λ (ds : List (List ℕ)). ds ++ cell.dates ∷ []) h.dated ∙ sym (map-append (λ (x : Cell). x.dates) before (cell ∷ []));
    }
