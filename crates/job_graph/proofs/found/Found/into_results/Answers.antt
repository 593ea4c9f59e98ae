use Rattle.std.proofs.Common.{◌≡◌, [], ◌∷◌, ◌++◌, Some, ap, ◌∙◌}
use Rattle.std.proofs.lemmas.List.{map-append}
use Rattle.once_cell.specs.Once.{cell_name}
use Rattle.job_graph.specs.declared.notes.CellNote.{CellNote}
use Rattle.job_graph.specs.Notes.{known_values}
use Rattle.job_graph.proofs.Finding.{one_more, tail_found}
use Rattle.job_graph.proofs.Knowing.{names_more}
use Rattle.job_graph.proofs.found.Found.into_results.Goals as goal

pub loop-value-preserved : goal.loop-value-preserved
loop-value-preserved g c =
    let v = c.loop-value.invariant in let note = c.set_cell.result in let x = c.in-Some-value.value in
    let s : c.loop-value.value-iterator.rest.items ≡ Some x ∷ c.next.new.self.rest.items = (c.in-Some.ensures {u = tt}).steps.0 ∙ ap (λ o. o ∷ c.next.new.self.rest.items) c.in-Some-value.is in
    let pushed : c.push.new.self.items ≡ c.loop-value.notes.items ++ note ∷ [] = (c.in_ok-push.ensures {u = tt}).items in
    let value : note.value ≡ x = c.set_cell.ensures.value ∙ (c.in_ok-new.ensures {u = tt}).ok in
    let known : known_values c.push.new.self.items ≡ known_values c.loop-value.notes.items ++ x ∷ [] =
    ap known_values pushed ∙ map-append (λ (n : CellNote g.row.T.Denot). n.value) c.loop-value.notes.items (note ∷ []) ∙ ap (λ y. known_values c.loop-value.notes.items ++ y ∷ []) value in
    record {
      same = one_more c.args.self (known_values c.loop-value.notes.items) (known_values c.push.new.self.items) x c.loop-value.value-iterator.rest.items c.next.new.self.rest.items v.same s known;
      names = names_more cell_name c.loop-value.notes.items c.push.new.self.items c.loop-value.cells.items c.push-in-loop-value.new.self.items note c.new-cell.result v.names pushed (c.in_ok-push-2.ensures {u = tt}).items c.set_cell.ensures.cell;
      left = tail_found c.loop-value.value-iterator.rest.items c.next.new.self.rest.items x s v.left;
    }
