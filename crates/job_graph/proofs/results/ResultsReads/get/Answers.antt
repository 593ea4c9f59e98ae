use Rattle.std.proofs.Common.{◌≡◌, ◌<◌, ℕ, List, length, Some, get_or, slice_get, sym, ap, ◌∙◌, subst, arith}
use Rattle.std.proofs.lemmas.List.{get_or-map, length-map}
use Rattle.std.proofs.lemmas.Option.{slice_get-get_or}
use Rattle.once_cell.specs.Once.{cell_name}
use Rattle.job_graph.specs.declared.notes.CellNote.{CellNote}
use Rattle.job_graph.specs.Notes.{known_values}
use Rattle.job_graph.proofs.Knowing.{same_count, named_at}
use Rattle.job_graph.proofs.results.ResultsReads.get.Goals as goal

-- a job has its place among the notes
noted : {T : Type 0} (notes : List (CellNote T)) (values : List T) (job : ℕ) → known_values notes ≡ values → job < length values → job < length notes
noted {T} notes values job e l = subst (λ n. job < n) (ap length (sym e) ∙ length-map notes (λ (n : CellNote T). n.value)) l

-- and its value is what that note knows
valued : {T : Type 0} (notes : List (CellNote T)) (values : List T) (job : ℕ) (n : CellNote T) (x : T) → known_values notes ≡ values → job < length notes → n ≡ get_or notes job n → x ≡ n.value → slice_get values job ≡ Some x
valued {T} notes values job n x e l is v =
    ap (λ xs. slice_get xs job) (sym e) ∙ slice_get-get_or (known_values notes) job x (subst (λ k. job < k) (sym (length-map notes (λ (n : CellNote T). n.value))) l)
    ∙ ap (λ y. Some y) (get_or-map (λ (n : CellNote T). n.value) notes job n x l ∙ ap (λ (m : CellNote T). m.value) (sym is) ∙ sym v)

pub index-requires : goal.index-requires
index-requires g c =
    let r = c.self.inside in let l = noted r.notes.items c.args.self.now c.args.job c.self.view_is c.requires in let o = r.notes.ok.0 in
    let n = same_count cell_name r.cells.items r.notes.items c.self.invariant in let p = r.cells.ok.0 in omega arith

pub index-requires-2 : goal.index-requires-2
index-requires-2 g c =
    let r = c.self.inside in let l = noted r.notes.items c.args.self.now c.args.job c.self.view_is c.requires in let o = r.notes.ok.0 in
    let n = same_count cell_name r.cells.items r.notes.items c.self.invariant in let p = r.cells.ok.0 in omega arith

pub read-requires : goal.read-requires
read-requires g c =
    let r = c.self.inside in let l = noted r.notes.items c.args.self.now c.args.job c.self.view_is c.requires in
    ap (λ (n : CellNote g.row.T.Denot). n.cell) c.index.ensures ∙ named_at cell_name r.cells.items r.notes.items c.args.job c.index-2.result.now c.index.result.now c.self.invariant l ∙ ap cell_name (sym c.index-2.ensures)

pub returns : goal.returns
returns g c =
    let r = c.self.inside in let l = noted r.notes.items c.args.self.now c.args.job c.self.view_is c.requires in
    valued r.notes.items c.args.self.now c.args.job c.index.result.now c.read.result.now c.self.view_is l c.index.ensures c.read.ensures
