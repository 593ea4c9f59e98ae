use Rattle.std.proofs.Common.{◌≡◌, ◌<◌, ℕ, true, List, length, map, slice_index, slice_get, get_or, nat_cmp, Result, Ok, Err, refl, sym, ap, ◌∙◌, arith}
use Rattle.std.specs.List.Sorted.{IsBinarySearchResult}
use Rattle.std.proofs.lemmas.List.{get_or-map, length-map}
use Rattle.std.proofs.lemmas.List.Sorted.{searched}
use Rattle.std.proofs.Math.Decide.{dec_lt}
use mathlib.Core.Logic.{dite}
use Rattle.once_cell.specs.Once.{cell_name}
use Rattle.once_cell.specs.declared.race.once_box.OnceBox.{OnceBox}
use Rattle.job_graph.specs.Graph.{AreAscending, has}
use Rattle.job_graph.specs.Notes.{known_values}
use Rattle.job_graph.specs.declared.notes.CellNote.{CellNote}
use Rattle.job_graph.proofs.Taken.{ascending_at, not_item}
use Rattle.job_board.specs.Slots.{place}
use Rattle.job_board.specs.Inputs.{AreNoted}
use Rattle.job_board.proofs.Slots.{placed, apart_at}
use Rattle.job_board.proofs.Known.{item_below, value_known}
use Rattle.job_board.proofs.inputs.InputsReads.get.Goals as goal

-- the place that was found
found : (xs : List ℕ) (x high at : ℕ) (r : Result ℕ ℕ) → AreAscending 0 xs high → IsBinarySearchResult (λ y. nat_cmp y x) xs r → r ≡ Ok at → (at < length xs) × (slice_index xs at ≡ x)
found xs x high at r a b is = let all = searched xs x r b (λ i j le l. ascending_at 0 xs high i j a le l) in let here = rw is at all in (here.0, here.1)

-- a number of the list is found
missing : (xs : List ℕ) (x high at : ℕ) (r : Result ℕ ℕ) → AreAscending 0 xs high → IsBinarySearchResult (λ y. nat_cmp y x) xs r → r ≡ Err at → has x xs ≡ true → ⊥
missing xs x high at r a b is h =
    let all = searched xs x r b (λ i j le l. ascending_at 0 xs high i j a le l) in let here = rw is at all in
    let none = not_item x xs (λ k l s. dite (dec_lt k at) (λ m. let q = here.1 k m in absurd (omega arith)) (λ m. let q = here.2 k (omega arith) l in absurd (omega arith))) in absurd (cc)

-- the note at that place is of the job's cell
named : {T : Type 0} (cells : List (OnceBox T)) (jobs : List ℕ) (notes : List (CellNote T)) (at job : ℕ) (n : CellNote T) (c d : OnceBox T) → AreNoted cells jobs notes → at < length jobs → slice_index jobs at ≡ job
    → n ≡ get_or notes at n → c ≡ get_or cells job d → (at < length notes) × (job < length cells) × (n.cell ≡ cell_name c)
named {T} cells jobs notes at job n c d h l e is ic =
    let many = ap length h.names in let a = length-map notes (λ (m : CellNote T). m.cell) in let b = length-map jobs (λ j. slice_index (map cell_name cells) j) in
    let an : at < length notes = omega arith in let low = item_below jobs (length cells) at h.ascend l in let jn : job < length cells = omega arith in (
      an,
      jn,
      ap (λ (m : CellNote T). m.cell) is ∙ sym (get_or-map (λ (m : CellNote T). m.cell) notes at n 0 an) ∙ ap (λ z. slice_index z at) h.names ∙ get_or-map (λ j. slice_index (map cell_name cells) j) jobs at 0 0 l
          ∙ ap (slice_index (map cell_name cells)) e ∙ get_or-map cell_name cells job d 0 jn ∙ ap cell_name (sym ic),
    )

-- a listed job is one of the board's
inside : {T : Type 0} (cells : List (OnceBox T)) (jobs : List ℕ) (notes : List (CellNote T)) (at job : ℕ) → AreNoted cells jobs notes → at < length jobs → slice_index jobs at ≡ job → job < length cells
inside cells jobs notes at job h l e = let low = item_below jobs (length cells) at h.ascend l in omega arith

-- its place is the one that was found
same_place : (jobs : List ℕ) (high at job : ℕ) → AreAscending 0 jobs high → has job jobs ≡ true → at < length jobs → slice_index jobs at ≡ job → place job jobs ≡ at
same_place jobs high at job a h l e = let p = placed job jobs h in apart_at 0 jobs high (place job jobs) at a p.0 l (p.1 ∙ sym e)

many_notes : {T : Type 0} (cells : List (OnceBox T)) (jobs : List ℕ) (notes : List (CellNote T)) → AreNoted cells jobs notes → length notes ≡ length jobs
many_notes {T} cells jobs notes h = sym (length-map notes (λ (m : CellNote T). m.cell)) ∙ ap length h.names ∙ length-map jobs (λ j. slice_index (map cell_name cells) j)

pub unreachable-requires : goal.unreachable-requires
unreachable-requires g c = let r = c.args.self.now in missing r.jobs.now c.args.job (length r.cells.now) c.in_default.field-0 c.binary_search.result c.requires.noted.ascend c.binary_search.ensures.position c.in_default.is c.requires.listed

pub index-requires : goal.index-requires
index-requires g c = let r = c.args.self.now in let f = found r.jobs.now c.args.job (length r.cells.now) c.in-Ok.place c.binary_search.result c.requires.noted.ascend c.binary_search.ensures.position c.in-Ok.is in
    let m = many_notes r.cells.now r.jobs.now r.notes.now.items c.requires.noted in let o = r.notes.now.ok.0 in let l = f.0 in omega arith

pub bounds-self-job : goal.bounds-self-job
bounds-self-job g c = let r = c.args.self.now in let f = found r.jobs.now c.args.job (length r.cells.now) c.in-Ok.place c.binary_search.result c.requires.noted.ascend c.binary_search.ensures.position c.in-Ok.is in
    inside r.cells.now r.jobs.now r.notes.now.items c.in-Ok.place c.args.job c.requires.noted f.0 f.1

pub read-requires : goal.read-requires
read-requires g c = let r = c.args.self.now in let f = found r.jobs.now c.args.job (length r.cells.now) c.in-Ok.place c.binary_search.result c.requires.noted.ascend c.binary_search.ensures.position c.in-Ok.is in
    (named r.cells.now r.jobs.now r.notes.now.items c.in-Ok.place c.args.job c.index.result.now _ c.index-self-job.result c.requires.noted f.0 f.1 c.index.ensures refl).2

pub returns : goal.returns
returns g c = let r = c.args.self.now in let f = found r.jobs.now c.args.job (length r.cells.now) c.in-Ok.place c.binary_search.result c.requires.noted.ascend c.binary_search.ensures.position c.in-Ok.is in
    let m = many_notes r.cells.now r.jobs.now r.notes.now.items c.requires.noted in let l = f.0 in
    ap (λ z. slice_get (known_values r.notes.now.items) z) (same_place r.jobs.now (length r.cells.now) c.in-Ok.place c.args.job c.requires.noted.ascend c.requires.listed f.0 f.1)
    ∙ value_known r.notes.now.items c.in-Ok.place c.index.result.now c.read.result.now (omega arith) c.index.ensures c.read.ensures
