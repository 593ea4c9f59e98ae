use Rattle.std.proofs.Common.{◌≡◌, ◌+◌, ◌∙◌, ap, sym, Some, slice_get, true, false, subst, ◌++◌, ◌∷◌, []}
use Rattle.std.specs.List.{list_any}
use Rattle.std.specs.Str.{bytes_eq}
use Rattle.std.proofs.lemmas.Option.{slice_get-get_or}
use Rattle.cell_graph.specs.Drafts.{IsFirstNamed, IsRepeat}
use Rattle.cell_graph.proofs.Naming.{name_new, name_twice, names_done, NamesSoFar}
use Rattle.cell_graph.proofs.names.names_of.Goals as goal

pub loop-cell-preserved : goal.loop-cell-preserved
loop-cell-preserved c =
    let cells = c.args.cells.now in
    let cell = c.cell-item.result in
    let n = c.loop-cell.cell-index in
    let there : slice_get cells n ≡ Some cell = slice_get-get_or cells n cell c.loop-cell-test.true ∙ ap Some (sym c.cell-item.is) in
    let bytes : c.bytes-bytes.result.now ≡ cell.name = c.bytes-bytes.ensures.same in
    let free : list_any (bytes_eq cell.name) c.loop-cell.names ≡ false = subst (λ w. list_any (bytes_eq w) c.loop-cell.names ≡ false) bytes (sym c.contains.ensures ∙ c.if-contains.false) in
    let f = name_new cells n c.loop-cell.names cell there free c.loop-cell.invariant in
    rw (c.in_ok-add.ensures {u = tt}) (subst (λ w. NamesSoFar cells (n + 1) (c.loop-cell.names ++ w ∷ [])) (sym bytes) f)

pub returns : goal.returns
returns c =
    let h = names_done c.args.cells.now c.loop-cell.cell-index c.loop-cell.names c.loop-cell-test.false c.loop-cell.invariant in
    record { names = h.0; once = h.1; fault = λ top. tt }

pub returns-then-contains-clause-fault : goal.returns-then-contains-clause-fault
returns-then-contains-clause-fault c top =
    let cells = c.args.cells.now in
    let cell = c.cell-item.result in
    let n = c.loop-cell.cell-index in
    let there : slice_get cells n ≡ Some cell = slice_get-get_or cells n cell c.loop-cell-test.true ∙ ap Some (sym c.cell-item.is) in
    let bytes : c.bytes-bytes.result.now ≡ cell.name = c.bytes-bytes.ensures.same in
    let taken : list_any (bytes_eq cell.name) c.loop-cell.names ≡ true = subst (λ w. list_any (bytes_eq w) c.loop-cell.names ≡ true) bytes (sym c.contains.ensures ∙ c.if-contains.true) in
    let copy = c.in_ok-try_clone.ensures {u = tt} in
    (c.requires, subst (λ w. IsFirstNamed cells (IsRepeat cells) w) (sym copy) (name_twice cells n c.loop-cell.names cell there taken c.loop-cell.invariant))
