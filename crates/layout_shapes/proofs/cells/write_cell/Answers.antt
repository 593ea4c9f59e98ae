-- A cell's start, its references, its lines and its end.
use Rattle.std.proofs.Common.{◌≡◌, ℕ, List, [], ◌∷◌, ◌++◌, ◌∙◌, ap, sym}
use Rattle.base_laws.proofs.Items.{item_at}
use Rattle.std.specs.List.{flat_map}
use Rattle.std.proofs.lemmas.List.{get_or_default}
use Rattle.std.proofs.lemmas.List.Elements.{All-map}
use Rattle.std.proofs.lemmas.Result.{IfOk-equal}
use Rattle.cell_graph.specs.Linked.{cell_at, places_at}
use Rattle.gds_records.specs.Records.{record_bytes}
use Rattle.gds_records.specs.Kinds.{BGNSTR, STRNAME, ENDSTR}
use Rattle.gds_shapes.specs.Data.{bare, numbers, string}
use Rattle.gds_shapes.specs.References.{FitsReference, reference}
use Rattle.gds_shapes.specs.Stream.{layer}
use Rattle.rule_text.specs.Seen.{rules_seen}
use Rattle.layout_shapes.specs.Written.{drawn, ref_of, name_of}
use Rattle.layout_shapes.proofs.Joined.{cell_in_turn, whatever}
use Rattle.layout_shapes.proofs.cells.write_cell.Goals as goal

pub returns-clause-fits : goal.returns-clause-fits
returns-clause-fits c =
    let d = c.args.layout.now.design in
    whatever c.write_cell_end.result record {
      dates = c.requires.dates;
      name = c.requires.name;
      refs = All-map FitsReference (ref_of d) (places_at (cell_at d c.args.cell)) c.requires.refs;
      layers = c.in_ok-write_lines.ensures.fits;
    }

pub returns-clause-written : goal.returns-clause-written
returns-clause-written c =
    let d = c.args.layout.now.design in
    let cell = drawn c.args.layout.now (rules_seen c.args.rules.now) c.args.layers.now c.args.cell in
    let part = item_at d.cells c.args.cell c.requires.inside in
    let name : c.bytes.result.now ≡ cell.name = c.bytes.ensures.same ∙ c.name.ensures part.0 part.1 ∙ sym (ap name_of part.1) in
    let dates : c.index-dates.result.now ≡ cell.dates = c.index-dates.ensures ∙ get_or_default c.args.layout.now.cell_dates.items c.args.cell _ [] c.requires.dated in
    IfOk-equal c.write_cell_end.result _ _ _ c.write_cell_end.ensures
    (cell_in_turn record_bytes (numbers BGNSTR cell.dates) (string STRNAME cell.name) (bare ENDSTR) (flat_map reference cell.refs) (flat_map layer cell.layers) _ _ _ _
    (c.in_ok-write_cell_start.ensures
    ∙ ap (λ (bs : List ℕ). c.args.out.now.items ++ flat_map record_bytes (numbers BGNSTR bs ∷ string STRNAME c.bytes.result.now ∷ [])) dates
    ∙ ap (λ (bs : List ℕ). c.args.out.now.items ++ flat_map record_bytes (numbers BGNSTR cell.dates ∷ string STRNAME bs ∷ [])) name)
    c.in_ok-write_references.ensures
    c.in_ok-write_lines.ensures.written)
