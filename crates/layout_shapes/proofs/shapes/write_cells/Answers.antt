-- One cell more.
use Rattle.std.proofs.Common.{ℕ, List, map, ◌++◌, ◌∙◌, ap, subst}
use Rattle.std.specs.List.{All, flat_map}
use Rattle.std.proofs.lemmas.List.{map_more, take_all}
use Rattle.std.proofs.lemmas.List.Elements.{All-same, All-push}
use Rattle.gds_records.specs.Records.{record_bytes}
use Rattle.gds_shapes.specs.Accepted.{FitsCell}
use Rattle.gds_shapes.specs.Stream.{structure}
use Rattle.gds_shapes.proofs.More.{texts_push}
use Rattle.rule_text.specs.Seen.{rules_seen}
use Rattle.layout_shapes.specs.Written.{drawn}
use Rattle.layout_shapes.proofs.shapes.write_cells.Goals as goal

pub loop-cell-preserved : goal.loop-cell-preserved
loop-cell-preserved c =
    let more = map_more (drawn c.args.layout.now (rules_seen c.args.rules.now) c.args.layers.now) c.args.cells.now c.loop-cell.cell-index 0 c.loop-cell-test.true in
    record {
      written = texts_push structure _ _ _ _ _ _ more c.loop-cell.invariant.written c.in_ok-write_cell.ensures.written;
      fits = All-same FitsCell _ _ more (All-push FitsCell _ _ c.loop-cell.invariant.fits c.in_ok-write_cell.ensures.fits);
    }

pub returns-clause-fits : goal.returns-clause-fits
returns-clause-fits c =
    let all = take_all c.loop-cell.cell-index c.args.cells.now c.loop-cell-test.false in
    subst (λ (cs : List ℕ). All FitsCell (map (drawn c.args.layout.now (rules_seen c.args.rules.now) c.args.layers.now) cs)) all c.loop-cell.invariant.fits

pub returns-clause-written : goal.returns-clause-written
returns-clause-written c =
    let all = take_all c.loop-cell.cell-index c.args.cells.now c.loop-cell-test.false in
    c.loop-cell.invariant.written
    ∙ ap (λ (cs : List ℕ). c.args.out.now.items ++ flat_map record_bytes (flat_map structure (map (drawn c.args.layout.now (rules_seen c.args.rules.now) c.args.layers.now) cs))) all
