-- One line more.
use Rattle.std.proofs.Common.{List, map, ◌++◌, ◌∙◌, ap, subst}
use Rattle.std.specs.List.{All, flat_map}
use Rattle.std.proofs.lemmas.List.{map_more, take_all}
use Rattle.std.proofs.lemmas.List.Elements.{All-same, All-push}
use Rattle.rule_text.specs.declared.rules.Output.{Output}
use Rattle.gds_records.specs.Records.{record_bytes}
use Rattle.gds_shapes.specs.Stream.{FitsLayer, layer}
use Rattle.gds_shapes.proofs.More.{texts_push}
use Rattle.layout_shapes.specs.Written.{line_of}
use Rattle.layout_shapes.proofs.cells.write_lines.Goals as goal

abbrev none : Output
none = record { layer = 0; key = record { layer = 0; datatype = 0 } }

pub loop-line-preserved : goal.loop-line-preserved
loop-line-preserved c =
    let more = map_more (line_of c.args.layers.now c.args.cell) c.deref-line-items.result.now c.loop-line.line-index none c.loop-line-test.true in
    record {
      written = texts_push layer _ _ _ _ _ _ more c.loop-line.invariant.written c.in_ok-write_line.ensures.written;
      fits = All-same FitsLayer _ _ more (All-push FitsLayer _ _ c.loop-line.invariant.fits c.in_ok-write_line.ensures.fits);
    }

pub returns-clause-fits : goal.returns-clause-fits
returns-clause-fits c =
    let all = take_all c.loop-line.line-index c.deref-line-items.result.now c.loop-line-test.false ∙ c.deref-line-items.ensures.value in
    subst (λ (os : List Output). All FitsLayer (map (line_of c.args.layers.now c.args.cell) os)) all c.loop-line.invariant.fits

pub returns-clause-written : goal.returns-clause-written
returns-clause-written c =
    let all = take_all c.loop-line.line-index c.deref-line-items.result.now c.loop-line-test.false ∙ c.deref-line-items.ensures.value in
    c.loop-line.invariant.written ∙ ap (λ (os : List Output). c.args.out.now.items ++ flat_map record_bytes (flat_map layer (map (line_of c.args.layers.now c.args.cell) os))) all
