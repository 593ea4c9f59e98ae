-- The header, the cells and the end.
use Rattle.std.proofs.Common.{ℕ, List, ◌++◌, ◌∙◌, ap, subst, sym}
use Rattle.std.specs.Prelude.{map}
use Rattle.std.specs.List.{All, flat_map}
use Rattle.gds_records.specs.Records.{record_bytes}
use Rattle.gds_records.specs.Kinds.{ENDLIB}
use Rattle.gds_elements.specs.Faults.{Accepts}
use Rattle.gds_shapes.specs.Data.{bare}
use Rattle.gds_shapes.specs.Stream.{header, structure}
use Rattle.gds_shapes.specs.Accepted.{FitsCell, library_read}
use Rattle.rule_text.specs.Seen.{rules_seen}
use Rattle.layout_shapes.specs.Writable.{CanWriteCell}
use Rattle.layout_shapes.specs.Written.{drawn, heading_of}
use Rattle.layout_shapes.proofs.Fitting.{all_can}
use Rattle.layout_shapes.proofs.Joined.{library_in_turn}
use Rattle.layout_shapes.proofs.shapes.shapes_text.Goals as goal

pub write_cells-requires : goal.write_cells-requires
write_cells-requires c =
    let l = c.args.layout.now in
    let r = rules_seen c.args.rules.now in
    let table = c.args.layers.now in
    subst (λ (cs : List ℕ). All (CanWriteCell l r table) cs) (sym c.deref.ensures.value)
    (all_can c.layer_table.ensures.at l r table c.in_ok-cells.cells.items c.sound.ensures c.requires.rules c.requires.layers c.requires.layout c.requires.narrow c.in_ok-cells.ensures)

pub returns : goal.returns
returns c =
    let l = c.args.layout.now in
    let r = rules_seen c.args.rules.now in
    let table = c.args.layers.now in
    let heading = heading_of l.header in
    let numbers = c.in_ok-cells.cells.items in
    let cells = map (drawn l r table) numbers in
    let fits : All FitsCell cells = subst (λ (cs : List ℕ). All FitsCell (map (drawn l r table) cs)) c.deref.ensures.value c.in_ok-write_cells.ensures.fits in
    let exact = library_in_turn record_bytes (header heading) (flat_map structure cells) (bare ENDLIB) _ _ _ _ c.new-out.ensures.items c.in_ok-write_header.ensures
    (c.in_ok-write_cells.ensures.written ∙ ap (λ (cs : List ℕ). c.write_header.new.out.items ++ flat_map record_bytes (flat_map structure (map (drawn l r table) cs))) c.deref.ensures.value)
    c.in_ok-write_end.ensures in
    let P : List ℕ → Type 0 = λ text. Accepts text (library_read heading cells) in
    record {
      cells = numbers;
      reached = c.in_ok-cells.ensures;
      exact = exact;
      accepted = subst P (sym exact) (c.written.ensures heading cells c.requires.layout.heading fits);
    }
