use Rattle.std.proofs.Common.{◌++◌, [], List, ℕ, ◌∙◌, ap}
use Rattle.std.specs.List.{flat_map}
use Rattle.gds_shapes.specs.Stream.{header}
use Rattle.gds_shapes.specs.Data.{bare}
use Rattle.gds_records.specs.Records.{record_bytes}
use Rattle.gds_records.specs.Kinds.{ENDLIB}
use Rattle.chip_maker.specs.Inverters.{by_number}
use Rattle.chip_maker.specs.declared.inverters.Kind.TheVariants.{Plain, Wide}
use Rattle.chip_maker.specs.Layout.{inverter_block, row_blocks, top_block}
use Rattle.chip_maker.specs.Stream.{block_bytes, bytes_of, chip_heading}
use Rattle.chip_maker.proofs.Joined.{first, in_turn}
use Rattle.chip_maker.proofs.stream.stream_bytes.Goals as goal

pub returns : goal.returns
returns c =
    let head = bytes_of (header chip_heading) in
    let rows = c.args.rows.now in
    let begun = c.in_ok-write_heading.ensures ∙ ap (λ (o : List ℕ). o ++ head) c.new-out.ensures.items in
    first head _ [] _ _ begun (
    first (block_bytes (inverter_block Plain)) _ _ _ _ c.in_ok-write_inverter.ensures (
    first (block_bytes (inverter_block Wide)) _ _ _ _ c.in_ok-write_inverter-2.ensures (
    first (flat_map block_bytes (by_number row_blocks 0 rows)) _ _ _ _ c.in_ok-write_rows.ensures (
    first (block_bytes (top_block rows)) _ _ _ _ c.in_ok-write_top.ensures
    c.in_ok-write_end.ensures))))
    ∙ ap (λ (m : List ℕ). head ++ m) (in_turn block_bytes (inverter_block Plain) (inverter_block Wide) (top_block rows) (by_number row_blocks 0 rows) (record_bytes (bare ENDLIB)))
