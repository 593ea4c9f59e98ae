use Rattle.std.proofs.Common.{◌∙◌, ℕ, List, ◌++◌, length, ap, refl}
use Rattle.std.specs.List.{flat_map}
use Rattle.chip_maker.specs.declared.inverters.Kind.{Kind}
use Rattle.chip_maker.specs.Inverters.{by_number, row_name}
use Rattle.chip_maker.specs.Layout.{row_texts, inverter_ref}
use Rattle.chip_maker.specs.Stream.{block_bytes, start_bytes, text_bytes, ref_bytes}
use Rattle.std.proofs.lemmas.Result.{IfOk-equal}
use Rattle.chip_maker.proofs.Joined.{first}
use Rattle.chip_maker.proofs.cells.write_row.Goals as goal

pub returns : goal.returns
unfolding block_bytes
returns c =
    IfOk-equal c.write_cell_end.result _ _ _ c.write_cell_end.ensures
    (first (start_bytes (row_name c.args.i)) _ _ _ _ (c.in_ok-write_cell_start.ensures ∙ ap (λ (name : List ℕ). c.args.out.now.items ++ start_bytes name) (c.deref.ensures.value ∙ c.in_ok-name.ensures.text)) (
    first (flat_map text_bytes (row_texts (length c.args.row.now))) _ _ _ _ (c.in_ok-write_row_texts.ensures ∙ ap (λ (row : List Kind). c.write_cell_start.new.out.items ++ flat_map text_bytes (row_texts (length row))) c.kinds-kinds.ensures.same) (
    first (flat_map ref_bytes (by_number inverter_ref 0 c.args.row.now)) _ _ _ _ (c.in_ok-write_inverter_refs.ensures ∙ ap (λ (row : List Kind). c.write_row_texts.new.out.items ++ flat_map ref_bytes (by_number inverter_ref 0 row)) c.kinds-kinds.ensures.same) (
    refl))))
