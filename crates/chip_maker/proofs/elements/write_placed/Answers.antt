use Rattle.std.proofs.Common.{◌++◌, ◌∙◌, List, ℕ, ℤ, pos, ap, w64, to_z, of_z}
use Rattle.std.proofs.lemmas.Result.{IfOk-equal}
use Rattle.geo_base.specs.declared.motion.Turn.TheVariants.{R0}
use Rattle.gds_elements.specs.Meaning.{Ref, single}
use Rattle.gds_shapes.specs.References.{reference}
use Rattle.chip_maker.specs.Stream.{bytes_of, ref_bytes}
use Rattle.chip_maker.proofs.Passed.{passed_place}
use Rattle.chip_maker.proofs.elements.write_placed.Goals as goal

abbrev at : List ℕ → ℤ → ℤ → Ref
at cell dx dy = single cell (record { turn = R0; dx = dx; dy = dy })

pub returns : goal.returns
unfolding ref_bytes
returns c =
    let out = c.args.out.now.items in
    let name = c.from_vec-cell.ensures ∙ c.in_ok-to_vec.ensures.items_if_clones_equal (λ x y e. e) in
    let dx = passed_place c.args.x c.from.result c.requires.x c.from.ensures in
    let dy = passed_place c.args.y c.from-2.result c.requires.y c.from-2.ensures in
    IfOk-equal c.write_reference.result _ _ _ c.write_reference.ensures
    (ap (λ (cell : List ℕ). out ++ bytes_of (reference (at cell (to_z w64 (of_z w64 c.from.result)) (to_z w64 (of_z w64 c.from-2.result))))) name
    ∙ ap (λ (x : ℤ). out ++ bytes_of (reference (at c.args.name.now x (to_z w64 (of_z w64 c.from-2.result))))) dx
    ∙ ap (λ (y : ℤ). out ++ bytes_of (reference (at c.args.name.now (pos c.args.x) y))) dy)
