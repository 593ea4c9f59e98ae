use Rattle.std.proofs.Common.{rules, FitsSigned, w64, sym, subst, ◌^◌}
use Rattle.std.proofs.lemmas.Int.{to_z-of_z}
use Rattle.geo_base.specs.Near.{IsWithin}
use Rattle.cell_context.proofs.arrays.start_at.Goals as goal

pub more-requires-clause-b : goal.more-requires-clause-b
more-requires-clause-b c =
    let f : FitsSigned w64 c.args.step = search rules in let g : FitsSigned w64 c.times.result = search rules in
    let e = simp to_z-of_z at c.times.ensures in
    simp to_z-of_z (subst (IsWithin (2 ^ 38)) (sym e) c.requires.near)
