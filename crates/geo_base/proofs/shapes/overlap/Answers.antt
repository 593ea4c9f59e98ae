use Rattle.std.proofs.Common.{◌≡◌, ℤ, rules, FitsSigned, w64, ap, ◌∙◌}
use Rattle.std.specs.Prelude.{int_lt}
use Rattle.std.specs.Int.{int_min, int_max}
use Rattle.std.proofs.lemmas.Int.{to_z-of_z}
use Rattle.geo_base.specs.Rects.{overlap}
use Rattle.geo_base.proofs.shapes.overlap.Goals as goal

pub returns : goal.returns
returns c =
    let a = c.args in
    let f : FitsSigned w64 c.max.result = search rules in
    let g : FitsSigned w64 c.min.result = search rules in
    let l : FitsSigned w64 a.low = c.ranges.low in
    let h : FitsSigned w64 a.high = c.ranges.high in
    let o : FitsSigned w64 a.from = c.ranges.from in
    let t : FitsSigned w64 a.to = c.ranges.to in
    let m : c.max.result ≡ int_max a.low a.from = simp to_z-of_z at c.max.ensures.value in
    let n : c.min.result ≡ int_min a.high a.to = simp to_z-of_z at c.min.ensures.value in
    let e : int_lt c.max.result c.min.result ≡ overlap a.low a.high a.from a.to =
    ap (λ (z : ℤ). int_lt z c.min.result) m ∙ ap (λ (z : ℤ). int_lt (int_max a.low a.from) z) n in
    simp to_z-of_z e
