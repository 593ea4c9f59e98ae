use Rattle.std.proofs.Common.{◌≡◌, ◌≤ℤ◌, ◌*ℤ◌, pos, ◌-◌, rules, FitsSigned, w64}
use Rattle.std.proofs.lemmas.Int.{to_z-of_z}
use Rattle.std.specs.Int.{int_min, int_max}
use Rattle.cell_graph.specs.declared.arrays.Interval.{Interval}
use Rattle.cell_graph.proofs.Ranges.{last_reach, min_one, max_one}
use Rattle.cell_graph.proofs.arrays.reach.Goals as goal

pub returns : goal.returns
returns c =
    let step = c.args.step in
    let last = c.times-last.result in
    let s : FitsSigned w64 step = search rules in
    let l : FitsSigned w64 last = search rules in
    let low : FitsSigned w64 c.min.result = search rules in
    let high : FitsSigned w64 c.max.result = search rules in
    let exact : last ≡ pos (c.args.count - 1) *ℤ step = simp to_z-of_z at c.times-last.ensures.exact in
    let min : c.min.result ≡ int_min last (pos 0) = simp to_z-of_z at c.min.ensures.value in
    let max : c.max.result ≡ int_max last (pos 0) = simp to_z-of_z at c.max.ensures.value in
    let min0 : c.min.result ≤ℤ last = simp to_z-of_z at c.min.ensures.self_bound in
    let max0 : last ≤ℤ c.max.result = simp to_z-of_z at c.max.ensures.self_bound in
    let r : Interval = record { low = c.min.result; high = c.max.result } in
    simp to_z-of_z (last_reach step c.args.count last r c.requires exact c.times-last.ensures.near
    (min_one last (pos 0) c.min.result min) min0 c.min.ensures.other_bound (max_one last (pos 0) c.max.result max) max0 c.max.ensures.other_bound)
