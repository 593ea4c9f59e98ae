use Rattle.std.proofs.Common.{◌≡◌, ◌+ℤ◌, ◌^◌, ◌↔◌, true, refl, rules, FitsSigned, w64}
use Rattle.std.proofs.lemmas.Int.{to_z-of_z}
use Rattle.geo_base.specs.Near.{IsWithin}
use Rattle.cell_graph.specs.declared.arrays.Interval.{Interval}
use Rattle.cell_graph.specs.Arrays.{IsReach, IsTooLong}
use Rattle.cell_graph.proofs.Ranges.{far_column, far_row, low_origin, high_origin, far_origin, all_origins, farther}
use Rattle.cell_graph.proofs.arrays.origins.Goals as goal
use Rattle.cell_graph.proofs.arrays.origins.Goals.{else-is_near-via-then-is_near+else-is_near-2, else-is_near-via-else-is_near}

pub returns-in_default : goal.returns-in_default
returns-in_default c =
    let s : FitsSigned w64 c.args.start = search rules in
    let cs : FitsSigned w64 c.args.column_step = search rules in
    let near : IsWithin (2 ^ 36) c.args.start = simp to_z-of_z at ((c.if-not-is_near.ensures {u = tt}).0 refl) in
    let long : IsTooLong c.args.column_step c.args.columns = simp to_z-of_z at (c.in_default.ensures {u = tt}) in
    far_column c.args.start c.args.column_step c.args.row_step c.args.rows c.args.columns c.requires.rows near long

pub returns-in_default-reach : goal.returns-in_default-reach
returns-in_default-reach c =
    let s : FitsSigned w64 c.args.start = search rules in
    let rs : FitsSigned w64 c.args.row_step = search rules in
    let near : IsWithin (2 ^ 36) c.args.start = simp to_z-of_z at ((c.if-not-is_near.ensures {u = tt}).0 refl) in
    let long : IsTooLong c.args.row_step c.args.rows = simp to_z-of_z at (c.in_default-reach.ensures {u = tt}) in
    far_row c.args.start c.args.column_step c.args.row_step c.args.rows c.args.columns c.requires.columns near long

pub sum-low-requires-clause-a : goal.sum-low-requires-clause-a
sum-low-requires-clause-a c =
    let s : FitsSigned w64 c.args.start = search rules in
    let near : IsWithin (2 ^ 36) c.args.start = simp to_z-of_z at ((c.if-not-is_near.ensures {u = tt}).0 refl) in
    simp to_z-of_z (farther c.args.start near)

pub sum-high-requires-clause-a : goal.sum-high-requires-clause-a
sum-high-requires-clause-a c =
    let s : FitsSigned w64 c.args.start = search rules in
    let near : IsWithin (2 ^ 36) c.args.start = simp to_z-of_z at ((c.if-not-is_near.ensures {u = tt}).0 refl) in
    simp to_z-of_z (farther c.args.start near)

pub returns-then-is_near-2 : goal.returns-then-is_near-2
returns-then-is_near-2 c =
    let s : FitsSigned w64 c.args.start = search rules in
    let cs : FitsSigned w64 c.args.column_step = search rules in
    let rs : FitsSigned w64 c.args.row_step = search rules in
    let across = c.in-Some.across in
    let along = c.in-Some-reach.along in
    let al : FitsSigned w64 across.low = search rules in
    let ah : FitsSigned w64 across.high = search rules in
    let ol : FitsSigned w64 along.low = search rules in
    let oh : FitsSigned w64 along.high = search rules in
    let low : FitsSigned w64 c.sum-low.result = search rules in
    let high : FitsSigned w64 c.sum-high.result = search rules in
    let a : IsReach c.args.column_step c.args.columns across = simp to_z-of_z at (c.in-Some.ensures {u = tt}) in
    let b : IsReach c.args.row_step c.args.rows along = simp to_z-of_z at (c.in-Some-reach.ensures {u = tt}) in
    let e : c.sum-low.result ≡ (c.args.start +ℤ across.low) +ℤ along.low = simp to_z-of_z at c.sum-low.ensures in
    let f : c.sum-high.result ≡ (c.args.start +ℤ across.high) +ℤ along.high = simp to_z-of_z at c.sum-high.ensures in
    let near_low : IsWithin (2 ^ 36) c.sum-low.result = simp to_z-of_z at ((c.if-is_near.ensures {u = tt}).0 refl) in
    let near_high : IsWithin (2 ^ 36) c.sum-high.result = simp to_z-of_z at ((c.if-is_near-2.ensures {u = tt}).0 refl) in
    let r : Interval = record { low = c.sum-low.result; high = c.sum-high.result } in
    simp to_z-of_z (all_origins c.args.start c.args.column_step c.args.row_step c.args.rows c.args.columns across along r a b e f near_low near_high)

pub returns-else-is_near : goal.returns-else-is_near
returns-else-is_near c =
    let s : FitsSigned w64 c.args.start = search rules in
    let cs : FitsSigned w64 c.args.column_step = search rules in
    let rs : FitsSigned w64 c.args.row_step = search rules in
    let across = c.in-Some.across in
    let along = c.in-Some-reach.along in
    let al : FitsSigned w64 across.low = search rules in
    let ah : FitsSigned w64 across.high = search rules in
    let ol : FitsSigned w64 along.low = search rules in
    let oh : FitsSigned w64 along.high = search rules in
    let low : FitsSigned w64 c.sum-low.result = search rules in
    let high : FitsSigned w64 c.sum-high.result = search rules in
    let a : IsReach c.args.column_step c.args.columns across = simp to_z-of_z at (c.in-Some.ensures {u = tt}) in
    let b : IsReach c.args.row_step c.args.rows along = simp to_z-of_z at (c.in-Some-reach.ensures {u = tt}) in
    let e : c.sum-low.result ≡ (c.args.start +ℤ across.low) +ℤ along.low = simp to_z-of_z at c.sum-low.ensures in
    let f : c.sum-high.result ≡ (c.args.start +ℤ across.high) +ℤ along.high = simp to_z-of_z at c.sum-high.ensures in
    elim c.else-is_near.branch [
      | else-is_near-via-then-is_near+else-is_near-2 w ↦
          let is : (w.is_near-then-is_near.result ≡ true) ↔ IsWithin (2 ^ 36) c.sum-high.result = simp to_z-of_z at w.is_near-then-is_near.ensures in
          far_origin c.args.start c.args.column_step c.args.row_step c.args.rows c.args.columns c.sum-high.result
          (high_origin c.args.start c.args.column_step c.args.row_step c.args.rows c.args.columns across along c.sum-high.result a b f)
          (λ h. let yes = is.1 h in let no = w.if-is_near-2.false in let z : ⊥ = cc in z)
      | else-is_near-via-else-is_near w ↦
          let is : (c.is_near-2.result ≡ true) ↔ IsWithin (2 ^ 36) c.sum-low.result = simp to_z-of_z at c.is_near-2.ensures in
          far_origin c.args.start c.args.column_step c.args.row_step c.args.rows c.args.columns c.sum-low.result
          (low_origin c.args.start c.args.column_step c.args.row_step c.args.rows c.args.columns across along c.sum-low.result a b e)
          (λ h. let yes = is.1 h in let no = w.if-is_near.false in let z : ⊥ = cc in z)
    ]
