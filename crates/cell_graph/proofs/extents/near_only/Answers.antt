use Rattle.std.proofs.Common.{◌≡◌, ◌↔◌, ◌^◌, true, refl, sym, subst, rules, FitsSigned, w64}
use Rattle.std.proofs.lemmas.Int.{to_z-of_z}
use Rattle.geo_base.specs.Near.{IsWithin}
use Rattle.cell_graph.specs.Extents.{IsFarAway}
use Rattle.cell_graph.proofs.extents.near_only.Goals as goal
use Rattle.cell_graph.proofs.extents.near_only.Goals.{else-is_near-via-then-is_near+then-is_near-2+then-is_near-3+else-is_near-4, else-is_near-via-then-is_near+then-is_near-2+else-is_near-3, else-is_near-via-then-is_near+else-is_near-2, else-is_near-via-else-is_near}

pub returns-then-is_near-4 : goal.returns-then-is_near-4
returns-then-is_near-4 c =
    let b = c.in-Some.b in
    let f1 : FitsSigned w64 b.x1 = search rules in
    let f2 : FitsSigned w64 b.y1 = search rules in
    let f3 : FitsSigned w64 b.x2 = search rules in
    let f4 : FitsSigned w64 b.y2 = search rules in
    let n1 : IsWithin (2 ^ 36) b.x1 = simp to_z-of_z at ((c.if-is_near.ensures {u = tt}).0 refl) in
    let n2 : IsWithin (2 ^ 36) b.y1 = simp to_z-of_z at ((c.if-is_near-2.ensures {u = tt}).0 refl) in
    let n3 : IsWithin (2 ^ 36) b.x2 = simp to_z-of_z at ((c.if-is_near-3.ensures {u = tt}).0 refl) in
    let n4 : IsWithin (2 ^ 36) b.y2 = simp to_z-of_z at ((c.if-is_near-4.ensures {u = tt}).0 refl) in
    (sym c.in-Some.is, record { x1 = n1; y1 = n2; x2 = n3; y2 = n4 })

pub returns-else-is_near : goal.returns-else-is_near
returns-else-is_near c =
    let b = c.in-Some.b in
    let f1 : FitsSigned w64 b.x1 = search rules in
    let f2 : FitsSigned w64 b.y1 = search rules in
    let f3 : FitsSigned w64 b.x2 = search rules in
    let f4 : FitsSigned w64 b.y2 = search rules in
    subst IsFarAway (sym c.in-Some.is) (elim c.else-is_near.branch [
      | else-is_near-via-then-is_near+then-is_near-2+then-is_near-3+else-is_near-4 w ↦
          let is : (w.is_near-then-is_near-3.result ≡ true) ↔ IsWithin (2 ^ 36) b.y2 = simp to_z-of_z at w.is_near-then-is_near-3.ensures in
          (λ near. let yes = is.1 near.y2 in let no = w.if-is_near-4.false in let z : ⊥ = cc in z)
      | else-is_near-via-then-is_near+then-is_near-2+else-is_near-3 w ↦
          let is : (w.is_near-then-is_near-2.result ≡ true) ↔ IsWithin (2 ^ 36) b.x2 = simp to_z-of_z at w.is_near-then-is_near-2.ensures in
          (λ near. let yes = is.1 near.x2 in let no = w.if-is_near-3.false in let z : ⊥ = cc in z)
      | else-is_near-via-then-is_near+else-is_near-2 w ↦
          let is : (w.is_near-then-is_near.result ≡ true) ↔ IsWithin (2 ^ 36) b.y1 = simp to_z-of_z at w.is_near-then-is_near.ensures in
          (λ near. let yes = is.1 near.y1 in let no = w.if-is_near-2.false in let z : ⊥ = cc in z)
      | else-is_near-via-else-is_near w ↦
          let is : (c.is_near.result ≡ true) ↔ IsWithin (2 ^ 36) b.x1 = simp to_z-of_z at c.is_near.ensures in
          (λ near. let yes = is.1 near.x1 in let no = w.if-is_near.false in let z : ⊥ = cc in z)
    ])
