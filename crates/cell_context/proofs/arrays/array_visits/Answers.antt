use Rattle.std.proofs.Common.{◌≡◌, ◌<◌, ℕ, arith, refl}
use Rattle.cell_context.specs.Visits.{IsMet, IsFound}
use Rattle.cell_context.proofs.Adding.{adds_each, adds_found, adds_kept}
use Rattle.cell_context.proofs.Visiting.{up_to}
use Rattle.cell_context.proofs.arrays.array_visits.Goals as goal

pub loop-column-preserved : goal.loop-column-preserved
loop-column-preserved c =
    let p = c.args.place.now in let hull = c.args.hull.now in let w = c.args.window.now in
    let old = c.loop-column.out.items in let new = c.push_visit.new.out.items in
    let meant : ℕ → ℕ → Type 0 = λ i j. (i ≡ c.loop-row.row) × (j ≡ c.loop-column.column) in
    record {
      each = adds_each p hull w meant old new (c.in_ok-push_visit.ensures {u = tt}) c.loop-column.invariant.each;
      found = λ row column q a b d met. adds_kept p hull w meant old new row column q (c.in_ok-push_visit.ensures {u = tt}) (c.loop-column.invariant.found row column q a b d met);
      here = λ column q a b met. up_to (λ i. i < p.columns → IsMet p hull w c.loop-row.row i q → IsFound p c.loop-row.row i q new) c.loop-column.column
          (λ i lt d g. adds_kept p hull w meant old new c.loop-row.row i q (c.in_ok-push_visit.ensures {u = tt}) (c.loop-column.invariant.here i q lt d g))
          (λ d g. adds_found p hull w meant old new c.loop-row.row c.loop-column.column q (c.in_ok-push_visit.ensures {u = tt}) (refl, refl) g)
          column a b met;
    }

pub loop-row-preserved : goal.loop-row-preserved
loop-row-preserved c = record {
  each = c.loop-column.invariant.each;
  found = λ row column q a b d met. up_to (λ i. i < c.args.place.now.rows → IsMet c.args.place.now c.args.hull.now c.args.window.now i column q → IsFound c.args.place.now i column q c.loop-column.out.items) c.loop-row.row
      (λ i lt e g. c.loop-column.invariant.found i column q lt e d g)
      (λ e g.
      let m = c.reach_of-reach.ensures.all c.loop-row.row column q g.inner g.outer in
      let i = c.columns_meeting-columns.ensures.all column d m in
      let past = c.loop-column-test.false in let high = i.high in
      c.loop-column.invariant.here column q (omega arith) d g)
      row a b met;
}
