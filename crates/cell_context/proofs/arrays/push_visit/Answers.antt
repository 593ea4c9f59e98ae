use Rattle.std.proofs.Common.{refl, arith, ◌^◌}
use Rattle.cell_context.specs.Visits.{IsElementVisit}
use Rattle.cell_context.proofs.Adding.{adds_none, adds_one}
use Rattle.cell_context.proofs.Visiting.{near_rect, within_inside, moved_back, part_of_hull, found_met, none_met, wider_rect}
use Rattle.cell_context.proofs.arrays.push_visit.Goals as goal

pub rect-requires-clause-near_rect : goal.rect-requires-clause-near_rect
rect-requires-clause-near_rect c = near_rect c.args.hull.now (wider_rect (2 ^ 37) (2 ^ 39) c.args.hull.now (omega arith) c.requires.hull.near)

pub rect-requires-in-Some-clause-near_rect : goal.rect-requires-in-Some-clause-near_rect
rect-requires-in-Some-clause-near_rect c = near_rect c.in-Some.part (within_inside (2 ^ 39) c.in-Some.part c.args.window.now c.in-Some.ensures.some c.in-Some.ensures.second c.requires.window)

pub returns-in_ok-push : goal.returns-in_ok-push
returns-in_ok-push c =
    let p = c.args.place.now in let hull = c.args.hull.now in let w = c.args.window.now in
    let back = moved_back hull w c.rect.result c.in-Some.part c.rect-in-Some.result c.motion_at-motion.result c.inverse.result c.rect.ensures.squares c.in-Some.ensures c.inverse.ensures.back c.rect-in-Some.ensures.squares in
    let is : IsElementVisit p hull w (record { cell = p.cell; motion = c.motion_at-motion.result; window = c.rect-in-Some.result }) = record {
      row = c.args.row;
      column = c.args.column;
      row_in = c.requires.row;
      column_in = c.requires.column;
      cell = refl;
      motion = c.motion_at-motion.ensures.exact;
      near = part_of_hull c.rect-in-Some.result hull w c.motion_at-motion.result c.requires.hull c.rect-in-Some.ensures.in_order back;
      has = back;
    } in
    adds_one p hull w c.args.row c.args.column c.args.out.now.items c.push.new.self.items _ (c.in_ok-push.ensures {u = tt}).items is (λ q met. record {
      cell = refl;
      motion = c.motion_at-motion.ensures.exact;
      has = found_met p hull w c.rect-in-Some.result c.args.row c.args.column c.motion_at-motion.result q c.motion_at-motion.ensures.exact back met;
    })

pub returns-in_default : goal.returns-in_default
returns-in_default c =
    let p = c.args.place.now in let hull = c.args.hull.now in let w = c.args.window.now in
    adds_none p hull w c.args.row c.args.column c.args.out.now.items (λ q met.
    none_met p hull w c.rect.result c.args.row c.args.column c.motion_at-motion.result q c.motion_at-motion.ensures.exact c.rect.ensures.squares (c.in_default.ensures {u = tt}) met)
