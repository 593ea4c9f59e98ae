use Rattle.std.proofs.Common.{◌≡◌, ◌∙◌, List, None, true, arith, refl, sym, subst, slice_index_or}
use Rattle.std.specs.List.{All}
use Rattle.std.specs.Option.{IsSome}
use Rattle.geo_base.specs.declared.shapes.Rect.{Rect}
use Rattle.rect_sets.specs.Rects.{covers}
use Rattle.cell_context.specs.declared.arrays.Visit.{Visit}
use Rattle.cell_context.specs.Over.{IsVisit, AreVisited}
use Rattle.cell_context.proofs.Visiting.{up_to}
use Rattle.cell_context.proofs.Gathering.{no_visit, visit_lower, visit_motion, visit_window, stays_there, Adds}
use Rattle.deep_tables.specs.Layers.{layer_of}
use Rattle.gate_phase.proofs.Keeping.{Brings, brings_here, one_layer, one_window, chosen_kept, chosen_pieces, met_window, piece_near, right_more, visit_reached}
use Rattle.gate_phase.proofs.kept.+kept_rects.Goals as goal

pub met-requires : goal.met-requires
met-requires t c = let l = c.requires.locals.1 c.args.cell c.requires.reached in subst IsSome (sym l.1) refl

pub visits-requires-clause-by : goal.visits-requires-clause-by
visits-requires-clause-by t c =
    let l = c.requires.locals.1 c.args.cell c.requires.reached in
    let known = c.reach.ensures ∙ l.3.is in
    let most = l.3.most in
    omega (arith, known, most)

pub loop-visit-init : goal.loop-visit-init
loop-visit-init t c =
    let d = c.args.design.now in let layers = c.args.layers.now in let cell = c.args.cell in let name = c.args.name in
    let l = c.requires.locals.1 cell c.requires.reached in
    let met = c.in_ok-out.ensures l.0 l.1 in
    record {
      pieces = chosen_pieces d layers cell name c.requires.locals.0 l.0 c.in_ok-out.out.items c.plane-frame.result c.sound.ensures c.requires.reached c.requires.locals.1 l.1 c.plane-frame.ensures.all met.listed;
      sound = λ x locals. chosen_kept d layers cell name x l.0 c.in_ok-out.out.items c.requires.reached locals l.1 met.listed;
      own = λ layer q there e g. met.complete q (subst (λ (r : List Rect). covers r q ≡ true) (one_layer (layer_of layers.table cell name) layer l.0 there l.1) e) g;
      found = λ x locals k lt. absurd (let z : ⊥ = omega arith in z);
    }

pub kept_rects-requires : goal.kept_rects-requires
kept_rects-requires t c =
    let d = c.args.design.now in let cell = c.args.cell in let w = c.args.window.now in
    let each = subst (All (IsVisit c.reach.result d cell None w)) (sym c.deref-visit-items.ensures.value) c.in_ok-list.ensures.each in
    let v = each c.loop-visit.visit-index no_visit c.loop-visit-test.true in
    let low = visit_lower c.reach.result d cell None w _ c.sound.ensures v in
    let lt = low.1 in let m = c.decreases in
    (omega arith, (low.0, (visit_reached c.reach.result d cell w _ c.requires.reached v, (c.requires.locals, visit_window c.reach.result d cell None w _ v))))

pub push_images-requires-clause-near : goal.push_images-requires-clause-near
push_images-requires-clause-near t c =
    let d = c.args.design.now in let cell = c.args.cell in let w = c.args.window.now in
    let each = subst (All (IsVisit c.reach.result d cell None w)) (sym c.deref-visit-items.ensures.value) c.in_ok-list.ensures.each in
    visit_motion c.reach.result d cell None w _ c.sound.ensures (each c.loop-visit.visit-index no_visit c.loop-visit-test.true)

pub loop-visit-preserved : goal.loop-visit-preserved
loop-visit-preserved t c =
    let d = c.args.design.now in let cell = c.args.cell in let w = c.args.window.now in
    let each = subst (All (IsVisit c.reach.result d cell None w)) (sym c.deref-visit-items.ensures.value) c.in_ok-list.ensures.each in
    let h = each c.loop-visit.visit-index no_visit c.loop-visit-test.true in
    let v = slice_index_or c.deref-visit-items.result.now c.loop-visit.visit-index no_visit in
    let old = c.loop-visit.out.items in let new = c.push_images.new.out.items in let below = c.in_ok-below.below.items in
    let plane = c.plane-frame.result in
    let adds = subst (λ (l : List Rect). Adds old new l v.motion plane) c.deref.ensures.value c.in_ok-push_images.ensures.covers in
    let met = c.in_ok-below.ensures.exact in
    record {
      pieces = c.in_ok-push_images.ensures.pieces;
      sound = λ x locals. right_more c.reach.result d cell x w plane old new below v c.requires.reached h (c.loop-visit.invariant.sound x locals) (met x locals).sound adds;
      own = λ layer q there e g. stays_there old new below v.motion plane adds q (c.loop-visit.invariant.own layer q there e g);
      found = λ x locals. up_to (λ k. Brings d x w new (slice_index_or c.deref-visit-items.result.now k no_visit)) c.loop-visit.visit-index
          (λ k lt s e kept g. stays_there old new below v.motion plane adds _ (c.loop-visit.invariant.found x locals k lt s e kept g))
          (brings_here d x w plane old new below v c.plane-frame.ensures.all c.requires.window (λ s kept e. (met x locals).complete s kept (one_window v.window s e)) adds);
    }

pub returns-clause-near : goal.returns-clause-near
returns-clause-near t c = piece_near c.plane-frame.result c.loop-visit.out.items c.plane-frame.ensures.near c.loop-visit.invariant.pieces

pub returns-clause-exact : goal.returns-clause-exact
returns-clause-exact t c = λ x locals.
    let d = c.args.design.now in let cell = c.args.cell in let w = c.args.window.now in
    met_window c.reach.result d c.args.layers.now cell c.args.name x w c.loop-visit.out.items c.deref-visit-items.result.now no_visit c.reach.ensures c.sound.ensures c.requires.reached locals (c.loop-visit.invariant.sound x locals) c.loop-visit.invariant.own
    (λ k lt. c.loop-visit.invariant.found x locals k (let past = c.loop-visit-test.false in omega arith))
    (subst (λ (l : List Visit). AreVisited c.reach.result d cell None w l) (sym c.deref-visit-items.ensures.value) c.in_ok-list.ensures.found)
