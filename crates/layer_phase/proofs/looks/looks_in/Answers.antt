use Rattle.std.proofs.Common.{◌≡◌, inl, inr, ◌∙◌, ◌^◌, true, not, ap, arith, sym, subst}
use Rattle.std.proofs.lemmas.Bool.{and_from, cases_Bool, and_parts}
use Rattle.geo_base.specs.Motions.{moved_square}
use Rattle.geo_base.specs.Rects.{has, IsRect, grown}
use Rattle.rect_sets.specs.Rects.{covers}
use Rattle.cell_graph.specs.Grown.{IsInGrown}
use Rattle.cell_graph.specs.Linked.{HullIsSound, IsFrame, IsHull, motion_at}
use Rattle.cell_graph.proofs.Bridge.{hull_sound}
use Rattle.cell_graph.proofs.Growing.{grown_frame, grown_up}
use Rattle.cell_context.proofs.Visiting.{wider_rect}
use Rattle.layer_phase.proofs.Around.{grown_rect, grown_within, set_within}
use Rattle.layer_phase.proofs.Exposing.{exposed_held}
use Rattle.layer_phase.proofs.Held.{held_pieces}
use Rattle.cell_context.proofs.Gathering.{pieces_rects}
use Rattle.layer_phase.proofs.looks.looks_in.Goals as goal

pub grown-window-requires : goal.grown-window-requires
grown-window-requires c =
    let h : IsHull c.args.hull.now = subst HullIsSound c.requires.hull (hull_sound c.args.view.now.design.now c.args.cell c.sound.ensures) in
    wider_rect (2 ^ 36) (2 ^ 39) c.args.hull.now (omega arith) h.near

pub push_references-requires-clause-window : goal.push_references-requires-clause-window
push_references-requires-clause-window c =
    let most = c.requires.view.most in
    subst IsFrame (sym c.grown-window.ensures) (grown_frame c.args.view.now.reach c.args.hull.now (omega arith) (subst HullIsSound c.requires.hull (hull_sound c.args.view.now.design.now c.args.cell c.sound.ensures)))

pub push_near_own-requires-clause-held : goal.push_near_own-requires-clause-held
push_near_own-requires-clause-held c = λ q e.
    subst (λ o. IsInGrown c.args.view.now.reach o q) (sym c.requires.hull)
    (subst (λ r. has r q ≡ true) c.grown-window.ensures (held_pieces c.grown-window.result c.push_references.new.out.items c.in_ok-push_references.ensures.pieces q
    ((and_parts (covers c.push_references.new.out.items q) (not (covers c.in_ok-stirred.stirred q)) (sym (c.in_ok-out.ensures.exact q) ∙ e)).0)))

pub outside-requires : goal.outside-requires
outside-requires c = pieces_rects c.grown-window.result c.push_references.new.out.items c.in_ok-push_references.ensures.pieces

pub whole-requires : goal.whole-requires
whole-requires c =
    subst IsRect (sym c.grown-window.ensures) (grown_rect c.args.view.now.reach c.args.hull.now (subst HullIsSound c.requires.hull (hull_sound c.args.view.now.design.now c.args.cell c.sound.ensures)).some)

pub returns : goal.returns
returns c =
    let d = c.args.view.now.design.now in let n = c.args.view.now.reach in let set = c.in_ok-set.set in
    let same = c.in_ok-set.ensures in let own = c.in_ok-push_near_own.ensures in
    let h : IsHull c.args.hull.now = subst HullIsSound c.requires.hull (hull_sound d c.args.cell c.sound.ensures) in
    let most = c.requires.view.most in
    record {
      within = set_within (2 ^ 37) (grown n c.args.hull.now) set (grown_within (2 ^ 36) n (2 ^ 37) c.args.hull.now (omega arith) h.near)
          (λ q e. subst (λ o. IsInGrown n o q) c.requires.hull (own.held q (sym (same q) ∙ e)));
      own = λ name key named s q here near. same q ∙ own.brings name key named s q here near;
      stirred = c.in_ok-stirred.stirred;
      for_all = c.in_ok-stirred.ensures;
      below = λ i p at row column s a b e.
          let held = exposed_held n d c.args.view.now.zones.now c.args.view.now.names.now p.cell s c.sound.ensures e in
          let up = grown_up n d c.args.cell i row column p s c.sound.ensures (record { there = at; row_in = a; column_in = b }) held in
          let inner : has (grown n c.args.hull.now) (moved_square (motion_at p row column) s) ≡ true = subst (λ o. IsInGrown n o (moved_square (motion_at p row column) s)) c.requires.hull up in
          let met : has c.grown-window.result (moved_square (motion_at p row column) s) ≡ true = subst (λ r. has r (moved_square (motion_at p row column) s) ≡ true) (sym c.grown-window.ensures) inner in
          let m = moved_square (motion_at p row column) s in
          let there : covers c.push_references.new.out.items m ≡ true = c.in_ok-push_references.ensures.brings i p at row column s a b e met in
          elim (cases_Bool (covers c.in_ok-stirred.stirred m)) [
            | inl f ↦ inr f
            | inr f ↦ inl (same m ∙ own.grows m (c.in_ok-out.ensures.exact m ∙ and_from (covers c.push_references.new.out.items m) (not (covers c.in_ok-stirred.stirred m)) there (ap not f)))
          ];
    }
