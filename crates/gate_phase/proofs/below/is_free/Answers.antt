use Rattle.std.proofs.Common.{◌≡◌, ◌&&◌, ◌∷◌, [], ◌∙◌, not, true, false, List, ap}
use Rattle.geo_base.specs.declared.shapes.Rect.{Rect}
use Rattle.geo_base.specs.declared.shapes.Square.{Square}
use Rattle.rect_sets.specs.Rects.{covers}
use Rattle.gate_phase.proofs.Freeing.{free_told, not_free, there_near}
use Rattle.gate_phase.proofs.Results.{if_ok}
use Rattle.gate_phase.proofs.below.is_free.Goals as goal

pub returns-in-Some : goal.returns-in-Some
returns-in-Some c =
    let frame = c.args.frame.now in let there = c.in_ok-there.there in
    let cut : (q : Square) → covers c.in_ok-outside.outside q ≡ (covers there q && not (covers (frame ∷ []) q)) = λ q. c.in_ok-outside.ensures q ∙ ap (λ (l : List Rect). covers l q && not (covers (frame ∷ []) q)) c.rects.ensures.list in
    ((λ e. absurd (let f : false ≡ true = e in let z : ⊥ = cc in z)), (λ free. absurd (not_free c.args.reach c.args.close.now there c.in_ok-outside.outside c.args.zone.now c.args.motion.now frame c.in_ok-there.ensures cut _ c.in-Some.ensures.has free)))

pub misses-requires : goal.misses-requires
misses-requires c =
    let frame = c.args.frame.now in let there = c.in_ok-there.there in
    let cut : (q : Square) → covers c.in_ok-outside.outside q ≡ (covers there q && not (covers (frame ∷ []) q)) = λ q. c.in_ok-outside.ensures q ∙ ap (λ (l : List Rect). covers l q && not (covers (frame ∷ []) q)) c.rects.ensures.list in
    there_near c.args.reach c.args.close.now there c.in_ok-outside.outside c.args.zone.now c.args.motion.now frame c.in_ok-there.ensures cut c.in-None.ensures c.requires.frame c.rects.ensures.canonical

pub returns : goal.returns
returns c =
    let frame = c.args.frame.now in let there = c.in_ok-there.there in
    let cut : (q : Square) → covers c.in_ok-outside.outside q ≡ (covers there q && not (covers (frame ∷ []) q)) = λ q. c.in_ok-outside.ensures q ∙ ap (λ (l : List Rect). covers l q && not (covers (frame ∷ []) q)) c.rects.ensures.list in
    if_ok _ _ c.misses.result (λ b told. free_told c.args.reach c.args.close.now there c.in_ok-outside.outside c.args.zone.now c.args.motion.now frame c.in_ok-there.ensures cut c.in-None.ensures b told) c.misses.ensures
