use Rattle.std.proofs.Common.{◌≡◌, inl, inr, ◌∙◌, ◌&&◌, ◌||◌, ap, sym, subst, arith, not, map, List}
use Rattle.std.proofs.lemmas.Bool.{false≢true, or_cases}
use Rattle.std.specs.List.{All}
use Rattle.geo_base.specs.Near.{IsNearRect}
use Rattle.geo_base.specs.Rects.{IsRect}
use Rattle.geo_base.specs.declared.shapes.Rect.{Rect}
use Rattle.geo_base.specs.declared.shapes.Square.{Square}
use Rattle.rect_sets.specs.Near.{HasNearCorners}
use Rattle.rect_sets.specs.Rects.{covers}
use Rattle.rect_sets.proofs.Moving.{near_rects}
use Rattle.gate_shapes.specs.Borders.{grown_rect}
use Rattle.gate_shapes.proofs.Rings.{grown_rects}
use Rattle.gate_shapes.specs.Sets.{in_set}
use Rattle.gate_search.specs.Gather.{AreMet, IsGathering}
use Rattle.gate_search.proofs.Gathering.{gather_first, gather_more, gather_all, none_from}
use Rattle.gate_search.proofs.Rounds.{apart_left, at_most, grows, some_from}
use Rattle.gate_search.proofs.windows.gather.Goals as goal

pub rounds-init : goal.rounds-init
rounds-init g c =
    let keeps = g.L.GateLayer.keeps c.args.layer.now in
    record {
      gathering = subst (λ (l : List Rect). IsGathering keeps c.args.seeds.now l c.in_ok-fresh.fresh) (sym c.empty-found.ensures) (gather_first keeps c.args.seeds.now c.in_ok-fresh.fresh c.in_ok-fresh.ensures);
      apart = λ q e f. false≢true (sym (ap (λ (l : List Rect). covers l q) c.empty-found.ensures) ∙ e);
    }

pub grown-requires : goal.grown-requires
grown-requires g c =
    subst (λ (l : List Rect). All IsNearRect l) (sym c.rects.ensures.list) (near_rects c.rounds.fresh c.rects.ensures.canonical (λ q e. g.met.L.GateLayer.bounded c.args.layer.now q (c.rounds.invariant.gathering.sound_fresh q e)))

pub around-requires-in-rounds : goal.around-requires-in-rounds
around-requires-in-rounds g c =
    subst (λ (l : List Rect). All IsRect l) (sym (c.deref.ensures.value ∙ c.in_ok-windows.ensures ∙ ap (map grown_rect) c.rects.ensures.list)) (grown_rects c.rounds.fresh c.rects.ensures.canonical)

pub returns : goal.returns
returns g c =
    let keeps = g.L.GateLayer.keeps c.args.layer.now in
    let none = none_from c.least.result _ _ (sym c.is_some.ensures ∙ c.rounds-test.false) c.least.ensures in
    gather_all keeps c.args.seeds.now c.rounds.found c.rounds.fresh none c.rounds.invariant.gathering

pub rounds-preserved : goal.rounds-preserved
rounds-preserved g c =
    let keeps = g.L.GateLayer.keeps c.args.layer.now in
    let found = c.rounds.found in let fresh = c.rounds.fresh in
    let windows = c.deref.ensures.value ∙ c.in_ok-windows.ensures ∙ ap (map grown_rect) c.rects.ensures.list in
    let met : AreMet keeps (map grown_rect fresh) c.in_ok-next.next = subst (λ (l : List Rect). AreMet keeps l c.in_ok-next.next) windows c.in_ok-next.ensures in
    let joined : (q : Square) → covers c.in_ok-found.found q ≡ (covers found q || covers fresh q) =
    λ q. c.in_ok-found.ensures q ∙ ap (λ (a : List Rect). covers a q || covers c.rects-in-rounds-2.result.now q) c.rects-in-rounds.ensures.list ∙ ap (λ (a : List Rect). covers found q || covers a q) c.rects-in-rounds-2.ensures.list in
    let left : (q : Square) → covers c.in_ok-fresh-2.fresh q ≡ (covers c.in_ok-next.next q && not (covers c.in_ok-found.found q)) =
    λ q. c.in_ok-fresh-2.ensures q ∙ ap (λ (a : List Rect). covers a q && not (covers c.rects-in-rounds-4.result.now q)) c.rects-in-rounds-3.ensures.list
    ∙ ap (λ (a : List Rect). covers c.in_ok-next.next q && not (covers a q)) c.rects-in-rounds-4.ensures.list in
    record {
      gathering = gather_more keeps c.args.seeds.now found fresh c.in_ok-next.next c.in_ok-found.found c.in_ok-fresh-2.fresh c.rects.ensures.canonical met joined left c.rounds.invariant.gathering;
      apart = apart_left c.in_ok-found.found c.in_ok-next.next c.in_ok-fresh-2.fresh left;
    }

pub rounds-smaller : goal.rounds-smaller
rounds-smaller g c =
    let found = c.rounds.found in let fresh = c.rounds.fresh in
    let after = c.in_ok-found.found in
    let some = some_from c.least.result _ _ (sym c.is_some.ensures ∙ c.rounds-test.true) c.least.ensures in
    let joined : (q : Square) → covers after q ≡ (covers found q || covers fresh q) =
    λ q. c.in_ok-found.ensures q ∙ ap (λ (a : List Rect). covers a q || covers c.rects-in-rounds-2.result.now q) c.rects-in-rounds.ensures.list ∙ ap (λ (a : List Rect). covers found q || covers a q) c.rects-in-rounds-2.ensures.list in
    let near : (q : Square) → in_set after q → HasNearCorners q =
    λ q e. g.met.L.GateLayer.bounded c.args.layer.now q (elim (or_cases (covers found q) (covers fresh q) (sym (joined q) ∙ e)) [ inl f ↦ c.rounds.invariant.gathering.sound_done q f | inr f ↦ c.rounds.invariant.gathering.sound_fresh q f ]) in
    let up = grows found fresh after some.0 c.rects-in-rounds.ensures.canonical c.rects-in-rounds-4.ensures.canonical joined some.1.has (λ e. c.rounds.invariant.apart some.0 e some.1.has) in
    let most = at_most after c.rects-in-rounds-4.ensures.canonical near in
    omega (arith, up, most)
