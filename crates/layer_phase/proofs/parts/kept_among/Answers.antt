use Rattle.std.proofs.Common.{◌≡◌, ◌∙◌, ◌^◌, inl, inr, true, List, ap, sym}
use Rattle.geo_base.specs.declared.shapes.Rect.{Rect}
use Rattle.rect_sets.specs.Rects.{covers}
use Rattle.layer_phase.proofs.Held.{rects_within}
use Rattle.layer_phase.proofs.Results.{if_ok}
use Rattle.layer_phase.proofs.parts.kept_among.Goals as goal

pub calm_squares-requires-clause-near : goal.calm_squares-requires-clause-near
calm_squares-requires-clause-near c =
    rects_within (2 ^ 39) c.fewer-chosen.result.now c.rects-rects.ensures.sound (λ q e. elim c.fewer-chosen.ensures [
      | inl one ↦ c.requires.within q (c.requires.inside q (sym (ap (λ (l : List Rect). covers l q) one) ∙ e))
      | inr other ↦ c.requires.within q (sym (ap (λ (l : List Rect). covers l q) other) ∙ e)
    ])

pub returns : goal.returns
returns c =
    if_ok _ _ c.calm_squares.result
    (λ r h q e. let there : covers c.fewer-chosen.result.now q ≡ true = elim c.fewer-chosen.ensures [
      | inl one ↦ ap (λ (l : List Rect). covers l q) one ∙ e
      | inr other ↦ ap (λ (l : List Rect). covers l q) other ∙ c.requires.inside q e
    ] in ((λ f. ((h q).0 f).1), (λ f. (h q).1 (there, f))))
    c.calm_squares.ensures
