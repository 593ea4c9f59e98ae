use Rattle.std.proofs.Common.{◌≡◌, ◌∙◌, ◌⊎◌, inl, inr, true, ℕ, List, ap, arith, sym}
use Rattle.std.proofs.lemmas.Bool.{and_from}
use Rattle.geo_base.specs.Rects.{has}
use Rattle.geo_base.specs.declared.shapes.Rect.{Rect}
use Rattle.geo_base.specs.declared.shapes.Square.{Square}
use Rattle.rect_sets.specs.Rects.{covers}
use Rattle.layer_phase.specs.Around.{around}
use Rattle.layer_phase.proofs.Around.{around_none}
use Rattle.layer_phase.proofs.Held.{part_near}
use Rattle.layer_phase.proofs.exposed.near_both.Goals as goal

-- what both lists cover, one of them covers
in_either : (chosen one other : List Rect) (q : Square) → (chosen ≡ one) ⊎ (chosen ≡ other) → covers one q ≡ true → covers other q ≡ true → covers chosen q ≡ true
in_either chosen one other q (inl e) f g = ap (λ (l : List Rect). covers l q) e ∙ f
in_either chosen one other q (inr e) f g = ap (λ (l : List Rect). covers l q) e ∙ g

pub returns-then-most-eq0-clause-near : goal.returns-then-most-eq0-clause-near
returns-then-most-eq0-clause-near c = part_near c.args.window.now c.fewer-chosen.result.now c.in_ok-part.part c.requires.window c.rects-near.ensures.sound c.in_ok-part.ensures

pub returns-then-most-eq0-clause-both : goal.returns-then-most-eq0-clause-both
returns-then-most-eq0-clause-both c = λ q a b h.
    let t = c.if-most-eq0.true in
    let e : c.args.most ≡ 0 = omega arith in
    let places : covers c.args.places.now q ≡ true = sym (around_none c.args.places.now q) ∙ ap (λ (n : ℕ). covers (around n c.args.places.now) q) (sym e) ∙ a in
    let flat : covers c.args.flat.now q ≡ true = sym (around_none c.args.flat.now q) ∙ ap (λ (n : ℕ). covers (around n c.args.flat.now) q) (sym e) ∙ b in
    let chosen = c.fewer-chosen.result.now in
    c.in_ok-part.ensures q ∙ and_from (covers chosen q) (has c.args.window.now q) (in_either chosen c.args.flat.now c.args.places.now q c.fewer-chosen.ensures flat places) h

pub returns-clause-near : goal.returns-clause-near
returns-clause-near c = part_near c.args.window.now c.fewer-chosen-2.result.now c.in_ok-part-2.part c.requires.window c.rects-near-2.ensures.sound c.in_ok-part-2.ensures

pub returns-clause-both : goal.returns-clause-both
returns-clause-both c = λ q a b h.
    let chosen = c.fewer-chosen-2.result.now in
    let stirred : covers c.in_ok-stirred.stirred q ≡ true = c.in_ok-stirred.ensures.squares q ∙ a in
    let set : covers c.in_ok-set.set q ≡ true = c.in_ok-set.ensures q ∙ and_from (covers c.in_ok-stirred.stirred q) (covers c.in_ok-wide.wide q) stirred (c.in_ok-wide.ensures.squares q ∙ b) in
    c.in_ok-part-2.ensures q ∙ and_from (covers chosen q) (has c.args.window.now q) (in_either chosen c.in_ok-set.set c.in_ok-stirred.stirred q c.fewer-chosen-2.ensures set stirred) h
