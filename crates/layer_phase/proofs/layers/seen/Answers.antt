use Rattle.std.proofs.Common.{◌≡◌, ◌∙◌, ◌&&◌, ◌||◌, ◌==◌, ℕ, zero, suc, Bool, true, false, List, arith, ap, refl, sym}
use Rattle.std.proofs.lemmas.Bool.{eqb-true, false_from_ne_true}
use Rattle.geo_base.specs.declared.shapes.Rect.{Rect}
use Rattle.rect_sets.specs.Rects.{covers}
use Rattle.layer_phase.proofs.Results.{if_ok}
use Rattle.layer_phase.proofs.layers.seen.Goals as goal

all_seen : (n : ℕ) (a b : Bool) → n ≡ 0 → a ≡ (a && ((n == 0) || b))
all_seen zero true b e = refl
all_seen zero false b e = refl
all_seen (suc n) a b e = absurd (let z : ⊥ = omega arith in z)

cut_seen : (n : ℕ) (a b : Bool) → (n ≡ 0 → ⊥) → (a && b) ≡ (a && ((n == 0) || b))
cut_seen n a b some = ap (λ x. a && (x || b)) (sym (false_from_ne_true (n == 0) (λ e. some (eqb-true n 0 e))))

pub returns-then-far-eq0 : goal.returns-then-far-eq0
returns-then-far-eq0 c =
    let t = c.if-far-eq0.true in
    let e : c.args.far ≡ 0 = omega arith in
    if_ok _ _ c.into_set.result (λ r h q. h q ∙ all_seen c.args.far (covers c.args.flat q) (covers c.args.looks.now q) e) c.into_set.ensures

pub returns : goal.returns
returns c =
    let t = c.if-far-eq0.false in
    let some : c.args.far ≡ 0 → ⊥ = λ e. let z : ⊥ = omega arith in z in
    if_ok _ _ c.combined.result
    (λ r h q. h q ∙ ap (λ (l : List Rect). covers l q && covers c.args.looks.now q) c.set.ensures ∙ cut_seen c.args.far (covers c.args.flat q) (covers c.args.looks.now q) some)
    c.combined.ensures
