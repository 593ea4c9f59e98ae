use Rattle.std.proofs.Common.{◌≡◌, ◌∙◌, ap, sym, arith}
use Rattle.std.proofs.lemmas.Int.{ints}
use Rattle.geo_base.specs.declared.shapes.Rect.{Rect}
use Rattle.geo_base.specs.Rects.{has}
use Rattle.poly_fill.proofs.Outlined.{upright_outline, level_outline}
use Rattle.poly_fill.proofs.outline.outline_of.Goals as goal

pub returns-then-d-a : goal.returns-then-d-a
returns-then-d-a c =
    let f : c.args.b.y ≡ c.args.c.y = omega (arith, ints) in
    let g : c.args.d.y ≡ c.args.a.y = omega (arith, ints) in
    let h : c.args.e.y ≡ c.args.a.y = omega (arith, ints) in
    λ s. upright_outline c.args.a c.args.b c.args.c c.args.d c.args.e s f g h ∙ ap (λ (r : Rect). has r s) (sym c.between.ensures)

pub returns-then-c-d : goal.returns-then-c-d
returns-then-c-d c =
    let f : c.args.a.y ≡ c.args.b.y = omega (arith, ints) in
    let g : c.args.c.y ≡ c.args.d.y = omega (arith, ints) in
    let h : c.args.e.y ≡ c.args.a.y = omega (arith, ints) in
    λ s. level_outline c.args.a c.args.b c.args.c c.args.d c.args.e s f g h ∙ ap (λ (r : Rect). has r s) (sym c.between-then-c-d.ensures)
