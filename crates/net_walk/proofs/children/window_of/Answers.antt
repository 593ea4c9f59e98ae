use Rattle.std.proofs.Common.{◌≡◌, ap, refl, ◌∙◌}
use Rattle.std.proofs.lemmas.Bool.{false≢true}
use Rattle.geo_base.specs.Rects.{common}
use Rattle.net_walk.proofs.Pairing.{window_for, window_none, never_left, never_right}
use Rattle.net_walk.proofs.children.window_of.Goals as goal
use Rattle.net_walk.specs.Walk.{place_of}

two : {A B C : Type 0} (f : A → B → C) {a b : A} {x y : B} → a ≡ b → x ≡ y → f a x ≡ f b y
two f {a = a} {b = b} {x = x} {y = y} e h = ap (λ k. f k x) e ∙ ap (f b) h

pub returns-in-None-clause-none : goal.returns-in-None-clause-none
returns-in-None-clause-none g c = never_left (g.C.Cells.design c.args.cells.now) (g.C.Cells.tables c.args.cells.now) (place_of c.args.one.now) (place_of c.args.other.now) c.in-None.ensures.none

pub returns-in-None-span-clause-none : goal.returns-in-None-span-clause-none
returns-in-None-span-clause-none g c = never_right (g.C.Cells.design c.args.cells.now) (g.C.Cells.tables c.args.cells.now) (place_of c.args.one.now) (place_of c.args.other.now) c.in-None-span.ensures.none

pub returns-then-is_rect-clause-some : goal.returns-then-is_rect-clause-some
returns-then-is_rect-clause-some g c =
    let d = g.C.Cells.design c.args.cells.now in
    let t = g.C.Cells.tables c.args.cells.now in
    let window = c.common-window.ensures ∙ two common c.grown.ensures c.grown-in-Some-span.ensures in
    let is = rw window at c.if-is_rect.ensures.rect.0 refl in
    rw window (window_for d t (place_of c.args.one.now) (place_of c.args.other.now) c.in-Some.first c.in-Some-span.second c.in-Some.ensures.some c.in-Some-span.ensures.some is)

pub returns-else-is_rect-clause-none : goal.returns-else-is_rect-clause-none
returns-else-is_rect-clause-none g c =
    let d = g.C.Cells.design c.args.cells.now in
    let t = g.C.Cells.tables c.args.cells.now in
    let window = c.common-window.ensures ∙ two common c.grown.ensures c.grown-in-Some-span.ensures in
    let not = rw window at c.if-is_rect.ensures.rect.1 in
    window_none d t (place_of c.args.one.now) (place_of c.args.other.now) c.in-Some.first c.in-Some-span.second c.in-Some.ensures.some c.in-Some-span.ensures.some (λ h. false≢true (not h))
