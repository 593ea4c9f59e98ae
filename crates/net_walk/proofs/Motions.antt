-- Placements and motions whose and_parts are the same.
use Rattle.std.proofs.Common.{◌≡◌, ◌∙◌, ◌&&◌, ℕ, ℤ, int_eq, true, rules, ap}
use Rattle.std.proofs.lemmas.Bool.{and_parts}
use Rattle.std.proofs.lemmas.Bool.Decides.{Decides-int_eq}
use Rattle.geo_base.specs.contracts.motion.Turn.{the_type}
use Rattle.geo_base.specs.declared.motion.Motion.{Motion}
use Rattle.geo_base.specs.declared.motion.Turn.{Turn}
use Rattle.net_walk.specs.declared.cells.Element.{Element}
use denote.Enum.Bare.{sameb, same_true}

motion_of : Turn → ℤ → ℤ → Motion
motion_of turn dx dy = record { turn = turn; dx = dx; dy = dy }

pub same_motion : (m n : Motion) → (sameb the_type m.turn n.turn && (int_eq m.dx n.dx && int_eq m.dy n.dy)) ≡ true → m ≡ n
unfolding motion_of
same_motion m n e =
    let a = and_parts (sameb the_type m.turn n.turn) (int_eq m.dx n.dx && int_eq m.dy n.dy) e in
    let b = and_parts (int_eq m.dx n.dx) (int_eq m.dy n.dy) a.1 in
    let turn : m.turn ≡ n.turn = same_true the_type (search rules) m.turn n.turn a.0 in
    let dx = (Decides-int_eq m.dx n.dx).0 b.0 in
    let dy = (Decides-int_eq m.dy n.dy).0 b.1 in
    ap (λ t. motion_of t m.dx m.dy) turn ∙ ap (λ x. motion_of n.turn x m.dy) dx ∙ ap (motion_of n.turn n.dx) dy

element_of : ℕ → Motion → Element
element_of cell motion = record { cell = cell; motion = motion }

pub same_element : (a b : Element) → a.cell ≡ b.cell → a.motion ≡ b.motion → a ≡ b
unfolding element_of
same_element a b cell motion = ap (λ c. element_of c a.motion) cell ∙ ap (element_of b.cell) motion
