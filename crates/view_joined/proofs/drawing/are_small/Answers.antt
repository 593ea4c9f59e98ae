use Rattle.std.proofs.Common.{◌≡◌, ◌-◌, inr, List, ◌∷◌, length, take, drop, get_or, sym, subst, rules, pos}
use Rattle.std.proofs.lemmas.List.Elements.{All-cons}
use Rattle.view_netlist.specs.Drawing.{AreSmallShapes}
use Rattle.view_netlist.specs.declared.drawing.Shape.{Shape}
use Rattle.view_words.specs.Numbers.{IsSmallRect}
use Rattle.view_joined.specs.Far.{HasFarShape}
use Rattle.view_joined.proofs.Growing.{first_of}
use Rattle.view_joined.proofs.drawing.are_small.Goals as goal

pub shapes-preserved : goal.shapes-preserved
shapes-preserved c =
    let rest = c.shapes.rest.now in
    let zero : Shape = record { layer = 0; rect = record { x1 = pos 0; y1 = pos 0; x2 = pos 0; y2 = pos 0 } } in
    let first : Shape = get_or rest 0 zero in
    let after = take (length rest - 1) (drop 1 rest) in
    let e : rest ≡ first ∷ after = first_of rest zero c.in-len1-up.len_at_least in
    let one : IsSmallRect first.rect = search rules in (
      (λ small. c.shapes.invariant.0 (subst (λ (z : List Shape). AreSmallShapes z) (sym e) (All-cons (λ (s : Shape). IsSmallRect s.rect) first after one small))),
      (λ far. c.shapes.invariant.1 (subst (λ (z : List Shape). HasFarShape z) (sym e) (inr far))),
    )
