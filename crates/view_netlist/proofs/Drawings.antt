-- What is drawn of a net, and of the circuit of a number.
use Rattle.std.proofs.Common.{◌≤◌, ℕ, zero, suc, List, [], ◌∷◌, length, get_or, sym, subst, arith}
use Rattle.std.specs.List.{All}
use Rattle.std.proofs.Math.Decide.{dec_lt}
use Rattle.std.proofs.lemmas.List.{get_or_past}
use Rattle.std.proofs.lemmas.List.Elements.{All-nil, All-head, All-tail}
use Rattle.view_words.specs.Numbers.{IsSmallRect}
use Rattle.view_netlist.specs.Drawing.{AreSmallShapes, Drawn, IsSmallDrawing, IsSmallPoint, IsSmallShift, blank, drawn_of, plain_drawing}
use Rattle.view_netlist.specs.declared.drawing.DevicePlace.{DevicePlace}
use Rattle.view_netlist.specs.declared.drawing.Drawing.{Drawing}
use Rattle.view_netlist.specs.declared.drawing.Shape.{Shape}

-- the rectangles of a net of a small drawing are small
pub shapes_small : (d : Drawn) (k : ℕ) → IsSmallDrawing d → AreSmallShapes (get_or d.nets k [])
shapes_small d k h =
    elim (dec_lt k (length d.nets)) [
      | yes lt ↦ h.nets k [] lt
      | no past ↦ subst AreSmallShapes (sym (get_or_past d.nets k [] (let le : length d.nets ≤ k = omega arith in le))) (All-nil (λ (s : Shape). IsSmallRect s.rect))
    ]

-- nothing is small
pub blank_small : IsSmallDrawing blank
blank_small = record { hull = tt; nets = All-nil AreSmallShapes; devices = All-nil (λ (p : DevicePlace). IsSmallPoint p.at); calls = All-nil IsSmallShift }

-- what is drawn of any number's circuit is small where all drawings are
pub drawn_small : (ds : List Drawing) (k : ℕ) → All (λ d. IsSmallDrawing (plain_drawing d)) ds → IsSmallDrawing (drawn_of ds k)
drawn_small [] k h =
    let none : List Drawn = [] in
    subst IsSmallDrawing (sym (get_or_past none k blank (let le : 0 ≤ k = omega arith in le))) blank_small
drawn_small (d ∷ ds) zero h = All-head (λ (e : Drawing). IsSmallDrawing (plain_drawing e)) d ds h
drawn_small (d ∷ ds) (suc k) h = drawn_small ds k (All-tail (λ (e : Drawing). IsSmallDrawing (plain_drawing e)) d ds h)
