-- Drawn nets are determined by those of the cells below, and together.
use Rattle.std.proofs.Common.{ℕ, zero, suc, ◌<◌, ◌≤◌, Bool, List, [], ◌∷◌, refl, arith}
use Rattle.flat_layout.specs.Circuits.{AreDrawn}
use Rattle.flat_layout.specs.GateTables.{GateEntry}
use Rattle.flat_layout.specs.Layout.{Design, Place, IsHeight, IsPlaced, IsReached}
use Rattle.flat_layout.specs.Nets.{IsUnder, Tables}
use Rattle.flat_layout.specs.Pins.{CellPins}
use Rattle.flat_layout.specs.Values.{AreDrawnBelow, AreDrawnOf}
use Rattle.flat_laws.proofs.Cover.{reached_below}
use Rattle.flat_laws.proofs.Planned.{lower}
use Rattle.table_laws.specs.TableLaws.{DrawnTogetherLaw, OneDrawnLaw, ReadDrawnLaw}
use Rattle.table_laws.proofs.Pinned.{same_truths}
use Rattle.table_laws.proofs.Tabled.{reached_under}

pub one_drawn : OneDrawnLaw
one_drawn d t gates pins drawn cell v z a b = same_truths v z (t.nets cell).count a.count b.count (λ i lt. let h = a.each i lt in let g = b.each i lt in ((λ e. g.1 (h.0 e)), (λ e. h.1 (g.0 e))))

below_placed : (d : Design) (t : Tables) (gates : ℕ → List GateEntry) (pins : ℕ → CellPins) (drawn : ℕ → List Bool) (cell k : ℕ) (p : Place) → AreDrawnBelow d t gates pins drawn cell → IsPlaced d cell k p → AreDrawnBelow d t gates pins drawn p.cell
below_placed d t gates pins drawn cell k p right placed j e q placed_too under = right k e p placed (j ∷ under.0, (q, placed_too, under.1))

pub read_drawn : ReadDrawnLaw
read_drawn d t gates pins drawn cell k p v right placed is =
    one_drawn d t gates pins drawn p.cell v (drawn p.cell) (is drawn (below_placed d t gates pins drawn cell k p right placed)) (right k p.cell p placed ([], refl))

-- from the bottom up
up : (d : Design) (t : Tables) (gates : ℕ → List GateEntry) (pins : ℕ → CellPins) (drawn : ℕ → List Bool) (height : ℕ → ℕ) → IsHeight d height → ((e : ℕ) → IsReached d e → AreDrawnOf d t gates pins e (drawn e))
    → (n cell : ℕ) → height cell < n → IsReached d cell → AreDrawn d t gates pins drawn cell (drawn cell)
up d t gates pins drawn height linked is zero cell lt reached = absurd (omega arith)
up d t gates pins drawn height linked is (suc n) cell lt reached = is cell reached drawn (λ k e p placed under.
    let one = linked cell k p placed in
    let rest = under_low d height linked p.cell e under in
    up d t gates pins drawn height linked is n e (omega arith) (reached_under d p.cell e (reached_below d cell k p reached placed) under))
  where
    under_low : (d : Design) (height : ℕ → ℕ) → IsHeight d height → (from to : ℕ) → IsUnder d from to → height to ≤ height from
    under_low d height linked from to (path, leads) = lower d height linked path from to leads

pub drawn_together : DrawnTogetherLaw
drawn_together d t gates pins drawn height linked is cell reached = let lt : height cell < suc (height cell) = omega arith in up d t gates pins drawn height linked is (suc (height cell)) cell lt reached
