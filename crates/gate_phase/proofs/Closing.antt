-- What is close to a part.
use Rattle.std.proofs.Common.{◌≡◌, ◌↔◌, ℕ, Bool, true, map, List, Option, sym, subst, ◌∙◌, ap}
use Rattle.base_laws.proofs.Items.{one_entry}
use Rattle.geo_base.specs.declared.shapes.Rect.{Rect}
use Rattle.geo_base.specs.declared.shapes.Square.{Square}
use Rattle.rect_sets.specs.Rects.{IsCanonical, covers}
use Rattle.rect_sets.proofs.Unique.{rect_of}
use Rattle.flat_layout.specs.Parts.{IsCloseTo}
use Rattle.gate_shapes.specs.Borders.{grown_rect}
use Rattle.gate_shapes.specs.Sets.{in_set}
use Rattle.deep_tables.specs.declared.zones.CellZones.{CellZones}
use Rattle.gate_phase.specs.Close.{AreApart, AreOpen, MissesOpen}
use Rattle.gate_shapes.proofs.Rings.{close_same}

pub close_law : (part windows set : List Rect) → IsCanonical part → windows ≡ map grown_rect part → ((s : Square) → covers set s ≡ covers windows s) → (q : Square) → in_set set q ↔ IsCloseTo (in_set part) q
close_law part windows set good is same q =
    let law = close_same part (λ r l. rect_of (covers part) r ((good.each r).0 l)) q in
    let e : covers set q ≡ covers (map grown_rect part) q = same q ∙ ap (λ (l : List Rect). covers l q) is in
    ((λ h. law.0 (sym e ∙ h)), (λ c. e ∙ law.1 c))

-- what the cell's entry tells
pub open_told : (n : ℕ) (z : List (Option CellZones)) (cell device : ℕ) (close zone : List Rect) (b : Bool) → AreOpen z cell device zone → (b ≡ true) ↔ AreApart n close zone → (b ≡ true) ↔ MissesOpen n z cell device close
open_told n z cell device close zone b is told = (
  (λ e. (zone, is, told.0 e)),
  (λ (other, there, apart). told.1 (subst (AreApart n close) (one_entry _ other zone there is) apart)),
)
