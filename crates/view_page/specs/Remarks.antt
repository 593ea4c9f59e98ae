-- The lines of a pair: one for each node that has no partner, or one that isn't its like.
use Rattle.std.specs.Prelude.{◌≡◌, ℕ, ◌==◌, Bool, false, not, List, [], ◌++◌, Option, Some}
use Rattle.std.specs.Prelude.{None, codes, get_or, slice_get, if◌then◌else◌}
use Rattle.geo_base.specs.declared.shapes.Point.{Point}
use Rattle.plain_netlist.specs.Netlist.{Circuit}
use Rattle.view_cross.specs.declared.rows.Kind.{Kind}
use Rattle.view_cross.specs.declared.rows.Kind.TheVariants.{Net, Pin, Device, Call}
use Rattle.view_cross.specs.declared.rows.Mark.{Mark}
use Rattle.view_cross.specs.declared.rows.Mark.TheVariants.{Mismatched}
use Rattle.view_cross.specs.declared.rows.Row.{Row}
use Rattle.view_cross.specs.Rows.{mark_letter}
use Rattle.view_pairs.specs.Alike.{both}
use Rattle.view_pairs.specs.Marks.{same_sizes}
use Rattle.view_page.specs.Subjects.{IsName, IsPlace}
use Rattle.view_page.specs.declared.places.Places.{Places}

-- a pair: the unit in picometres, the names of the circuits of both sides, its circuits, the places
-- of the left one's nodes
pub record Told : Type 0 where
  pub unit : ℕ
  pub left_names : List (List ℕ)
  pub right_names : List (List ℕ)
  pub left : Circuit
  pub right : Circuit
  pub places : Places

abbrev pub place_of : Places → Kind → ℕ → Option Point
place_of p Net k = get_or p.nets.items k None
place_of p Pin k = None
place_of p Device k = get_or p.devices.items k None
place_of p Call k = get_or p.calls.items k None

-- a name with its place
abbrev pub left_line : List ℕ → List ℕ
left_line name = codes "  " ++ (name ++ codes ": none in the schematic\n")

abbrev pub right_line : List ℕ → List ℕ
right_line name = codes "  " ++ (name ++ codes " of the schematic: none in the layout\n")

-- what is said between the schematic's node and the layout's
abbrev pub both_line : List ℕ → List ℕ → List ℕ → List ℕ → List ℕ
both_line said right left place =
    codes "  " ++ (right ++ (said ++ (left ++ (place ++ codes "\n"))))

-- two devices of other sizes
abbrev pub differ : Told → Kind → ℕ → ℕ → Bool
differ q Net k m = false
differ q Pin k m = false
differ q Device k m =
    both (λ d e. not (same_sizes d e)) (slice_get q.left.devices k) (slice_get q.right.devices m)
differ q Call k m = false

-- partners are told of where a terminal isn't met, or where they have other sizes
abbrev pub said_by : Mark → Bool → Option (List ℕ)
said_by mark sizes =
    if mark_letter mark == mark_letter Mismatched
    then Some (codes " of the schematic: among other neighbours in the layout, ")
    else if sizes then Some (codes " of the schematic: in the layout ") else None

abbrev pub IsLeftRemark : Told → Kind → ℕ → List ℕ → Type 0
IsLeftRemark q kind k text = (name : List ℕ) × IsName q.left_names q.left kind k name
    × (place : List ℕ) × IsPlace q.unit (place_of q.places kind k) place
    × (text ≡ left_line (name ++ place))

abbrev pub IsRightRemark : Told → Kind → ℕ → List ℕ → Type 0
IsRightRemark q kind m text =
    (name : List ℕ) × IsName q.right_names q.right kind m name × (text ≡ right_line name)

abbrev pub IsBothRemark : Told → Kind → ℕ → ℕ → Option (List ℕ) → List ℕ → Type 0
IsBothRemark q kind k m None text = text ≡ []
IsBothRemark q kind k m (Some said) text =
    (right : List ℕ) × IsName q.right_names q.right kind m right
    × (left : List ℕ) × IsName q.left_names q.left kind k left
    × (place : List ℕ) × IsPlace q.unit (place_of q.places kind k) place
    × (text ≡ both_line said right left place)

abbrev pub IsNodeRemark : Told → Kind → Option ℕ → Option ℕ → Mark → List ℕ → Type 0
IsNodeRemark q kind None None mark text = text ≡ []
IsNodeRemark q kind (Some k) None mark text = IsLeftRemark q kind k text
IsNodeRemark q kind None (Some m) mark text = IsRightRemark q kind m text
IsNodeRemark q kind (Some k) (Some m) mark text =
    IsBothRemark q kind k m (said_by mark (differ q kind k m)) text

-- pins are told by their nets
abbrev pub IsRemark : Told → Row → List ℕ → Type 0
IsRemark q r text = elim r.kind [
  | Net ↦ IsNodeRemark q Net r.left r.right r.mark text
  | Pin ↦ text ≡ []
  | Device ↦ IsNodeRemark q Device r.left r.right r.mark text
  | Call ↦ IsNodeRemark q Call r.left r.right r.mark text
]
