-- The partners that are found.
use Rattle.std.specs.Prelude.{◌≡◌, ◌↔◌, ◌<◌, ℕ, ◌==◌, List, [], length, slice_get, slice_index_or}
use Rattle.std.specs.Prelude.{Option, Some, None, if◌then◌else◌}
use Rattle.plain_netlist.specs.Netlist.{Netlist}
use Rattle.align_laws.specs.Partners.{IsPartner}
use Rattle.net_align.specs.Marks.{IsSole, circuits_called}
use Rattle.net_align.specs.Names.{found_in, names_of, partner_named, partners_named}
use Rattle.net_align.specs.declared.names.Naming.{Naming}

-- the partner of each circuit of the layout, or none
pub record ArePartners (layout schematic : Netlist) (top : ℕ) (same : List (List ℕ × List ℕ))
    (of : List (Option ℕ)) : Type 0 where
  pub long : length of ≡ length layout.circuits
  pub each : (a b : ℕ) → (slice_get of a ≡ Some (Some b)) ↔ IsPartner layout schematic top same a b

-- circuit b is the partner, by its place, of a top of this name
pub record IsPlaced (n : Naming) (name : List ℕ) (schematic : Netlist) (b : ℕ) : Type 0 where
  pub unnamed : partner_named n name ≡ None
  pub unsaid : found_in n.lefts name ≡ None
  pub sole : IsSole (circuits_called schematic) b
  pub right_unsaid : found_in n.rights (slice_index_or (names_of schematic) b []) ≡ None

-- it, or none where there is none
abbrev pub FindsPlaced : Naming → List ℕ → Netlist → Option ℕ → Type 0
FindsPlaced n name schematic None = (b : ℕ) → IsPlaced n name schematic b → ⊥
FindsPlaced n name schematic (Some b) = IsPlaced n name schematic b

-- this circuit, where no line names it on the right
abbrev pub if_unsaid : Option ℕ → ℕ → Option ℕ
if_unsaid None b = Some b
if_unsaid (Some line) b = None

abbrev pub other_than : ℕ → Option ℕ → Option ℕ
other_than b None = None
other_than b (Some d) = if d == b then None else Some d

-- the top has the partner by its place, and no other circuit has it
abbrev pub settled : ℕ → Option ℕ → ℕ → Option ℕ → Option ℕ
settled top None a named = named
settled top (Some b) a named = if a == top then Some b else other_than b named

-- the first n of the list, settled
pub record AreSettled (of : List (Option ℕ)) (top : ℕ) (by_place : Option ℕ) (n : ℕ)
    (new : List (Option ℕ)) : Type 0 where
  pub long : length new ≡ n
  pub each : (a : ℕ) → a < n
      → slice_index_or new a None ≡ settled top by_place a (slice_index_or of a None)

-- the partners by these names, with the top's by its place
pub record ArePartnersBy (n : Naming) (layout schematic : Netlist) (top : ℕ)
    (of : List (Option ℕ)) : Type 0 where
  pub name : List ℕ
  pub named : slice_get (names_of layout) top ≡ Some name
  pub place : Option ℕ
  pub placed : FindsPlaced n name schematic place
  pub settled : AreSettled (partners_named n layout) top place (length (partners_named n layout)) of
