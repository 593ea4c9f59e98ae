-- Which circuits are kept, and all that cards are turned by.
use Rattle.std.specs.Prelude.{◌≡◌, ◌<◌, ◌↔◌, ℕ, Bool, true, false, List, length, slice_index_or}
use Rattle.std.specs.Prelude.{Option, Some, None, Ok}
use Rattle.plain_netlist.specs.Chains.{Reaches}
use Rattle.call_order.specs.Order.{Calls}
use Rattle.netlist_turn.specs.declared.settings.Settings.{Settings}
use Rattle.netlist_run.specs.Circuits.{Circuits, circuits_of, number_of, is_begun}
use Rattle.netlist_run.specs.Defined.{defined, settings_seen}
use Rattle.netlist_run.specs.declared.plan.Choices.{Choices}

-- number k is marked
abbrev pub IsMarked : List Bool → ℕ → Type 0
IsMarked marks k = slice_index_or marks k false ≡ true

-- of the numbers that have calls, just those that calls lead to from one are marked
pub record AreReached (calls : List (List ℕ)) (from : ℕ) (marks : List Bool) : Type 0 where
  pub count : length marks ≡ length calls
  pub each : (k : ℕ) → k < length calls → IsMarked marks k ↔ Reaches (Calls calls) from k

-- with a top just the circuits that it reaches are kept, and it was found where a circuit of its
-- name begins; without one all are kept
abbrev pub AreKept : Circuits → Option (List ℕ) → Bool → List Bool → Bool → Type 0
AreKept c None all marks found = (all ≡ true) × (found ≡ true)
AreKept c (Some top) all marks found =
    (all ≡ false) × AreReached c.calls (number_of c top) marks × (found ≡ is_begun c top)

-- the settings are what a text says of names and circuits, and what is asked for
pub record IsPlan (bytes : List ℕ) (top : Option (List ℕ)) (choices : Choices)
    (s : Settings) (found : Bool) : Type 0 where
  pub names : defined choices.scale bytes ≡ Ok (settings_seen s)
  pub circuits : s.circuits ≡ (circuits_of bytes).names
  pub kept : AreKept (circuits_of bytes) top s.all s.marks.items found
  pub capacitors : s.capacitors ≡ choices.capacitors
  pub resistors : s.resistors ≡ choices.resistors
