-- Which global names a circuit needs: a chain of calls, none of whose circuits lists the name as a
-- pin, leads to a card that uses it.
use Rattle.std.specs.Prelude.{◌≡◌, ◌⊎◌, ℕ, Bool, true, false, List, [], ◌∷◌, ◌++◌, flat_map}
use Rattle.std.specs.Prelude.{◌<◌, length, slice_get, Option, Some, None}
use Rattle.std.specs.List.{All}
use Rattle.plain_netlist.specs.Chains.{IsChain}
use Rattle.plain_netlist.specs.Devices.{terminal_nets}
use Rattle.call_order.specs.Order.{Calls}
use Rattle.text_table.specs.Texts.{has_text, with_text}
use Rattle.spice_rows.specs.Rows.{DeviceCard, CallCard}
use Rattle.spice_text.specs.Gather.{Circuit}
use Rattle.spice_text.specs.Circuits.{call_lists}

-- some names and then others, each once, in order of first appearance
abbrev pub first_seen : List (List ℕ) → List (List ℕ) → List (List ℕ)
first_seen seen [] = seen
first_seen seen (n ∷ ns) = first_seen (with_text seen n) ns

-- each of these is a name, which has one byte or more
abbrev pub HaveBytes : List (List ℕ) → Type 0
HaveBytes names = All (λ name. 0 < length name) names

abbrev pub device_nets : DeviceCard → List (List ℕ)
device_nets d = terminal_nets d

abbrev pub call_nets : CallCard → List (List ℕ)
call_nets r = r.nets

-- the nets that a circuit's devices and then its calls name
abbrev pub used_nets : Circuit → List (List ℕ)
used_nets c = flat_map device_nets c.devices ++ flat_map call_nets c.calls

abbrev pub pin_in : List ℕ → Option Circuit → Bool
pin_in g None = false
pin_in g (Some c) = has_text c.pins g

abbrev pub used_in : List ℕ → Option Circuit → Bool
used_in g None = false
used_in g (Some c) = has_text (used_nets c) g

-- circuit k lists the name as a pin
abbrev pub is_pin : List Circuit → List ℕ → ℕ → Bool
is_pin cs g k = pin_in g (slice_get cs k)

-- a card of circuit k uses the name
abbrev pub is_used : List Circuit → List ℕ → ℕ → Bool
is_used cs g k = used_in g (slice_get cs k)

-- a call from a circuit that doesn't list the name as a pin
abbrev pub Passes : List Circuit → List ℕ → ℕ → ℕ → Type 0
Passes cs g a b = (is_pin cs g a ≡ false) × Calls (call_lists cs) a b

pub record Needs (cs : List Circuit) (g : List ℕ) (k : ℕ) : Type 0 where
  pub via : List ℕ
  pub end : ℕ
  pub chain : IsChain (Passes cs g) k via end
  pub listed : is_pin cs g end ≡ false
  pub used : is_used cs g end ≡ true

-- the names of which P holds, in order
abbrev pub Picks : (List ℕ → Type 0) → List (List ℕ) → List (List ℕ) → Type 0
Picks P [] picked = picked ≡ []
Picks P (g ∷ gs) picked =
    (P g × (rest : List (List ℕ)) × (picked ≡ g ∷ rest) × Picks P gs rest)
    ⊎ ((P g → ⊥) × Picks P gs picked)
