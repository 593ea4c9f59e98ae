-- Correspondences of what circuits expand to turn round and compose; what one says of a device.
use Rattle.std.specs.Prelude.{◌≡◌, Bool, true, ℕ}
use Rattle.plain_netlist.specs.Netlist.{Netlist, Slot, IsTerminal}
use Rattle.plain_netlist.specs.Flats.{Corresponds, expanded, Reversed, Through}

-- the pairs that pass a test
abbrev pub Passes : {A B : Type 0} → (A → B → Bool) → A → B → Type 0
Passes test a b = test a b ≡ true

-- two circuits expand to the same, by the pairs that pass these tests
abbrev pub ExpandAlike : Netlist → ℕ → Netlist → ℕ → (device net : Slot → Slot → Bool) → Type 0
ExpandAlike l t r u device net =
    Corresponds (expanded l t) (expanded r u) (Passes device) (Passes net)

-- a circuit expands to the same as itself
abbrev pub SameLaw : Type 0
SameLaw = (l : Netlist) (t : ℕ)
    → Corresponds (expanded l t) (expanded l t) (λ a x. a ≡ x) (λ a x. a ≡ x)

-- a correspondence turns round
abbrev pub ReversedLaw : Type 0
ReversedLaw = (l r : Netlist) (t u : ℕ) (device net : Slot → Slot → Bool)
    → ExpandAlike l t r u device net
    → Corresponds (expanded r u) (expanded l t) (Reversed (Passes device)) (Reversed (Passes net))

-- two compose
abbrev pub ComposedLaw : Type 0
ComposedLaw = (l m r : Netlist) (t u v : ℕ) (device net further on_net : Slot → Slot → Bool)
    → ExpandAlike l t m u device net → ExpandAlike m u r v further on_net
    → Corresponds (expanded l t) (expanded r v)
    (Through (Passes device) (Passes further)) (Through (Passes net) (Passes on_net))

-- a device has one image, and is that of one
abbrev pub OneImageLaw : Type 0
OneImageLaw = (l r : Netlist) (t u : ℕ) (device net : Slot → Slot → Bool)
    → ExpandAlike l t r u device net
    → ((a x y : Slot) → Passes device a x → Passes device a y → x ≡ y)
    × ((a b x : Slot) → Passes device a x → Passes device b x → a ≡ b)

-- each net with a device terminal has an image with one
abbrev pub TerminalLaw : Type 0
TerminalLaw = (l r : Netlist) (t u : ℕ) (device net : Slot → Slot → Bool)
    → ExpandAlike l t r u device net
    → (a : Slot) → IsTerminal l t a → (x : Slot) × IsTerminal r u x × Passes net a x
