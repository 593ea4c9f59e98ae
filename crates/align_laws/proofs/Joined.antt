-- Nets of what circuits expand to, below a call.
use Rattle.std.proofs.Common.{◌≡◌, inl, inr, ℕ, List, [], ◌∷◌, Some, slice_get, refl, ap}
use Rattle.plain_netlist.specs.Chains.{Reaches}
use Rattle.plain_netlist.specs.Netlist.{CallRow, Netlist, IsCall, IsPin, Slot, IsJoin, IsEitherJoin, InOneNet, slot}
use Rattle.align_laws.specs.Flat.{below}
use Rattle.plain_netlist.proofs.Links.{stays, single, both, back, along}

either_back : (nl : Netlist) (t : ℕ) (a b : Slot) → IsEitherJoin nl t a b → IsEitherJoin nl t b a
either_back nl t a b (inl h) = inr h
either_back nl t a b (inr h) = inl h

pub net_same : (nl : Netlist) (t : ℕ) (a b : Slot) → a ≡ b → InOneNet nl t a b
net_same nl t a b e = stays (IsEitherJoin nl t) a b e

pub net_back : (nl : Netlist) (t : ℕ) (a b : Slot) → InOneNet nl t a b → InOneNet nl t b a
net_back nl t a b h = back (IsEitherJoin nl t) (either_back nl t) a b h

pub net_on : (nl : Netlist) (t : ℕ) (a b c : Slot) → InOneNet nl t a b → InOneNet nl t b c → InOneNet nl t a c
net_on nl t a b c h g = both (IsEitherJoin nl t) a b c h g

-- what is joined below a call stays so above it
join_down : (nl : Netlist) (t c : ℕ) (row : CallRow) → IsCall nl t c row → (a b : Slot) → IsJoin nl row.circuit a b → IsJoin nl t (below c a) (below c b)
join_down nl t c row call a b h = record { number = h.number; deeper = ap (λ (p : List ℕ). c ∷ p) h.deeper; joins = (row, call, h.joins) }

either_down : (nl : Netlist) (t c : ℕ) (row : CallRow) → IsCall nl t c row → (a b : Slot) → IsEitherJoin nl row.circuit a b → Reaches (IsEitherJoin nl t) (below c a) (below c b)
either_down nl t c row call a b (inl h) = single (IsEitherJoin nl t) (below c a) (below c b) (inl (join_down nl t c row call a b h))
either_down nl t c row call a b (inr h) = single (IsEitherJoin nl t) (below c a) (below c b) (inr (join_down nl t c row call b a h))

pub net_down : (nl : Netlist) (t c : ℕ) (row : CallRow) → IsCall nl t c row → (a b : Slot) → InOneNet nl row.circuit a b → InOneNet nl t (below c a) (below c b)
net_down nl t c row call a b h = along (IsEitherJoin nl row.circuit) (IsEitherJoin nl t) (below c) (either_down nl t c row call) a b h

-- a call joins its net at a pin with that pin
pub call_joins : (nl : Netlist) (c k : ℕ) (row : CallRow) (p outer inner : ℕ) → IsCall nl c k row → slice_get row.nets p ≡ Some outer → IsPin nl row.circuit p inner
    → InOneNet nl c (slot [] outer) (slot (k ∷ []) inner)
call_joins nl c k row p outer inner call net pin =
    single (IsEitherJoin nl c) (slot [] outer) (slot (k ∷ []) inner) (inl (record { number = k; deeper = refl; joins = (row, call, pin.0, pin.1, p, net, pin.2) }))
