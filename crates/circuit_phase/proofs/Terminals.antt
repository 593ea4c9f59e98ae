-- Terminals numbered one by one.
use Rattle.std.proofs.Common.{◌≡◌, ℕ, zero, suc, ◌+◌, ◌<◌, ◌≤◌, List, [], ◌∷◌, ◌++◌, Some, take, slice_get, slice_set, length, refl, sym, ◌∙◌, ap, subst, arith}
use Rattle.flat_layout.specs.Circuits.{IsDeviceOfGate}
use Rattle.flat_layout.specs.Gates.{Rule, sizes_of}
use Rattle.flat_layout.specs.GateTables.{GoodGate, device_by, verdict_nets}
use Rattle.deep_tables.specs.Gates.{plain_state}
use Rattle.deep_tables.specs.declared.gates.GateState.{GateState}
use Rattle.deep_tables.specs.declared.gates.GateState.TheVariants.{Bad, Good}
use Rattle.flat_laws.proofs.Devices.{OnNets}
use Rattle.net_model.specs.Rows.{ends_in, others_in}
use Rattle.plain_netlist.specs.declared.kinds.DeviceKind.{DeviceKind}
use Rattle.plain_netlist.specs.declared.kinds.DeviceKind.TheVariants.{Mos4, ResistorWithBulk, Diode}
use Rattle.plain_netlist.specs.Devices.{AreEndsJoined, AreJoined, nets_of, terminal_nets}
use Rattle.plain_netlist.specs.Kinds.{terminal_count}
use Rattle.plain_netlist.specs.Netlist.{DeviceRow}
use Rattle.plain_netlist.specs.Normal.{AreNumbered}
use Rattle.plain_netlist.proofs.Rows.{at_joined}
use Rattle.circuit_phase.specs.Devices.{gate_row}
use Rattle.circuit_phase.specs.Numbering.{AreNumbersOf}
use Rattle.circuit_phase.proofs.Series.{AreNumberedTo}

-- the next number is set
set_behind : (on : List ℕ) (i n : ℕ) → i < length on → take (suc i) (slice_set on i n) ≡ take i on ++ n ∷ []
set_behind [] i n lt = absurd (omega (arith, lt))
set_behind (x ∷ on) zero n lt = refl
set_behind (x ∷ on) (suc i) n lt = ap (λ (l : List ℕ). x ∷ l) (set_behind on i n (omega (arith, lt)))

pub set_next : (on : List ℕ) (i n : ℕ) → i < length on → take (i + 1) (slice_set on i n) ≡ take i on ++ n ∷ []
set_next on i n lt = let e : suc i ≡ i + 1 = omega arith in subst (λ k. take k (slice_set on i n) ≡ take i on ++ n ∷ []) e (set_behind on i n lt)

-- the nets of a kind's terminals, of four nets
abbrev pub nets_in : DeviceKind → List ℕ → List ℕ
nets_in kind nets = nets_of (ends_in kind nets) (others_in kind nets)

pub nets_long : (kind : DeviceKind) (nets : List ℕ) → length (nets_in kind nets) ≡ terminal_count kind
nets_long Mos4 nets = refl
nets_long ResistorWithBulk nets = refl
nets_long Diode nets = refl

in_four : (kind : DeviceKind) (a b c d : ℕ) → nets_in kind (a ∷ b ∷ c ∷ d ∷ []) ≡ take (terminal_count kind) (a ∷ b ∷ c ∷ d ∷ [])
in_four Mos4 a b c d = refl
in_four ResistorWithBulk a b c d = refl
in_four Diode a b c d = refl

pub in_order : (kind : DeviceKind) (nets : List ℕ) → length nets ≡ 4 → nets_in kind nets ≡ take (terminal_count kind) nets
in_order kind [] e = absurd (omega (arith, e))
in_order kind (a ∷ []) e = absurd (omega (arith, e))
in_order kind (a ∷ b ∷ []) e = absurd (omega (arith, e))
in_order kind (a ∷ b ∷ c ∷ []) e = absurd (omega (arith, e))
in_order kind (a ∷ b ∷ c ∷ d ∷ []) e = in_four kind a b c d
in_order kind (a ∷ b ∷ c ∷ d ∷ x ∷ nets) e = absurd (omega (arith, e))

-- terminals joined in order are so by ends and others
by_kind : (R : ℕ → ℕ → Type 0) (kind : DeviceKind) (nets on : List ℕ) → AreJoined R (nets_in kind nets) (nets_in kind on)
    → AreEndsJoined R (ends_in kind nets) (ends_in kind on) × AreJoined R (others_in kind nets) (others_in kind on)
by_kind R Mos4 nets on (d, (g, (s, (b, u)))) = ((s, d), (g, (b, u)))
by_kind R ResistorWithBulk nets on (d, (b, (s, u))) = ((s, d), (b, u))
by_kind R Diode nets on h = (tt, h)

-- a device on the numbers of its gate's nets
module _ (rules : List Rule) (unit : ℕ) (old new : List ℕ) (kind : DeviceKind) (w l : ℕ) (nets on : List ℕ) (four : length on ≡ 4)
    (numbers : AreNumbersOf old new (nets_in kind nets) (take (length (nets_in kind nets)) on)) where
  same : take (length (nets_in kind nets)) on ≡ nets_in kind on
  same = ap (λ n. take n on) (nets_long kind nets) ∙ sym (in_order kind on four)

  numbered : AreNumbersOf old new (nets_in kind nets) (nets_in kind on)
  numbered = subst (λ k. AreNumbersOf old new (nets_in kind nets) k) same numbers

  joined : AreEndsJoined (OnNets new) (ends_in kind nets) (ends_in kind on) × AreJoined (OnNets new) (others_in kind nets) (others_in kind on)
  joined = by_kind (OnNets new) kind nets on (at_joined (OnNets new) (nets_in kind nets) (nets_in kind on) (sym numbered.count) (λ i x n h g. numbered.each i x n h g))

  pub device_on : (u : Rule) (gate : GoodGate) (row : DeviceRow) → slice_get rules gate.at.rule ≡ Some u → gate.row ≡ gate_row kind w l nets → row ≡ device_by u (sizes_of u unit w l) (gate_row kind w l on)
      → IsDeviceOfGate rules unit new gate row × AreNumbered (length new) (length old) (terminal_nets row)
  device_on u gate row is gate_is row_is = (
    record {
      rule = u;
      is = is;
      over = rw row_is (rw gate_is (record { kind = refl; class = refl; sizes = refl; ends = joined.0; others = joined.1 }));
    },
    rw row_is numbered.numbered,
  )

-- after n nets
pub record AreNumberedIn (size : ℕ) (old : List ℕ) (count : ℕ) (mid nets : List ℕ) (n : ℕ) (on : List ℕ) : Type 0 where
  pub are : AreNumberedTo size old count mid nets n (take n on)
  pub four : length on ≡ 4

-- a gate has at most four terminals
pub few_nets : (s : GateState) → length (verdict_nets (plain_state s)) ≤ 4
few_nets (Good Mos4 w l nets) = omega arith
few_nets (Good ResistorWithBulk w l nets) = omega arith
few_nets (Good Diode w l nets) = omega arith
few_nets (Bad cause) = omega arith
