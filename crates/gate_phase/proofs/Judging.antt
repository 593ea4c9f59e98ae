-- The gates of a list, one for each of the cell's own.
use Rattle.std.proofs.Common.{◌≡◌, ℕ, zero, suc, List, [], ◌∷◌, ◌++◌, Some, map, slice_get, length, refl, sym, ◌∙◌, ap, subst}
use Rattle.std.proofs.lemmas.Option.{none-some}
use Rattle.geo_base.specs.declared.shapes.Square.{Square}
use Rattle.flat_layout.specs.Gates.{Rule}
use Rattle.flat_layout.specs.GateTables.{GateEntry, GateSquare}
use Rattle.flat_layout.specs.Layout.{Design}
use Rattle.flat_layout.specs.Nets.{Tables}
use Rattle.flat_layout.specs.Regions.{Wiring}
use Rattle.deep_tables.specs.Gates.{plain_gate}
use Rattle.deep_tables.specs.declared.gates.Gate.{Gate}
use Rattle.gate_phase.specs.Judged.{AreGatesOf, IsGateOf}
use Rattle.gate_phase.specs.Rows.{AreEntriesOf, IsVerdictOf}
use Rattle.gate_phase.specs.Terminals.{IsOfRule, RuleGrounds, grounds_by}
use Rattle.gate_phase.specs.declared.device.Device.{Device}
use Rattle.gate_phase.specs.declared.own.OwnGate.{OwnGate}

pub push_both : (is : OwnGate → Gate → Type 0) (xs : List OwnGate) (gs : List Gate) (x : OwnGate) (g : Gate) → AreGatesOf is xs gs → is x g → AreGatesOf is (xs ++ x ∷ []) (gs ++ g ∷ [])
push_both is [] [] x g h e = (e, tt)
push_both is [] (f ∷ gs) x g h e = absurd h
push_both is (y ∷ xs) [] x g h e = absurd h
push_both is (y ∷ xs) (f ∷ gs) x g h e = (h.0, push_both is xs gs x g h.1 e)

pub as_many : (is : OwnGate → Gate → Type 0) (xs : List OwnGate) (gs : List Gate) → AreGatesOf is xs gs → length (map plain_gate gs) ≡ length xs
as_many is [] [] h = refl
as_many is [] (g ∷ gs) h = absurd h
as_many is (x ∷ xs) [] h = absurd h
as_many is (x ∷ xs) (g ∷ gs) h = ap suc (as_many is xs gs h.1)

-- the entry at a place is a gate's, and the gate is that of the own gate there
pub pair_at : (is : OwnGate → Gate → Type 0) (xs : List OwnGate) (gs : List Gate) → AreGatesOf is xs gs → (i : ℕ) (x : OwnGate) (e : GateEntry) → slice_get xs i ≡ Some x → slice_get (map plain_gate gs) i ≡ Some e
    → (g : Gate) × is x g × (plain_gate g ≡ e)
pair_at is [] gs h i x e a b = absurd (none-some x a)
pair_at is (y ∷ xs) [] h i x e a b = absurd h
pair_at is (y ∷ xs) (g ∷ gs) h zero x e a b = let same : y ≡ x = (let f : Some y ≡ Some x = a in cc) in let one : plain_gate g ≡ e = (let f : Some (plain_gate g) ≡ Some e = b in cc) in (g, subst (λ z. is z g) same h.0, one)
pair_at is (y ∷ xs) (g ∷ gs) h (suc i) x e a b = pair_at is xs gs h.1 i x e a b

-- and of each gate there is an own one
pub own_at : (is : OwnGate → Gate → Type 0) (xs : List OwnGate) (gs : List Gate) → AreGatesOf is xs gs → (i : ℕ) (g : Gate) → slice_get gs i ≡ Some g → (x : OwnGate) × (slice_get xs i ≡ Some x) × is x g
own_at is xs [] h i g e = absurd (none-some g e)
own_at is [] (f ∷ gs) h i g e = absurd h
own_at is (x ∷ xs) (f ∷ gs) h zero g e = let same : f ≡ g = (let k : Some f ≡ Some g = e in cc) in (x, refl, subst (λ z. is x z) same h.0)
own_at is (x ∷ xs) (f ∷ gs) h (suc i) g e = own_at is xs gs h.1 i g e

pub entries_of : (d : Design) (w : Wiring) (t : Tables) (m : Device) (global : RuleGrounds) (n cell : ℕ) (u : Rule) (own : List OwnGate) (gs : List Gate) → IsOfRule u m → grounds_by w u ≡ global → AreGatesOf (IsGateOf d w t m global n cell) own gs
    → AreEntriesOf d w t u n cell own (map plain_gate gs)
entries_of d w t m global n cell u own gs of is h = record {
  count = as_many (IsGateOf d w t m global n cell) own gs h;
  at = λ i x e a b. let p = pair_at (IsGateOf d w t m global n cell) own gs h i x e a b in ap (λ (y : GateEntry). y.at) (sym p.2) ∙ at_both p.0.device n p.0.least x.least p.1.device p.1.least;
  verdicts = λ i x e a b. let p = pair_at (IsGateOf d w t m global n cell) own gs h i x e a b in subst (λ (y : GateEntry). IsVerdictOf d w t u cell x.least x.shape y.verdict) p.2 (p.1.state u of is);
}
  where
    at_both : (a n : ℕ) (p q : Square) → a ≡ n → p ≡ q → (let z : GateSquare = record { rule = a; square = p } in z) ≡ record { rule = n; square = q }
    at_both a n p q e f = ap (λ (k : ℕ). let z : GateSquare = record { rule = k; square = p } in z) e ∙ ap (λ (s : Square). let z : GateSquare = record { rule = n; square = s } in z) f
