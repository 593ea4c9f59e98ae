-- The first faults of small netlists.
use Rattle.std.proofs.Common.{◌≡◌, inl, inr, ℕ, zero, suc, ◌<◌, ◌≤◌, ltb, true, [], ◌∷◌, length, Some, slice_get, refl, sym, ◌∙◌, ap, subst, arith}
use Rattle.std.specs.List.{list_all}
use Rattle.std.proofs.lemmas.Bool.Decides.{Decides-ltb}
use Rattle.std.proofs.lemmas.Option.{none-some, same_Some, slice_get_within}
use Rattle.plain_netlist.specs.Lists.{IsListed}
use Rattle.plain_netlist.specs.Netlist.{CallRow, Circuit, IsCircuit, IsCall}
use Rattle.plain_netlist.specs.Normal.{appearances}
use Rattle.plain_netlist.specs.Sound.{NetlistFault, NameClash, BadTerminal, NoSuchCircuit, PinCount, CircuitCycle, ShowsFault, fault_rank, IsFirstFault}
use Rattle.law_samples.proofs.latch.Checks.{all_at}
use Rattle.law_samples.specs.Faulty.{one, bad_pin, calls_none, calls_short, calls_itself, FirstFaultsLaw}
use Rattle.law_samples.proofs.chain.Sound.{one_call}

only : (x : Circuit) (c : ℕ) (y : Circuit) → IsCircuit (one x) c y → (c ≡ 0) × (x ≡ y)
only x zero y h = (refl, same_Some _ _ h)
only x (suc c) y h = absurd (none-some y h)

-- one circuit with a net at most has no equal names
no_clash : (x : Circuit) → length x.nets ≤ 1 → (c : ℕ) → ShowsFault (one x) NameClash c → ⊥
no_clash x few c (inl (b, y, z, low, is, js, e)) = let p = (only x b y is).0 in let q = (only x c z js).0 in absurd (omega arith)
no_clash x few c (inr (y, i, j, name, is, low, h, k)) =
    let high = slice_get_within y.nets j name k in
    let long : length y.nets ≤ 1 = subst (λ (z : Circuit). length z.nets ≤ 1) (only x c y is).1 few in
    absurd (omega arith)

-- each net that it names is there
no_bad : (x : Circuit) → list_all (λ n. ltb n (length x.nets)) (appearances x) ≡ true → (c : ℕ) → ShowsFault (one x) BadTerminal c → ⊥
no_bad x all c (y, n, is, h, high) =
    let same = (only x c y is).1 in
    let low : n < length x.nets = (Decides-ltb _ _).0 (all_at (λ m. ltb m (length x.nets)) n (appearances x) all (subst (λ (z : Circuit). IsListed n (appearances z)) (sym same) h)) in
    let top : length x.nets ≤ n = subst (λ (z : Circuit). length z.nets ≤ n) (sym same) high in
    absurd (omega arith)

-- its calls
calls_of : (x : Circuit) (P : CallRow → Type 0) → ((k : ℕ) (row : CallRow) → slice_get x.calls k ≡ Some row → P row) → (c k : ℕ) (row : CallRow) → IsCall (one x) c k row → P row
calls_of x P h c k row (y, is, at) = h k row (subst (λ (z : Circuit). slice_get z.calls k ≡ Some row) (sym (only x c y is).1) at)

none_calls : (P : CallRow → Type 0) (k : ℕ) (row : CallRow) → slice_get [] k ≡ Some row → P row
none_calls P k row h = absurd (none-some row h)

no_missing : (x : Circuit) → ((k : ℕ) (row : CallRow) → slice_get x.calls k ≡ Some row → row.circuit ≡ 0) → (c : ℕ) → ShowsFault (one x) NoSuchCircuit c → ⊥
no_missing x h c (k, row, call, high) = let e = calls_of x (λ r. r.circuit ≡ 0) h c k row call in absurd (omega arith)

no_count : (x : Circuit) → ((k : ℕ) (row : CallRow) → slice_get x.calls k ≡ Some row → length row.nets ≡ length x.pins) → (c : ℕ) → ShowsFault (one x) PinCount c → ⊥
no_count x h c (k, row, d, call, is, differ) =
    differ (calls_of x (λ r. length r.nets ≡ length x.pins) h c k row call ∙ ap (λ (y : Circuit). length y.pins) (only x row.circuit d is).1)

clash_first : IsFirstFault (record { circuits = bad_pin ∷ bad_pin ∷ [] }) NameClash 1
clash_first = record {
  shown = inl (0, bad_pin, bad_pin, omega arith, refl, refl, refl);
  first = λ b low h. none b low h;
  before = λ other b low. absurd (omega arith);
}
  where
    none : (b : ℕ) → b < 1 → ShowsFault (record { circuits = bad_pin ∷ bad_pin ∷ [] }) NameClash b → ⊥
    none b low (inl (c, y, z, lower, is, js, e)) = absurd (omega arith)
    none zero low (inr (y, i, j, name, is, lower, h, k)) = none-some name (subst (λ (z : Circuit). slice_get z.nets i ≡ Some name) (sym (same_Some _ _ is)) h)
    none (suc b) low (inr h) = absurd (omega arith)

pin_first : IsFirstFault (one bad_pin) BadTerminal 0
pin_first = record { shown = (bad_pin, 0, refl, inl refl, omega arith); first = λ b low. absurd (omega arith); before = before }
  where
    before : (other : NetlistFault) (b : ℕ) → fault_rank other < 1 → ShowsFault (one bad_pin) other b → ⊥
    before NameClash b low h = no_clash bad_pin (omega arith) b h
    before BadTerminal b low h = absurd (omega arith)
    before NoSuchCircuit b low h = absurd (omega arith)
    before PinCount b low h = absurd (omega arith)
    before CircuitCycle b low h = absurd (omega arith)

missing_first : IsFirstFault (one calls_none) NoSuchCircuit 0
missing_first = record { shown = (0, _, (calls_none, refl, refl), omega arith); first = λ b low. absurd (omega arith); before = before }
  where
    before : (other : NetlistFault) (b : ℕ) → fault_rank other < 2 → ShowsFault (one calls_none) other b → ⊥
    before NameClash b low h = no_clash calls_none (omega arith) b h
    before BadTerminal b low h = no_bad calls_none refl b h
    before NoSuchCircuit b low h = absurd (omega arith)
    before PinCount b low h = absurd (omega arith)
    before CircuitCycle b low h = absurd (omega arith)

count_first : IsFirstFault (one calls_short) PinCount 0
count_first = record { shown = (0, _, calls_short, (calls_short, refl, refl), refl, (λ e. absurd (let z : ◌≡◌ {A = ℕ} 0 1 = e in omega arith))); first = λ b low. absurd (omega arith); before = before }
  where
    before : (other : NetlistFault) (b : ℕ) → fault_rank other < 3 → ShowsFault (one calls_short) other b → ⊥
    before NameClash b low h = no_clash calls_short (omega arith) b h
    before BadTerminal b low h = no_bad calls_short refl b h
    before NoSuchCircuit b low h = no_missing calls_short (one_call (λ r. r.circuit ≡ 0) _ refl) b h
    before PinCount b low h = absurd (omega arith)
    before CircuitCycle b low h = absurd (omega arith)

cycle_first : IsFirstFault (one calls_itself) CircuitCycle 0
cycle_first = record { shown = (0, [], (_, (calls_itself, refl, refl), refl)); first = λ b low. absurd (omega arith); before = before }
  where
    before : (other : NetlistFault) (b : ℕ) → fault_rank other < 4 → ShowsFault (one calls_itself) other b → ⊥
    before NameClash b low h = no_clash calls_itself (omega arith) b h
    before BadTerminal b low h = no_bad calls_itself refl b h
    before NoSuchCircuit b low h = no_missing calls_itself (one_call (λ r. r.circuit ≡ 0) _ refl) b h
    before PinCount b low h = no_count calls_itself (one_call (λ r. length r.nets ≡ 1) _ refl) b h
    before CircuitCycle b low h = absurd (omega arith)

pub first_faults : FirstFaultsLaw
first_faults = (clash_first, pin_first, missing_first, count_first, cycle_first)
