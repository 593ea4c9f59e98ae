-- The first fault of a netlist, and that it is sound where there is none.
use Rattle.std.proofs.Common.{◌≡◌, inl, inr, ℕ, ◌<◌, List, [], ◌∷◌, length, map, Option, Some, None, Result, Ok, Err, IfOk, refl, ap, subst, arith}
use Rattle.plain_netlist.specs.Netlist.{CallRow as PlainCall, Circuit, Netlist}
use Rattle.plain_netlist.specs.Sound.{NetlistFault, NameClash, BadTerminal, NoSuchCircuit, PinCount, CircuitCycle, ShowsFault, fault_rank, IsFirstFault, IsSoundNetlist}
use Rattle.plain_netlist.proofs.Faults.{sound_law}
use Rattle.std.proofs.lemmas.Bool.Decides.{leb_tells}
use Rattle.std.proofs.lemmas.List.{length-map}
use Rattle.call_order.specs.Order.{ReachesItself, AreInRange, IsFirstInCycle}
use Rattle.net_model.specs.Tests.{first_of, first_clash, has_bad_terminal, calls_none, has_other_count}
use Rattle.net_model.specs.Faults.{call_lists}
use Rattle.net_model.specs.Rows.{plain_call}
use Rattle.net_model.specs.declared.netlist.CallRow.{CallRow}
use Rattle.net_model.proofs.FirstLemmas.{FindsAt}
use Rattle.net_model.proofs.CallLemmas.{from_list, in_cycle, reaches}
use Rattle.net_model.proofs.FaultLemmas.{names, terminals, missing, counts}

none_shows : (P : ℕ → Type 0) (o : Option ℕ) → FindsAt 0 P o → o ≡ None → (k : ℕ) → P k → ⊥
none_shows P None h e = h
none_shows P (Some m) h e = let z : ⊥ = cc in absurd z

one_shows : (P : ℕ → Type 0) (o : Option ℕ) (k : ℕ) → FindsAt 0 P o → o ≡ Some k → P k × ((j : ℕ) → j < k → P j → ⊥)
one_shows P None k h e = let z : ⊥ = cc in absurd z
one_shows P (Some m) k h e =
    let same : m ≡ k = cc in
    let place : h.0 ≡ k = (let p = h.1 in omega arith) in
    (subst P place h.2, λ j l p. h.3 j (omega arith) p)

module _ (nl : Netlist) where
  abbrev Lacks : NetlistFault → Type 0
  Lacks fault = (c : ℕ) → ShowsFault nl fault c → ⊥

  pub no_clash : first_clash [] 0 nl.circuits ≡ None → Lacks NameClash
  no_clash e = none_shows (ShowsFault nl NameClash) _ (names nl) e

  pub no_terminal : first_of has_bad_terminal nl.circuits ≡ None → Lacks BadTerminal
  no_terminal e = none_shows (ShowsFault nl BadTerminal) _ (terminals nl) e

  pub no_missing : first_of (calls_none (length nl.circuits)) nl.circuits ≡ None → Lacks NoSuchCircuit
  no_missing e = none_shows (ShowsFault nl NoSuchCircuit) _ (missing nl) e

  pub no_other : first_of (has_other_count nl.circuits) nl.circuits ≡ None → Lacks PinCount
  no_other e = none_shows (ShowsFault nl PinCount) _ (counts nl) e

  pub clash : (k : ℕ) → first_clash [] 0 nl.circuits ≡ Some k → IsFirstFault nl NameClash k
  clash k e = let r = one_shows (ShowsFault nl NameClash) _ k (names nl) e in
      record { shown = r.0; first = r.1; before = λ other b low shows. absurd (omega arith) }

  pub terminal : (k : ℕ) → Lacks NameClash → first_of has_bad_terminal nl.circuits ≡ Some k → IsFirstFault nl BadTerminal k
  terminal k clash e = let r = one_shows (ShowsFault nl BadTerminal) _ k (terminals nl) e in
      record { shown = r.0; first = r.1; before = before }
    where
      before : (other : NetlistFault) (b : ℕ) → fault_rank other < fault_rank BadTerminal → ShowsFault nl other b → ⊥
      before NameClash b low shows = clash b shows
      before BadTerminal b low shows = absurd (omega arith)
      before NoSuchCircuit b low shows = absurd (omega arith)
      before PinCount b low shows = absurd (omega arith)
      before CircuitCycle b low shows = absurd (omega arith)

  pub missed : (k : ℕ) → Lacks NameClash → Lacks BadTerminal → first_of (calls_none (length nl.circuits)) nl.circuits ≡ Some k → IsFirstFault nl NoSuchCircuit k
  missed k clash terminal e = let r = one_shows (ShowsFault nl NoSuchCircuit) _ k (missing nl) e in
      record { shown = r.0; first = r.1; before = before }
    where
      before : (other : NetlistFault) (b : ℕ) → fault_rank other < fault_rank NoSuchCircuit → ShowsFault nl other b → ⊥
      before NameClash b low shows = clash b shows
      before BadTerminal b low shows = terminal b shows
      before NoSuchCircuit b low shows = absurd (omega arith)
      before PinCount b low shows = absurd (omega arith)
      before CircuitCycle b low shows = absurd (omega arith)

  pub other_count : (k : ℕ) → Lacks NameClash → Lacks BadTerminal → Lacks NoSuchCircuit → first_of (has_other_count nl.circuits) nl.circuits ≡ Some k → IsFirstFault nl PinCount k
  other_count k clash terminal missing e = let r = one_shows (ShowsFault nl PinCount) _ k (counts nl) e in
      record { shown = r.0; first = r.1; before = before }
    where
      before : (other : NetlistFault) (b : ℕ) → fault_rank other < fault_rank PinCount → ShowsFault nl other b → ⊥
      before NameClash b low shows = clash b shows
      before BadTerminal b low shows = terminal b shows
      before NoSuchCircuit b low shows = missing b shows
      before PinCount b low shows = absurd (omega arith)
      before CircuitCycle b low shows = absurd (omega arith)

  pub cycle : (k : ℕ) → Lacks NameClash → Lacks BadTerminal → Lacks NoSuchCircuit → Lacks PinCount → IsFirstInCycle (call_lists nl) k → IsFirstFault nl CircuitCycle k
  cycle k clash terminal missing other found = record {
    shown = in_cycle nl k found.reaches;
    first = λ j low shows. found.first j low (reaches nl j shows);
    before = before;
  }
    where
      before : (fault : NetlistFault) (b : ℕ) → fault_rank fault < fault_rank CircuitCycle → ShowsFault nl fault b → ⊥
      before NameClash b low shows = clash b shows
      before BadTerminal b low shows = terminal b shows
      before NoSuchCircuit b low shows = missing b shows
      before PinCount b low shows = other b shows
      before CircuitCycle b low shows = absurd (omega arith)

  pub is_sound : Lacks NameClash → Lacks BadTerminal → Lacks NoSuchCircuit → Lacks PinCount → ((k : ℕ) → ReachesItself (call_lists nl) k → ⊥) → IsSoundNetlist nl
  is_sound clash terminal missing other cycle = (sound_law nl).1 none
    where
      none : (fault : NetlistFault) (c : ℕ) → ShowsFault nl fault c → ⊥
      none NameClash c shows = clash c shows
      none BadTerminal c shows = terminal c shows
      none NoSuchCircuit c shows = missing c shows
      none PinCount c shows = other c shows
      none CircuitCycle c shows = cycle c (reaches nl c shows)

  pub in_range : Lacks NoSuchCircuit → AreInRange (call_lists nl)
  in_range missing a b call =
      let r = from_list nl a b call in
      let long = length-map nl.circuits (λ (c : Circuit). map (λ (p : PlainCall). p.circuit) c.calls) in
      elim (leb_tells (length nl.circuits) b) [
        | inl h ↦ let past = h.1 in absurd (missing a (r.0, r.1, r.2, (let e = r.3 in omega arith)))
        | inr h ↦ let low = h.1 in omega arith
      ]

pub called_same : (rows : List CallRow) → map (λ (r : CallRow). r.circuit) rows ≡ map (λ (r : PlainCall). r.circuit) (map plain_call rows)
called_same [] = refl
called_same (r ∷ rows) = ap (λ ks. r.circuit ∷ ks) (called_same rows)

pub if_ok : {T E : Type 0} (r : Result T E) (P Q : T → Type 0) → ((x : T) → P x → Q x) → IfOk r P → IfOk r Q
if_ok (Ok x) P Q f h = f x h
if_ok (Err e) P Q f h = tt
