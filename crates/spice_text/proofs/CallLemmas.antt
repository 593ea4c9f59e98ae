-- The calls of circuits by number.
use Rattle.std.proofs.Common.{◌≡◌, inl, inr, ℕ, zero, suc, ◌<◌, Bool, true, ◌||◌, List, [], ◌∷◌, map, length, Option, Some, None, refl, sym, subst, ap, ◌∙◌, arith}
use Rattle.std.proofs.lemmas.Bool.{cases_Bool}
use Rattle.std.specs.Prelude.{slice_get, slice_index_or, get_or}
use Rattle.std.specs.List.{list_any, position_or_len}
use Rattle.std.proofs.lemmas.List.{length-map}
use Rattle.plain_netlist.specs.Lists.{IsListed}
use Rattle.text_table.specs.Texts.{has_text}
use Rattle.call_order.specs.Order.{AreInRange, IsFirstInCycle}
use Rattle.spice_rows.specs.Rows.{CallCard}
use Rattle.spice_text.specs.Gather.{Circuit, Cards}
use Rattle.spice_text.specs.Circuits.{all_of, names_of, called_in, call_lists}
use Rattle.spice_text.specs.Faults.{is_missing, HasCall, Lacks, IsCircuitsFault, IsWholeFault}
use Rattle.std.specs.Global.{Vec}
use Rattle.call_order.specs.Order.{lists}
use Rattle.spice_text.specs.declared.gather.CircuitCards.{CircuitCards}
use Rattle.spice_text.specs.Seen.{circuit_seen}
use Rattle.spice_rows.specs.declared.fault.SpiceFault.{SpiceFault}
use Rattle.spice_rows.specs.declared.fault.SpiceFault.TheVariants.{NameClash, NoSuchCircuit, PinCount, CircuitCycle, NoMemory}

-- what stands in a mapped list is the image of what stands in it
pub listed_map : {A B : Type 0} (f : A → B) (xs : List A) (b : B) → IsListed b (map f xs) → (x : A) × IsListed x xs × (b ≡ f x)
listed_map f [] b h = absurd h
listed_map f (x ∷ xs) b (inl e) = (x, inl refl, e)
listed_map f (x ∷ xs) b (inr h) = let r = listed_map f xs b h in (r.0, inr r.1, r.2)

pub place_lt : (p : List ℕ → Bool) (texts : List (List ℕ)) → list_any p texts ≡ true → position_or_len p texts < length texts
place_lt p [] t = let z : ⊥ = cc in absurd z
place_lt p (x ∷ xs) t = elim (cases_Bool (p x)) [
  | inl y ↦ rw y (omega arith)
  | inr n ↦ rw n (let l = place_lt p xs (let e : (p x || list_any p xs) ≡ true = t in sym (ap (λ (b : Bool). b || list_any p xs) n) ∙ e) in omega arith)
]

-- the row of a number that calls is that of a circuit
pub row_at : (g : Circuit → List ℕ) (cs : List Circuit) (a b : ℕ) → IsListed b (slice_index_or (map g cs) a [])
    → (c : Circuit) × (slice_get cs a ≡ Some c) × IsListed c cs × IsListed b (g c)
row_at g [] zero b h = absurd h
row_at g [] (suc a) b h = absurd h
row_at g (c ∷ cs) zero b h = (c, refl, inl refl, h)
row_at g (c ∷ cs) (suc a) b h = let r = row_at g cs a b h in (r.0, r.1, inr r.2, r.3)

pub is_there : (cs : List Circuit) (c : Circuit) (r : CallCard) → Lacks (HasCall cs (is_missing cs)) → IsListed c cs → IsListed r c.calls → has_text (names_of cs) r.circuit ≡ true
is_there cs c r none at in_it = elim (cases_Bool (has_text (names_of cs) r.circuit)) [
  | inl t ↦ t
  | inr f ↦ absurd (none r.line (c, at, (r, in_it, (rw f refl), refl)))
]

pub in_range : (cs : List Circuit) → Lacks (HasCall cs (is_missing cs)) → AreInRange (call_lists cs)
in_range cs none a b h =
    let row = row_at (λ (c : Circuit). map (called_in (names_of cs)) c.calls) cs a b h in
    let call = listed_map (called_in (names_of cs)) row.0.calls b row.3 in
    let there = is_there cs row.0 call.0 none row.2 call.1 in
    let less = place_lt _ (names_of cs) there in
    let one = length-map cs (λ (c : Circuit). c.name) in
    let two = length-map cs (λ (c : Circuit). map (called_in (names_of cs)) c.calls) in
    let e = call.2 in
    omega arith

pub cycle_at : (cs : List Circuit) (k : ℕ) → IsFirstInCycle (call_lists cs) k → (c : Circuit) × (slice_get cs k ≡ Some c)
cycle_at cs k h = let row = row_at (λ (c : Circuit). map (called_in (names_of cs)) c.calls) cs k h.reaches.first h.reaches.called in (row.0, row.1)

pub whole_fault : (cards : Cards) (cs : List Circuit) (e : SpiceFault) → cards.open_one ≡ None → cs ≡ all_of cards → IsCircuitsFault cs e → IsWholeFault cards e
whole_fault cards cs (NameClash line) o s h = (o, subst (λ x. IsCircuitsFault x (NameClash line)) s h)
whole_fault cards cs NoMemory o s h = h
whole_fault cards cs (NoSuchCircuit l) o s h = (o, subst (λ x. IsCircuitsFault x (NoSuchCircuit l)) s h)
whole_fault cards cs (PinCount l) o s h = (o, subst (λ x. IsCircuitsFault x (PinCount l)) s h)
whole_fault cards cs (CircuitCycle n) o s h = (o, subst (λ x. IsCircuitsFault x (CircuitCycle n)) s h)
whole_fault cards cs e o s h = absurd h

pub count_is : (rows : List (Vec ℕ)) (circuits : List CircuitCards) → lists rows ≡ call_lists (map circuit_seen circuits) → length rows ≡ length circuits
count_is rows circuits e =
    let a = length-map rows (λ (row : Vec ℕ). row.items) in
    let b = length-map (map circuit_seen circuits) (λ (c : Circuit). map (called_in (names_of (map circuit_seen circuits))) c.calls) in
    let d = length-map circuits circuit_seen in
    let s : length (lists rows) ≡ length (call_lists (map circuit_seen circuits)) = ap (λ (xs : List (List ℕ)). length xs) e in
    omega arith

-- the circuit at a place where there is one
pub got : (xs : List CircuitCards) (k : ℕ) (r : CircuitCards) (c : Circuit) → slice_get (map circuit_seen xs) k ≡ Some c → r ≡ get_or xs k r
    → slice_get (map circuit_seen xs) k ≡ Some (circuit_seen r)
got [] k r c s e = let z : ⊥ = cc in absurd z
got (x ∷ xs) zero r c s e = ap (λ (z : CircuitCards). let o : Option Circuit = Some (circuit_seen z) in o) (sym e)
got (x ∷ xs) (suc k) r c s e = got xs k r c s e
