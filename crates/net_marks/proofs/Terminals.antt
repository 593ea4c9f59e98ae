-- Nets with terminals, as marks.
use Rattle.std.proofs.Common.{◌≡◌, ℕ, zero, suc, ◌+◌, ◌<◌, ◌==◌, ◌||◌, Bool, true, false, List, [], ◌∷◌, ◌++◌, map, take, get_or, length, refl, sym, ◌∙◌, ap, arith}
use Rattle.std.specs.List.{list_any}
use Rattle.std.proofs.lemmas.Bool.{eq-eqb, or_right, or_left}
use Rattle.std.proofs.lemmas.List.{map_push, take_more}
use Rattle.std.proofs.lemmas.List.Folds.{list_any-append, list_any_more}
use Rattle.std.proofs.Math.Seq.{take-length}
use Rattle.deep_tables.specs.Gates.{plain_gate, plain_state}
use Rattle.deep_tables.specs.declared.gates.Gate.{Gate}
use Rattle.flat_layout.specs.GateTables.{GateEntry}
use Rattle.net_model.proofs.FirstLemmas.{any_listed}
use Rattle.plain_netlist.specs.Lists.{IsListed}
use Rattle.net_marks.specs.Marks.{has_terminal, is_terminal}

-- after n nets
pub record AreNetsMarked (old : List Bool) (nets : List ℕ) (n : ℕ) (new : List Bool) : Type 0 where
  pub count : length new ≡ length old
  pub marked : (x : ℕ) → get_or new x false ≡ (list_any (λ k. x == k) (take n nets) || get_or old x false)

or_turn : (t f o : Bool) → (t || (f || o)) ≡ ((f || t) || o)
or_turn true true o = refl
or_turn true false o = refl
or_turn false true o = refl
or_turn false false o = refl

pub nets_more : (old mid new : List Bool) (nets : List ℕ) (n net : ℕ) → n < length nets → net ≡ get_or nets n 0 → length new ≡ length mid → ((x : ℕ) → get_or new x false ≡ ((x == net) || get_or mid x false))
    → AreNetsMarked old nets n mid → AreNetsMarked old nets (n + 1) new
nets_more old mid new nets n net lt is long added h = record {
  count = long ∙ h.count;
  marked = λ x.
      let test : ℕ → Bool = λ k. x == k in
      let more : list_any test (take (n + 1) nets) ≡ (list_any test (take n nets) || (x == net)) = list_any_more test nets n 0 lt ∙ ap (λ k. list_any test (take n nets) || (x == k)) (sym is) in
      added x ∙ ap (λ (b : Bool). (x == net) || b) (h.marked x) ∙ or_turn (x == net) (list_any test (take n nets)) (get_or old x false) ∙ sym (ap (λ (b : Bool). b || get_or old x false) more);
}

pub nets_all : (old new : List Bool) (nets : List ℕ) (n : ℕ) → n ≡ length nets → AreNetsMarked old nets n new → (x : ℕ) → get_or new x false ≡ (list_any (λ k. x == k) nets || get_or old x false)
nets_all old new nets n e h x = h.marked x ∙ ap (λ (l : List ℕ). list_any (λ k. x == k) l || get_or old x false) (ap (λ (k : ℕ). take k nets) e ∙ take-length nets)

-- a net of the list passes
pub passes : (nets : List ℕ) (x : ℕ) → IsListed x nets → list_any (λ k. x == k) nets ≡ true
passes nets x h = any_listed (λ k. x == k) nets x h (eq-eqb x x refl)

-- after n gates
pub record AreMarkedTo (old : List Bool) (gates : List Gate) (n : ℕ) (new : List Bool) : Type 0 where
  pub count : length new ≡ length old
  pub marked : (x : ℕ) → get_or new x false ≡ (has_terminal x (map plain_gate (take n gates)) || get_or old x false)

or_shift : (t h o : Bool) → (t || (h || o)) ≡ ((h || (t || false)) || o)
or_shift true true o = refl
or_shift true false o = refl
or_shift false true o = refl
or_shift false false o = refl

pub marked_more : (old mid new : List Bool) (gates : List Gate) (n : ℕ) (gate : Gate) → n < length gates → gate ≡ get_or gates n gate → length new ≡ length mid → ((x : ℕ) → get_or new x false ≡ (is_terminal x (plain_state gate.state) || get_or mid x false))
    → AreMarkedTo old gates n mid → AreMarkedTo old gates (n + 1) new
marked_more old mid new gates n gate lt is long added h = record {
  count = long ∙ h.count;
  marked = λ x.
      let first = take n gates in
      let test : GateEntry → Bool = λ e. is_terminal x e.verdict in
      let split : take (n + 1) gates ≡ first ++ gate ∷ [] = take_more gates n gate lt ∙ ap (λ (g : Gate). first ++ g ∷ []) (sym is) in
      let more : has_terminal x (map plain_gate (take (n + 1) gates)) ≡ (has_terminal x (map plain_gate first) || (is_terminal x (plain_state gate.state) || false)) =
      ap (λ (l : List Gate). has_terminal x (map plain_gate l)) split ∙ ap (has_terminal x) (map_push plain_gate first gate) ∙ list_any-append test (map plain_gate first) (plain_gate gate ∷ []) in
      added x ∙ ap (λ (b : Bool). is_terminal x (plain_state gate.state) || b) (h.marked x)
      ∙ or_shift (is_terminal x (plain_state gate.state)) (has_terminal x (map plain_gate first)) (get_or old x false)
      ∙ sym (ap (λ (b : Bool). b || get_or old x false) more);
}

pub marked_all : (old new : List Bool) (gates : List Gate) (n : ℕ) → n ≡ length gates → AreMarkedTo old gates n new → (x : ℕ) → get_or new x false ≡ (has_terminal x (map plain_gate gates) || get_or old x false)
marked_all old new gates n e h x = h.marked x ∙ ap (λ (l : List Gate). has_terminal x (map plain_gate l) || get_or old x false) (ap (λ (k : ℕ). take k gates) e ∙ take-length gates)

-- a listed gate's terminals are the list's
pub terminal_of : (x : ℕ) (gates : List Gate) (n : ℕ) (gate : Gate) → n < length gates → is_terminal x (plain_state (get_or gates n gate).state) ≡ true → has_terminal x (map plain_gate gates) ≡ true
terminal_of x [] n gate lt h = absurd (omega arith)
terminal_of x (g ∷ gates) zero gate lt h = or_left (is_terminal x (plain_state g.state)) (has_terminal x (map plain_gate gates)) h
terminal_of x (g ∷ gates) (suc n) gate lt h = or_right (is_terminal x (plain_state g.state)) (has_terminal x (map plain_gate gates)) (terminal_of x gates n gate (omega arith) h)
