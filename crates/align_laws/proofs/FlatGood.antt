-- The flat netlist is good where the given one is.
use Rattle.std.proofs.Common.{◌≡◌, inl, inr, ℕ, zero, suc, ◌<◌, Bool, List, [], ◌∷◌, map, length, refl, sym, ◌∙◌, ap, subst, arith}
use Rattle.plain_netlist.proofs.Once.{one_call}
use Rattle.plain_netlist.specs.Sound.{IsGood}
use Rattle.plain_netlist.specs.Netlist.{CallRow, Circuit, Netlist, IsCircuit, IsCall}
use Rattle.align_laws.specs.Flat.{Maps, AreInlined, call_through}
use Rattle.align_laws.specs.Lists.{FlatCircuit, plain, AreFlat, maps_of}
use Rattle.align_laws.specs.Words.{FlatGoodLaw}
use Rattle.align_laws.proofs.Listed.{listed}
use Rattle.align_laws.proofs.Held.{lower_calls}

pub long_map : (f : ℕ → ℕ) (xs : List ℕ) → length (map f xs) ≡ length xs
long_map f [] = refl
long_map f (x ∷ xs) = ap suc (long_map f xs)

module _ (g f : Netlist) (goes : ℕ → Bool) (flats : ℕ → FlatCircuit) (height : ℕ → ℕ) (good : IsGood g height) (flat : AreFlat g f goes flats) where
  abbrev v : Maps
  v = maps_of g goes flats

  are : AreInlined g f v height
  are = listed g f goes flats height good flat

  called : (h c e : ℕ) (row : CallRow) → height c < h → IsCall f c e row → (d : Circuit) × IsCircuit f row.circuit d × (length row.nets ≡ length d.pins)
  called zero c e row low call = absurd (let l = low in omega arith)
  called (suc h) c e row low call = elim ((are.each c).calls e row call) [
    | inl (k, given, fate) ↦
        let d = good.called c k row given in
        (plain (flats row.circuit), flat.there row.circuit d.0 d.1, d.2 ∙ ap (λ (z : FlatCircuit). length z.pins) (sym (flat.each row.circuit d.0 d.1)))
    | inr (k, given, i, m, own, is, fate, deep, num) ↦
        let there = ((are.each c).goes k i given is fate).call m own deep in
        let one : call_through i.net own ≡ row = one_call f c e (call_through i.net own) row (subst (λ (n : ℕ). IsCall f c n (call_through i.net own)) num there.0) call in
        let lower = are.lower c k given is in
        let deeper : height given.circuit < h = let a = low in omega arith in
        let d = called h given.circuit m own deeper deep in
        subst (λ (r : CallRow). (d : Circuit) × IsCircuit f r.circuit d × (length r.nets ≡ length d.pins)) one (d.0, d.1, long_map i.net own.nets ∙ d.2)
  ]

  pub good_flat : IsGood f height
  good_flat = record {
    within = are.flat_within;
    lower = lower_calls g f v height are;
    called = λ c k row call. called (suc (height c)) c k row (omega arith) call;
    pins = λ c i n pin. good.pins c i n (((are.each c).pins i n).1 pin);
  }

pub flat_is_good : FlatGoodLaw
flat_is_good g f goes flats height good flat = good_flat g f goes flats height good flat
