-- Calls of a flat circuit are inner paths followed by a call that stays.
use Rattle.std.proofs.Common.{◌≡◌, inl, inr, ℕ, zero, suc, ◌<◌, List, [], ◌∷◌, ◌++◌, refl, sym, ◌∙◌, ap, subst, arith}
use Rattle.plain_netlist.proofs.Once.{one_call}
use Rattle.plain_netlist.specs.Netlist.{CallRow, Netlist, IsCall, Slot, slot}
use Rattle.align_laws.specs.Flat.{Maps, image, placed_device, AreInlined, call_through}
use Rattle.align_laws.specs.Words.{IsWay, AreCallsInside, InnerCallLaw}
use Rattle.align_laws.proofs.Flatten.{way_image}

module _ (g f : Netlist) (v : Maps) (height : ℕ → ℕ) (are : AreInlined g f v height) where
  each : (h c e : ℕ) (row : CallRow) → height c < h → IsCall f c e row → IsWay g v c (v.way c e) row.circuit
  each zero c e row low call = absurd (let l = low in omega arith)
  each (suc h) c e row low call = elim ((are.each c).calls e row call) [
    | inl (k, given, fate) ↦
        let w = ((are.each c).stays k e row given fate).1 in
        let here : IsWay g v c (k ∷ []) row.circuit = inl (refl, (row, e, given, fate, refl)) in
        subst (λ (q : List ℕ). IsWay g v c q row.circuit) (sym w) here
    | inr (k, given, i, m, own, is, fate, deep, num) ↦
        let there = ((are.each c).goes k i given is fate).call m own deep in
        let one : call_through i.net own ≡ row = one_call f c e (call_through i.net own) row (subst (λ (n : ℕ). IsCall f c n (call_through i.net own)) num there.0) call in
        let lower = are.lower c k given is in
        let deeper : height given.circuit < h = let a = low in omega arith in
        let w : v.way c e ≡ k ∷ v.way given.circuit m = subst (λ (x : ℕ). v.way c x ≡ k ∷ v.way given.circuit m) num there.1 in
        let here : IsWay g v c (k ∷ v.way given.circuit m) own.circuit = inr (given, is, i, fate, each h given.circuit m own deeper deep) in
        subst (λ (q : List ℕ). IsWay g v c q row.circuit) (sym w) (subst (λ (r : CallRow). IsWay g v c (k ∷ v.way given.circuit m) r.circuit) one here)
  ]

  found : (path : List ℕ) (c t : ℕ) → IsWay g v c path t → (e : ℕ) × (row : CallRow) × IsCall f c e row × (v.way c e ≡ path) × (row.circuit ≡ t)
  found [] c t h = absurd h
  found (k ∷ ks) c t (inl (last, (row, e, call, fate, is))) =
      let r = (are.each c).stays k e row call fate in
      (e, row, r.0, r.1 ∙ ap (λ (q : List ℕ). k ∷ q) (sym last), is)
  found (k ∷ ks) c t (inr (row, call, i, fate, h)) =
      let r = found ks row.circuit t h in
      let d = ((are.each c).goes k i row call fate).call r.0 r.1 r.2 in
      (i.call r.0, call_through i.net r.1, d.0, d.1 ∙ ap (λ (q : List ℕ). k ∷ q) r.3, r.4)

  once : (c d e : ℕ) (a b : CallRow) → IsCall f c d a → IsCall f c e b → v.way c d ≡ v.way c e → d ≡ e
  once c d e a b x y same =
      let p = way_image g f v height are (suc (height c)) c d a [] 0 (omega arith) x in
      let q = way_image g f v height are (suc (height c)) c e b [] 0 (omega arith) y in
      let all : slot (d ∷ []) 0 ≡ slot (e ∷ []) 0 = sym p ∙ (ap (λ (w : List ℕ). image v placed_device c (w ++ []) 0) same ∙ q) in
      let paths : d ∷ [] ≡ e ∷ [] = ap (λ (s : Slot). s.path) all in
      cc

  pub calls_inside : (c : ℕ) → AreCallsInside g f v c
  calls_inside c = record {
    each = λ e row call. each (suc (height c)) c e row (omega arith) call;
    found = λ path t h. found path c t h;
    once = once c;
  }

pub inner_calls : InnerCallLaw
inner_calls g f v height are c = calls_inside g f v height are c
