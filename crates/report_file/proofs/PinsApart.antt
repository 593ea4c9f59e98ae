-- A net of a good circuit is on one pin at most.
use Rattle.std.proofs.Common.{◌≡◌, ℕ, ◌==◌, Bool, true, false, List, [], ◌∷◌, ◌++◌, Some, slice_get, refl, sym, ap, subst, ◌∙◌}
use Rattle.std.proofs.lemmas.Bool.Decides.{Decides-eqb}
use Rattle.std.proofs.lemmas.List.{same_from_push}
use Rattle.align_laws.proofs.Anchor.{held_root}
use Rattle.align_laws.proofs.Joined.{net_back, net_on}
use Rattle.plain_netlist.proofs.Once.{one_call, one_circuit}
use Rattle.plain_netlist.specs.Netlist.{CallRow, Circuit, InOneNet, IsJoin, IsPin, Joins, Netlist, Slot, slot}
use Rattle.plain_netlist.specs.Sound.{IsGood}
use Rattle.report_file.specs.PinNames.{HasPinName, folded_name}

module _ (nl : Netlist) (height : ℕ → ℕ) (good : IsGood nl height) where
  above_one : (path : List ℕ) (c k a b inner : ℕ) → Joins nl c path a k inner → Joins nl c path b k inner → a ≡ b
  above_one [] c k a b inner (row, call, called, at, p, net, pin) (row', call', called', at', p', net', pin') =
      let one : row' ≡ row = one_call nl c k row' row call' call in
      let low : IsPin nl row.circuit p' inner = subst (λ (r : CallRow). IsPin nl r.circuit p' inner) one (called', at', pin') in
      let same : p' ≡ p = sym (good.pins row.circuit p' inner low) ∙ good.pins row.circuit p inner (called, at, pin) in
      let here : slice_get row.nets p ≡ Some b = subst (λ (x : ℕ). slice_get row.nets x ≡ Some b) same (subst (λ (r : CallRow). slice_get r.nets p' ≡ Some b) one net') in
      cc
  above_one (j ∷ js) c k a b inner (row, call, rest) (row', call', rest') =
      above_one js row.circuit k a b inner rest (subst (λ (r : CallRow). Joins nl r.circuit js b k inner) (one_call nl c j row' row call' call) rest')

  join_one : (c : ℕ) (u w s : Slot) → IsJoin nl c u s → IsJoin nl c w s → u ≡ w
  join_one c u w s h g =
      let e = same_from_push u.path w.path h.number g.number (h.deeper ∙ sym g.deeper) in
      let there : Joins nl c u.path w.net h.number s.net =
      subst (λ (k : ℕ). Joins nl c u.path w.net k s.net) (sym e.1) (subst (λ (q : List ℕ). Joins nl c q w.net g.number s.net) (sym e.0) g.joins) in
      ap (λ (q : List ℕ). slot q u.net) e.0 ∙ ap (slot w.path) (above_one u.path c h.number u.net w.net s.net h.joins there)

  abbrev is_net : ℕ → List ℕ → ℕ → Bool
  is_net m [] n = n == m
  is_net m (k ∷ ks) n = false

  not_below : (m n k : ℕ) (us ss : List ℕ) → us ++ k ∷ [] ≡ ss → is_net m ss n ≡ true → ⊥
  not_below m n k [] [] e h = cc
  not_below m n k (u ∷ us) [] e h = cc
  not_below m n k us (s ∷ ss) e h = cc

  one_root : (c m n : ℕ) → InOneNet nl c (slot [] m) (slot [] n) → n ≡ m
  one_root c m n h =
      (Decides-eqb n m).0 (held_root (IsJoin nl c) (λ (s : Slot). is_net m s.path s.net) (join_one c)
      (λ u s j t. absurd (not_below m s.net j.number u.path s.path j.deeper t)) (slot [] m) (slot [] n) ((Decides-eqb m m).1 refl) h
      (λ u j. not_below m m j.number u.path [] j.deeper ((Decides-eqb m m).1 refl)))

  pub one_name : (c : ℕ) (s : Slot) (name other : List ℕ) → HasPinName nl c s name → HasPinName nl c s other → name ≡ other
  one_name c s name other h k =
      let pin : k.pin ≡ h.pin = one_root c h.pin k.pin (net_on nl c (slot [] h.pin) s (slot [] k.pin) (net_back nl c s (slot [] h.pin) h.on) k.on) in
      sym h.named ∙ (ap (λ (x : Circuit). folded_name x h.pin) (one_circuit nl c h.circuit k.circuit h.is k.is) ∙ (ap (folded_name k.circuit) (sym pin) ∙ k.named))
