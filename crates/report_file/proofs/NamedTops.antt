-- The pairings of a match keep the names of the tops' pins.
use Rattle.std.proofs.Common.{◌≡◌, inl, ℕ, ◌<◌, ◌&&◌, Bool, true, cond, List, [], length, Some, slice_get, refl, sym, ap, subst, ◌∙◌, arith}
use Rattle.std.specs.Prelude.{slice_index, slice_index_or}
use Rattle.std.specs.List.{All}
use Rattle.std.proofs.lemmas.Option.{slice_get-get_or}
use Rattle.net_names.specs.Folding.{folded_bytes}
use Rattle.align_laws.proofs.Kept.{kept_alike}
use Rattle.align_laws.proofs.Sides.{aligned_sides}
use Rattle.align_laws.specs.Aligned.{IsNetAligned, aligned_net}
use Rattle.align_laws.specs.Cut.{Alignment, cut}
use Rattle.align_laws.specs.Partners.{AreSides, IsAlignedPair, IsPair}
use Rattle.composed_laws.proofs.Answered.{answered}
use Rattle.composed_laws.proofs.Pairs.{whole_match}
use Rattle.composed_laws.specs.Answered.{Asked, pair_in}
use Rattle.composed_laws.specs.Composed.{AreNetsPaired}
use Rattle.match_flow.specs.Again.{as_answered}
use Rattle.match_laws.proofs.Images.{listed_any}
use Rattle.match_laws.specs.Answer.{Answer}
use Rattle.match_laws.specs.Circuits.{IsCorrespondence, Pairing, pin_name}
use Rattle.pair_jobs.proofs.Together.{are_matches, carried_pair}
use Rattle.pair_jobs.specs.Answers.{AreAllAnswers, IsMatch, answer_at, pairings_of}
use Rattle.plain_netlist.proofs.Members.{listed, position}
use Rattle.plain_netlist.specs.Flats.{Reversed, Through}
use Rattle.plain_netlist.specs.Lists.{IsListed}
use Rattle.plain_netlist.specs.Netlist.{Circuit, InOneNet, IsCircuit, IsTerminal, Netlist, Slot, slot}
use Rattle.plain_netlist.specs.Sound.{IsGood}
use Rattle.report_file.proofs.AsAnswered.{answered_good, answered_sides, circuit_answered, net_back, net_there, there}
use Rattle.report_file.proofs.PinNames.{pin_back}
use Rattle.report_file.proofs.PinsApart.{one_name}
use Rattle.report_file.specs.PinNames.{HasPinName, folded_name}

-- a pin's name is that of its net
pub told_pin : (c : Circuit) (n : ℕ) → IsListed n c.pins → pin_name true c n ≡ folded_name c n
told_pin c n h = ap (λ (b : Bool). cond (true && b) (folded_bytes (slice_index_or c.nets n [])) []) (listed_any n c.pins h)

module _ (layout schematic : Netlist) (top right_top : ℕ) (same : List (List ℕ × List ℕ)) (left right : Netlist) (v w : Alignment) (p : IsAlignedPair layout schematic top right_top same left right v w) (again : Bool) (asked : Asked) (answers : List Answer)
    (good : IsGood left (λ k. k)) (h : AreAllAnswers (as_answered again left) (as_answered again right) asked answers) (all : All IsMatch answers) (told : asked.told (v.number top) ≡ true) where
  tops : IsPair layout schematic top same right_top top right_top
  tops = record { tops = p.partner; partner = p.partner; called = ([], refl); right_called = ([], refl); devices = inl refl }

  kept : v.kept top ≡ true
  kept = (p.pairs.left_kept top).1 (right_top, tops)

  right_kept : w.kept right_top ≡ true
  right_kept = (p.pairs.right_kept right_top).1 (top, tops)

  abbrev k : ℕ
  k = v.number top

  number : k ≡ w.number right_top
  number = p.pairs.together top right_top tops

  abbrev near : Netlist
  near = as_answered again left

  abbrev far : Netlist
  far = as_answered again right

  sides : AreSides near far
  sides = answered_sides again left right (aligned_sides layout schematic top right_top same left right v w p)

  abbrev pairing : Pairing
  pairing = pairings_of answers k

  module _ (c d : Circuit) (is : IsCircuit left k c) (also : IsCircuit right k d) where
    abbrev one : Circuit
    one = circuit_answered again c

    abbrev other : Circuit
    other = circuit_answered again d

    corresponds : IsCorrespondence (pair_in (asked.told k) near (answer_at answers) one other) pairing
    corresponds =
        let here = there again left k c is in
        carried_pair near far asked answers sides (answered_good again left (λ k2. k2) good) h k one other pairing here (there again right k d also) (are_matches near far asked answers h all k one here)

    named : (n : ℕ) → n < length c.nets → IsListed n c.pins → folded_name c n ≡ folded_name d (slice_index pairing.nets n)
    named n low pin =
        let x = slice_index pairing.nets n in
        sym (told_pin one n pin) ∙ (subst (λ (t : Bool). pin_name t one n ≡ pin_name t other x) told (corresponds.named n low) ∙ told_pin other x ((corresponds.pin n low).0 pin))

    -- the image of a pin, and what stands on it
    on_image : (a x : Slot) (n : ℕ) → n < length c.nets → AreNetsPaired near (pairings_of answers) k a x → InOneNet left k a (slot [] n) → InOneNet right k x (slot [] (slice_index pairing.nets n))
    on_image a x n low paired on =
        let m = answered near far asked (answer_at answers) (pairings_of answers) sides h.each (are_matches near far asked answers h all) in
        let whole = whole_match near far _ (pairings_of answers) m.0 m.1 m.2 k in
        let count = corresponds.nets.count in
        let at : slice_get pairing.nets n ≡ Some (slice_index pairing.nets n) = slice_get-get_or pairing.nets n 0 (omega (arith, count, low)) in
        net_back again right k x (slot [] (slice_index pairing.nets n)) ((whole.nets a (slot [] n) x (slot [] (slice_index pairing.nets n)) paired (one, there again left k c is, at)).0 (net_there again left k a (slot [] n) on))

    of_tops : (a b : Slot) (name other : List ℕ) → IsTerminal layout top a → IsTerminal schematic right_top b
        → AreNetsPaired near (pairings_of answers) k (aligned_net layout left v p.left_aligned top a) (aligned_net schematic right w p.right_aligned right_top b)
        → HasPinName layout top a name → HasPinName schematic right_top b other → name ≡ other
    of_tops a b name other ta tb paired f g =
        let at = position f.circuit.pins f.pin f.listed in
        let on = ((kept_alike layout left v p.left_aligned top kept).pins a ta).0 (at.0, f.pin, (f.circuit, f.is, at.1), f.on) in
        let n = on.1 in
        let pin : slice_get c.pins on.0 ≡ Some n = let e : on.2.0 ≡ c = let x = on.2.1 in cc in subst (λ (z : Circuit). slice_get z.pins on.0 ≡ Some n) e on.2.2 in
        let within = p.left_aligned in
        let low : n < length c.nets = (let z = good.within.pins k on.0 n (c, is, pin) in let e : z.0 ≡ c = (let x = z.1 in cc) in subst (λ (y : Circuit). n < length y.nets) e z.2) in
        let in_pins = listed c.pins on.0 n pin in
        let x = slice_index pairing.nets n in
        let left_name = pin_back layout left v p.left_aligned p.left_only top kept a ta (folded_name c n) (record { circuit = c; is = is; pin = n; listed = in_pins; on = on.3; named = refl }) in
        let on_other = on_image (aligned_net layout left v p.left_aligned top a) (aligned_net schematic right w p.right_aligned right_top b) n low paired on.3 in
        let far : HasPinName right k (aligned_net schematic right w p.right_aligned right_top b) (folded_name d x) = record { circuit = d; is = also; pin = x; listed = (corresponds.pin n low).0 in_pins; on = on_other; named = refl } in
        let right_name = pin_back schematic right w p.right_aligned p.right_only right_top right_kept b tb (folded_name d x)
        (subst (λ (m : ℕ). HasPinName right m (aligned_net schematic right w p.right_aligned right_top b) (folded_name d x)) number far) in
        one_name layout p.left_aligned.by.height p.left_aligned.by.good top a name (folded_name c n) f left_name
        ∙ (named n low in_pins ∙ one_name schematic p.right_aligned.by.height p.right_aligned.by.good right_top b (folded_name d x) other right_name g)

  pub named_tops : (a b : Slot) (name other : List ℕ) → Through (IsNetAligned layout left v p.left_aligned top) (Through (AreNetsPaired near (pairings_of answers) k) (Reversed (IsNetAligned schematic right w p.right_aligned right_top))) a b
      → HasPinName layout top a name → HasPinName schematic right_top b other → name ≡ other
  named_tops a b name other (x, (ta, ea), (y, paired, (tb, eb))) f g =
      let c = p.left_aligned.by.cut_down.there top kept in
      let d = p.right_aligned.by.cut_down.there right_top right_kept in
      of_tops (cut p.left_aligned.by.flat v top) (cut p.right_aligned.by.flat w right_top) c (subst (λ (m : ℕ). IsCircuit right m (cut p.right_aligned.by.flat w right_top)) (sym number) d) a b name other ta tb
      (subst (λ (z : Slot). AreNetsPaired near (pairings_of answers) k z (aligned_net schematic right w p.right_aligned right_top b)) (sym ea)
      (subst (λ (z : Slot). AreNetsPaired near (pairings_of answers) k x z) (sym eb) paired)) f g
