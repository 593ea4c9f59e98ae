-- Where the pair of the tops differs and calls nothing, layout and schematic correspond in no way.
use Rattle.std.proofs.Common.{◌≡◌, ◌↔◌, inl, inr, ℕ, ◌&&◌, Bool, true, false, cond, List, [], length, Some, slice_get, refl, sym, ap, subst, ◌∙◌, arith, true≢false}
use Rattle.base_laws.proofs.Items.{item_at}
use Rattle.std.specs.List.{Any, list_any}
use Rattle.std.proofs.lemmas.Bool.{cases_Bool}
use Rattle.std.proofs.lemmas.Option.{slice_get-get_or, get_or_from_slice_get}
use Rattle.align_laws.proofs.Joined.{net_same}
use Rattle.align_laws.proofs.Kept.{aligned_corresponds}
use Rattle.align_laws.specs.Aligned.{IsDeviceAligned, IsNetAligned}
use Rattle.align_laws.specs.Cut.{Alignment}
use Rattle.align_laws.specs.Partners.{AreSides, IsAlignedPair}
use Rattle.composed_laws.specs.Answered.{Asked, pair_in}
use Rattle.match_flow.specs.Again.{as_answered}
use Rattle.match_laws.proofs.Images.{any_listed, listed_any}
use Rattle.match_laws.specs.Answer.{Answer, IsDifference, Skipped}
use Rattle.match_laws.specs.Circuits.{is_pin, pin_name}
use Rattle.merge_laws.specs.Grouped.{merged_netlist}
use Rattle.merge_laws.specs.Leaves.{IsUnlikeLeaf}
use Rattle.merge_laws.specs.Merge.{merged}
use Rattle.net_align.specs.Compared.{AreCalleesFirst}
use Rattle.pair_jobs.specs.Answers.{AreAllAnswers, KeptPairLaw, answer_at}
use Rattle.pair_turns.specs.Going.{AreGoing}
use Rattle.plain_netlist.proofs.Alike.{reversed, through}
use Rattle.plain_netlist.specs.Flats.{Corresponds, expanded, Reversed, Through}
use Rattle.plain_netlist.specs.Lists.{IsListed}
use Rattle.plain_netlist.specs.Netlist.{Circuit, IsOnPin, Netlist, Slot, slot}
use Rattle.report_file.proofs.AsAnswered.{answered_order, circuit_answered, there}
use Rattle.report_file.proofs.Compared.{HaveOrder}
use Rattle.report_file.proofs.LastPair.{last_is_top, leaf_of, partner_kept, top_kept, tops}
use Rattle.report_file.proofs.LeafMade.{made_leaf}
use Rattle.report_file.proofs.LeafPair.{IsLeaf, leaf_pair, on_pin, pin_on}
use Rattle.report_file.proofs.MergedLeaf.{DevicesAgain, again as again_leaf, answered_leaf, unlike}
use Rattle.report_file.proofs.NamedTops.{told_pin}
use Rattle.report_file.proofs.PinNames.{pin_back}
use Rattle.report_file.specs.PinNames.{AreNamesKept, HasPinName, folded_name}

-- ---- two circuits that call nothing and correspond have no answer that differs

module _ (kept : KeptPairLaw) (told : Bool) (asked : Asked) (left right : Netlist) (again : Bool) (order : HaveOrder left right) (answers : List Answer) (are : AreAllAnswers (as_answered again left) (as_answered again right) asked answers)
    (k : ℕ) (c d : Circuit) (l : IsLeaf left k c) (h : IsLeaf right k d) (D N : Slot → Slot → Type 0) (whole : Corresponds (expanded (as_answered again left) k) (expanded (as_answered again right) k) D N)
    (names : told ≡ true → (n x : ℕ) → IsListed n c.pins → IsListed x d.pins → N (slot [] n) (slot [] x) → folded_name c n ≡ folded_name d x) (is_told : asked.told k ≡ true → told ≡ true) where
  abbrev near : Netlist
  near = as_answered again left

  abbrev far : Netlist
  far = as_answered again right

  abbrev one : Circuit
  one = circuit_answered again c

  abbrev other : Circuit
  other = circuit_answered again d

  near_leaf : IsLeaf near k one
  near_leaf = answered_leaf left k c l again

  far_leaf : IsLeaf far k other
  far_leaf = answered_leaf right k d h again

  both : (n x : ℕ) → N (slot [] n) (slot [] x) → IsOnPin near k (slot [] n) ↔ IsOnPin far k (slot [] x)
  both n x goes = whole.pins (slot [] n) (slot [] x) goes

  named : (t : Bool) → (t ≡ true → told ≡ true) → (n x : ℕ) → N (slot [] n) (slot [] x) → pin_name t one n ≡ pin_name t other x
  named false on n x goes = refl
  named true on n x goes = elim (cases_Bool (is_pin one n)) [
    | inl set ↦
        let in_left = any_listed n one.pins set in
        let in_right = on_pin far k other far_leaf x ((both n x goes).0 (pin_on near k one near_leaf n in_left)) in
        told_pin one n in_left ∙ (names (on refl) n x in_left in_right goes ∙ sym (told_pin other x in_right))
    | inr unset ↦ elim (cases_Bool (is_pin other x)) [
      | inl set ↦ absurd (true≢false (sym (listed_any n one.pins (on_pin near k one near_leaf n ((both n x goes).1 (pin_on far k other far_leaf x (any_listed x other.pins set))))) ∙ unset))
      | inr also ↦ ap (λ (b : Bool). cond (true && b) (folded_name one n) []) unset ∙ sym (ap (λ (b : Bool). cond (true && b) (folded_name other x) []) also)
    ]
  ]

  no_difference : IsDifference (answer_at answers k) → ⊥
  no_difference differs =
      let o = answered_order again left right order in
      let pairing = leaf_pair near far k one other near_leaf far_leaf D N whole (pair_in (asked.told k) near (answer_at answers) one other) refl refl
      (λ n x low lower goes. named (asked.told k) is_told n x goes) in
      kept near far asked answers o.sides o.good are k one other pairing.0 (there again left k c l.circuit) (there again right k d h.circuit) pairing.1 differs

-- ---- the pair that differs is that of the tops

-- the aligned tops call nothing, and their answer is a difference
pub record AreTopsApart (left right : Netlist) (near far : ℕ) (answers : List Answer) : Type 0 where
  pub k : ℕ
  pub one : Circuit
  pub other : Circuit
  pub left_leaf : IsLeaf left k one
  pub right_leaf : IsLeaf right k other
  pub near_is : near ≡ k
  pub far_is : far ≡ k
  pub differs : IsDifference (answer_at answers k)

pub tops_apart : (layout schematic : Netlist) (top partner : ℕ) (same : List (List ℕ × List ℕ)) (left right : Netlist) (v w : Alignment) (p : IsAlignedPair layout schematic top partner same left right v w) → AreCalleesFirst layout → AreSides left right
    → (answers : List Answer) → length answers ≡ length left.circuits → (goes : List Bool) → AreGoing left right answers goes → list_any (λ (g : Bool). g) goes ≡ false → Any IsDifference answers
    → AreTopsApart left right (v.number top) (w.number partner) answers
tops_apart layout schematic top partner same left right v w p first sides answers count goes going none any =
    let k = any.0 in
    let low = any.2 in
    let at : slice_get answers k ≡ Some any.1 = slice_get-get_or answers k any.1 low ∙ ap Some any.3 in
    let one = item_at left.circuits k (omega (arith, low, count)) in
    let other = sides.there k one.0 one.1 in
    let leaf = leaf_of left right answers goes going none k one.0 other.0 any.1 one.1 other.1 at any.4 in
    let last = leaf.last in
    let here = last_is_top layout schematic top partner same left right v w p first k one.0 one.1 (omega (arith, last, count)) in
    record {
      k = k;
      one = one.0;
      other = other.0;
      left_leaf = made_leaf layout left v p.left_aligned p.left_only k one.0 one.1 leaf.left;
      right_leaf = made_leaf schematic right w p.right_aligned p.right_only k other.0 other.1 leaf.right;
      near_is = here;
      far_is = sym (p.pairs.together top partner (tops layout schematic top partner same left right v w p first)) ∙ here;
      differs = subst IsDifference (sym (get_or_from_slice_get answers k any.1 (Skipped k) at)) any.4;
    }

-- ---- what corresponds below the given tops does below the aligned ones

module _ (layout schematic : Netlist) (top partner : ℕ) (same : List (List ℕ × List ℕ)) (left right : Netlist) (v w : Alignment) (p : IsAlignedPair layout schematic top partner same left right v w) (first : AreCalleesFirst layout)
    (told : Bool) (asked : Asked) (is_told : (k : ℕ) → asked.told k ≡ true → told ≡ true) (kept : KeptPairLaw) (order : HaveOrder left right) (answers : List Answer) (apart : AreTopsApart left right (v.number top) (w.number partner) answers)
    (devices nets : Slot → Slot → Type 0) (names : told ≡ true → AreNamesKept layout top schematic partner (λ (a x : Slot). a ≡ x) nets) where
  abbrev dl : Slot → Slot → Type 0
  dl = IsDeviceAligned layout left v p.left_aligned top

  abbrev nl : Slot → Slot → Type 0
  nl = IsNetAligned layout left v p.left_aligned top

  abbrev dr : Slot → Slot → Type 0
  dr = IsDeviceAligned schematic right w p.right_aligned partner

  abbrev nr : Slot → Slot → Type 0
  nr = IsNetAligned schematic right w p.right_aligned partner

  abbrev N : Slot → Slot → Type 0
  N = Through (Through (Reversed nl) nets) nr

  top_is_kept : v.kept top ≡ true
  top_is_kept = top_kept layout schematic top partner same left right v w p first

  partner_is_kept : w.kept partner ≡ true
  partner_is_kept = partner_kept layout schematic top partner same left right v w p first

  -- names of pins are kept in the aligned tops
  names_kept : told ≡ true → (n x : ℕ) → IsListed n apart.one.pins → IsListed x apart.other.pins → N (slot [] n) (slot [] x) → folded_name apart.one n ≡ folded_name apart.other x
  names_kept on n x i j (b, (a, (ta, ea), passes), (tb, eb)) =
      let begins : HasPinName left apart.k (slot [] n) (folded_name apart.one n) = record { circuit = apart.one; is = apart.left_leaf.circuit; pin = n; listed = i; on = net_same left apart.k (slot [] n) (slot [] n) refl; named = refl } in
      let ends : HasPinName right apart.k (slot [] x) (folded_name apart.other x) = record { circuit = apart.other; is = apart.right_leaf.circuit; pin = x; listed = j; on = net_same right apart.k (slot [] x) (slot [] x) refl; named = refl } in
      names on a b a (folded_name apart.one n) (folded_name apart.other x) refl passes
      (pin_back layout left v p.left_aligned p.left_only top top_is_kept a ta (folded_name apart.one n)
      (subst (λ (s : Slot). HasPinName left (v.number top) s (folded_name apart.one n)) (sym ea) (subst (λ (q : ℕ). HasPinName left q (slot [] n) (folded_name apart.one n)) (sym apart.near_is) begins)))
      (pin_back schematic right w p.right_aligned p.right_only partner partner_is_kept b tb (folded_name apart.other x)
      (subst (λ (s : Slot). HasPinName right (w.number partner) s (folded_name apart.other x)) (sym eb) (subst (λ (q : ℕ). HasPinName right q (slot [] x) (folded_name apart.other x)) (sym apart.far_is) ends)))

  -- so where they correspond, nothing differs
  never : (again : Bool) → AreAllAnswers (as_answered again left) (as_answered again right) asked answers → (D : Slot → Slot → Type 0)
      → Corresponds (expanded (as_answered again left) (v.number top)) (expanded (as_answered again right) (w.number partner)) D N → ⊥
  never again are D whole =
      let near = as_answered again left in
      let far = as_answered again right in
      let moved : Corresponds (expanded near apart.k) (expanded far apart.k) D N =
      subst (λ (n : ℕ). Corresponds (expanded near n) (expanded far apart.k) D N) apart.near_is (subst (λ (n : ℕ). Corresponds (expanded near (v.number top)) (expanded far n) D N) apart.far_is whole) in
      no_difference kept told asked left right again order answers are apart.k apart.one apart.other apart.left_leaf apart.right_leaf D N moved names_kept (is_told apart.k) apart.differs

  -- of the netlists as they are
  pub once_nowhere : (again : Bool) → again ≡ false → AreAllAnswers (as_answered again left) (as_answered again right) asked answers → Corresponds (expanded layout top) (expanded schematic partner) devices nets → ⊥
  once_nowhere true e are match = absurd (true≢false e)
  once_nowhere false e are match =
      let L = expanded left (v.number top) in
      let E = expanded layout top in
      let S = expanded schematic partner in
      let R = expanded right (w.number partner) in
      let up = reversed E L dl nl (aligned_corresponds layout left v p.left_aligned top top_is_kept) in
      let down = aligned_corresponds schematic right w p.right_aligned partner partner_is_kept in
      let one = through L E S (Reversed dl) (Reversed nl) devices nets up match in
      never false are (Through (Through (Reversed dl) devices) dr) (through L S R (Through (Reversed dl) devices) (Through (Reversed nl) nets) dr nr one down)

-- and of merged ones, of what they were before, merged
pub again_nowhere : (layout schematic : Netlist) (top partner : ℕ) (same : List (List ℕ × List ℕ)) (left right : Netlist) (v w : Alignment) (p : IsAlignedPair (merged_netlist layout) (merged_netlist schematic) top partner same left right v w)
    → AreCalleesFirst (merged_netlist layout) → (told : Bool) (asked : Asked) → ((k : ℕ) → asked.told k ≡ true → told ≡ true) → KeptPairLaw → HaveOrder left right → (answers : List Answer)
    → AreTopsApart left right (v.number top) (w.number partner) answers → (devices nets : Slot → Slot → Type 0) → (told ≡ true → AreNamesKept (merged_netlist layout) top (merged_netlist schematic) partner (λ (a x : Slot). a ≡ x) nets)
    → AreAllAnswers (merged_netlist left) (merged_netlist right) asked answers → Corresponds (merged (expanded layout top)) (merged (expanded schematic partner)) devices nets → ⊥
again_nowhere layout schematic top partner same left right v w p first told asked is_told kept order answers apart devices nets names are match =
    let ml = merged_netlist layout in
    let ms = merged_netlist schematic in
    let none = subst (λ (n : ℕ). IsUnlikeLeaf (merged_netlist left) n) (sym apart.near_is) (unlike left apart.k apart.one apart.left_leaf) in
    let also = subst (λ (n : ℕ). IsUnlikeLeaf (merged_netlist right) n) (sym apart.far_is) (unlike right apart.k apart.other apart.right_leaf) in
    let l_kept = top_kept ml ms top partner same left right v w p first in
    let r_kept = partner_kept ml ms top partner same left right v w p first in
    let nl = IsNetAligned ml left v p.left_aligned top in
    let nr = IsNetAligned ms right w p.right_aligned partner in
    let DA = DevicesAgain layout left v p.left_aligned top l_kept none in
    let DB = DevicesAgain schematic right w p.right_aligned partner r_kept also in
    let L = expanded (merged_netlist left) (v.number top) in
    let G = merged (expanded layout top) in
    let H = merged (expanded schematic partner) in
    let R = expanded (merged_netlist right) (w.number partner) in
    let up = again_leaf layout left v p.left_aligned top l_kept none in
    let down : Corresponds H R (Reversed DB) nr = reversed R H DB (Reversed nr) (again_leaf schematic right w p.right_aligned partner r_kept also) in
    let one = through L G H DA (Reversed nl) devices nets up match in
    never ml ms top partner same left right v w p first told asked is_told kept order answers apart devices nets names true are (Through (Through DA devices) (Reversed DB))
    (through L H R (Through DA devices) (Through (Reversed nl) nets) (Reversed DB) nr one down)
