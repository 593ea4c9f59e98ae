-- What the netlists that were merged once more correspond by, the flat layout and the flattened schematic do, merged.
use Rattle.std.proofs.Common.{◌≡◌, inl, ℕ, List, [], refl, sym, subst}
use Rattle.align_laws.proofs.Kept.{aligned_corresponds}
use Rattle.align_laws.proofs.Sides.{aligned_sides}
use Rattle.align_laws.specs.Aligned.{IsDeviceAligned, IsNetAligned}
use Rattle.align_laws.specs.Cut.{Alignment}
use Rattle.align_laws.specs.Partners.{IsAlignedPair, IsPair}
use Rattle.composed_laws.proofs.Answered.{answered}
use Rattle.composed_laws.proofs.Pairs.{composes}
use Rattle.composed_laws.specs.Answered.{AreAnswers, AreMatches, Asked}
use Rattle.composed_laws.specs.Composed.{AreDevicesPaired, AreNetsPaired}
use Rattle.headline_laws.proofs.Merged.{merged_by, nets_as}
use Rattle.headline_laws.specs.Again.{AreDevicesPairedAgain, MergedAgainLaw}
use Rattle.match_laws.specs.Answer.{Answer}
use Rattle.match_laws.specs.Circuits.{Pairing}
use Rattle.merge_laws.proofs.Expands.{merged_expands}
use Rattle.merge_laws.proofs.Flats.{merged_same}
use Rattle.merge_laws.proofs.Sides.{merged_sides}
use Rattle.merge_laws.specs.Grouped.{IsMadeOf, merged_netlist}
use Rattle.merge_laws.specs.Merge.{merged}
use Rattle.plain_netlist.proofs.Alike.{reversed, through}
use Rattle.plain_netlist.specs.Flats.{Corresponds, expanded, Reversed, Through}
use Rattle.plain_netlist.specs.Netlist.{Netlist, Slot}

module _ (layout schematic : Netlist) (top right_top : ℕ) (same : List (List ℕ × List ℕ)) (left right : Netlist) (v w : Alignment) (p : IsAlignedPair layout schematic top right_top same left right v w)
    (asked : Asked) (answers : ℕ → Answer) (pairings : ℕ → Pairing) (are : AreAnswers (merged_netlist left) (merged_netlist right) asked answers) (all : AreMatches (merged_netlist left) answers pairings) where
  abbrev one : Slot → Slot → Type 0
  one a x = a ≡ x

  abbrev k : ℕ
  k = v.number top

  abbrev paired : Slot → Slot → Type 0
  paired = AreDevicesPaired (merged_netlist left) pairings k

  abbrev joined : Slot → Slot → Type 0
  joined = AreNetsPaired (merged_netlist left) pairings k

  tops : IsPair layout schematic top same right_top top right_top
  tops = record { tops = p.partner; partner = p.partner; called = ([], refl); right_called = ([], refl); devices = inl refl }

  -- below the tops of the aligned netlists
  between : Corresponds (merged (expanded left k)) (merged (expanded right k)) (AreDevicesPairedAgain left right pairings k) joined
  between =
      let near = expanded (merged_netlist left) k in
      let far = expanded (merged_netlist right) k in
      let L = merged (expanded left k) in
      let R = merged (expanded right k) in
      let m = answered (merged_netlist left) (merged_netlist right) asked answers pairings (merged_sides left right (aligned_sides layout schematic top right_top same left right v w p)) are all in
      let first = reversed (merged near) L (IsMadeOf left k) one (merged_expands left k) in
      let second = merged_same near far paired joined (composes (merged_netlist left) (merged_netlist right) _ pairings m.0 m.1 m.2 k) in
      let last = through (merged near) (merged far) R paired joined (IsMadeOf right k) one second (merged_expands right k) in
      let whole = through L (merged near) R (Reversed (IsMadeOf left k)) (Reversed one) (Through paired (IsMadeOf right k)) (Through joined one) first last in
      nets_as L R (AreDevicesPairedAgain left right pairings k) (Through (Reversed one) (Through joined one)) joined
      (λ a x (m2, e, (o, h, q)). subst (λ (z : Slot). joined a z) q (subst (λ (z : Slot). joined z o) e h))
      (λ a x h. (a, refl, (x, h, refl))) whole

  -- and below those of the given ones
  pub again_tops : Corresponds (merged (expanded layout top)) (merged (expanded schematic right_top))
      (Through (IsDeviceAligned layout left v p.left_aligned top) (Through (AreDevicesPairedAgain left right pairings k) (Reversed (IsDeviceAligned schematic right w p.right_aligned right_top))))
      (Through (IsNetAligned layout left v p.left_aligned top) (Through joined (Reversed (IsNetAligned schematic right w p.right_aligned right_top))))
  again_tops =
      let dl = IsDeviceAligned layout left v p.left_aligned top in
      let nl = IsNetAligned layout left v p.left_aligned top in
      let dr = IsDeviceAligned schematic right w p.right_aligned right_top in
      let nr = IsNetAligned schematic right w p.right_aligned right_top in
      let G = expanded layout top in
      let L = expanded left k in
      let R = expanded right k in
      let S = expanded schematic right_top in
      let up = merged_same G L dl nl (aligned_corresponds layout left v p.left_aligned top ((p.pairs.left_kept top).1 (right_top, tops))) in
      let there : Corresponds S R dr nr = subst (λ (n : ℕ). Corresponds S (expanded right n) dr nr) (sym (p.pairs.together top right_top tops)) (aligned_corresponds schematic right w p.right_aligned right_top ((p.pairs.right_kept right_top).1 (top, tops))) in
      let down = merged_same R S (Reversed dr) (Reversed nr) (reversed S R dr nr there) in
      let last = through (merged L) (merged R) (merged S) (AreDevicesPairedAgain left right pairings k) joined (Reversed dr) (Reversed nr) between down in
      through (merged G) (merged L) (merged S) dl nl (Through (AreDevicesPairedAgain left right pairings k) (Reversed dr)) (Through joined (Reversed nr)) up last

pub merged_again : MergedAgainLaw
merged_again d w t g layout rules unit level right top is schematic right_top same left far v c p asked answers pairings are all =
    merged_by d w t g layout rules unit level right top is schematic right_top
    (Through (IsDeviceAligned (merged_netlist layout) left v p.left_aligned top) (Through (AreDevicesPairedAgain left far pairings (v.number top)) (Reversed (IsDeviceAligned (merged_netlist schematic) far c p.right_aligned right_top))))
    (Through (IsNetAligned (merged_netlist layout) left v p.left_aligned top) (Through (AreNetsPaired (merged_netlist left) pairings (v.number top)) (Reversed (IsNetAligned (merged_netlist schematic) far c p.right_aligned right_top))))
    (again_tops (merged_netlist layout) (merged_netlist schematic) top right_top same left far v c p asked answers pairings are all)
