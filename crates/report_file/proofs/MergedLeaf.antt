-- Circuits that call nothing, each group of their alike devices as one once more.
use Rattle.std.proofs.Common.{◌≡◌, inl, inr, ℕ, ◌<◌, Bool, true, false, [], length, Some, slice_get, refl, sym, subst}
use Rattle.align_laws.proofs.Kept.{aligned_corresponds}
use Rattle.align_laws.specs.Aligned.{IsAligned, IsDeviceAligned, IsNetAligned}
use Rattle.align_laws.specs.Cut.{Alignment}
use Rattle.headline_laws.proofs.Merged.{nets_as}
use Rattle.match_flow.specs.Again.{as_answered}
use Rattle.merge_laws.proofs.Alike.{alike_law, is_turned}
use Rattle.merge_laws.proofs.Expands.{merged_expands}
use Rattle.merge_laws.proofs.Flats.{merged_same}
use Rattle.merge_laws.proofs.Groups.{unlike_law}
use Rattle.merge_laws.proofs.Kept.{nets_merged}
use Rattle.merge_laws.proofs.Leaves.{unlike_leaf}
use Rattle.merge_laws.proofs.Nets as nets
use Rattle.merge_laws.specs.Grouped.{IsMadeOf, Placed, is_alike, merged_circuit, merged_netlist, merged_row}
use Rattle.merge_laws.specs.Leaves.{IsUnlikeLeaf}
use Rattle.merge_laws.specs.Merge.{merged, with_width}
use Rattle.plain_netlist.proofs.Alike.{reversed, through}
use Rattle.plain_netlist.proofs.Rows.{rows_terminal}
use Rattle.plain_netlist.specs.Devices.{terminal_nets}
use Rattle.plain_netlist.specs.Flats.{Corresponds, expanded, Reversed, Through}
use Rattle.plain_netlist.specs.Lists.{IsListed}
use Rattle.plain_netlist.specs.Netlist.{Circuit, DeviceRow, IsCircuit, Netlist, Slot}
use Rattle.report_file.proofs.AsAnswered.{circuit_answered}
use Rattle.report_file.proofs.LeafPair.{IsLeaf, IsOnDevice}

-- a device is on the nets of those that it is alike to
alike_on : (a b : DeviceRow) → is_alike a b ≡ true → (n : ℕ) → IsListed n (terminal_nets b) → IsListed n (terminal_nets a)
alike_on a b e n i =
    let l = alike_law b a (is_turned a b e) in
    let m = rows_terminal (λ (x y : ℕ). x ≡ y) (with_width b 0) (with_width a 0) l.rows n i in
    subst (λ (z : ℕ). IsListed z (terminal_nets a)) (sym m.2) m.1

module _ (nl : Netlist) (k : ℕ) (c : Circuit) (leaf : IsLeaf nl k c) where
  same_merged : (x : Circuit) → IsCircuit (merged_netlist nl) k x → x ≡ merged_circuit c
  same_merged x is = let here = nets.circuit_there nl k c leaf.circuit in cc

  held : (n : ℕ) → n < length c.nets → IsOnDevice (merged_circuit c) n
  held n low =
      let h = leaf.held n low in
      let g = nets.in_group nl [] k h.device h.row (c, leaf.circuit, h.there) in
      let has = nets.group_has nl [] k g.0 g.1 g.2 in
      let on : IsListed n (terminal_nets g.1.first.row) = elim g.3 [
        | inl e ↦ subst (λ (z : Placed). IsListed n (terminal_nets z.row)) e h.is
        | inr i ↦ alike_on g.1.first.row h.row (nets.group_alike nl [] k g.0 g.1 (record { place = h.device; row = h.row }) g.2 i) n h.is
      ] in
      record {
        device = g.0;
        row = merged_row g.1;
        there = subst (λ (x : Circuit). slice_get x.devices g.0 ≡ Some (merged_row g.1)) (same_merged has.0 has.1) has.2;
        is = on;
      }

  merged_leaf : IsLeaf (merged_netlist nl) k (merged_circuit c)
  merged_leaf = record { circuit = nets.circuit_there nl k c leaf.circuit; calls = leaf.calls; held = held; within = nets_merged nl leaf.within }

  pub answered_leaf : (again : Bool) → IsLeaf (as_answered again nl) k (circuit_answered again c)
  answered_leaf true = merged_leaf
  answered_leaf false = leaf

  pub unlike : IsUnlikeLeaf (merged_netlist nl) k
  unlike =
      let is = nets.circuit_there nl k c leaf.circuit in
      record { circuit = merged_circuit c; is = is; calls = leaf.calls; unlike = unlike_law nl k (merged_circuit c) is }

-- ---- a netlist, merged, aligned, and merged once more where the top calls nothing

module _ (given near : Netlist) (v : Alignment) (a : IsAligned (merged_netlist given) near v) (top : ℕ) (kept : v.kept top ≡ true) (none : IsUnlikeLeaf (merged_netlist near) (v.number top)) where
  abbrev One : Slot → Slot → Type 0
  One x y = x ≡ y

  abbrev DL : Slot → Slot → Type 0
  DL = Reversed (IsDeviceAligned (merged_netlist given) near v a top)

  abbrev NL : Slot → Slot → Type 0
  NL = Reversed (IsNetAligned (merged_netlist given) near v a top)

  abbrev pub DevicesAgain : Slot → Slot → Type 0
  DevicesAgain = Through (Reversed One) (Through (IsMadeOf near (v.number top)) (Through DL (IsMadeOf given top)))

  pub again : Corresponds (expanded (merged_netlist near) (v.number top)) (merged (expanded given top)) DevicesAgain NL
  again =
      let A = expanded (merged_netlist near) (v.number top) in
      let C = merged (expanded near (v.number top)) in
      let E = merged (expanded (merged_netlist given) top) in
      let G = merged (expanded given top) in
      let one = reversed (merged A) A One One (unlike_leaf (merged_netlist near) (v.number top) none) in
      let up = aligned_corresponds (merged_netlist given) near v a top kept in
      let back = reversed (expanded (merged_netlist given) top) (expanded near (v.number top)) (IsDeviceAligned (merged_netlist given) near v a top) (IsNetAligned (merged_netlist given) near v a top) up in
      let three = merged_same (expanded near (v.number top)) (expanded (merged_netlist given) top) DL NL back in
      let last = through C E G DL NL (IsMadeOf given top) One three (merged_expands given top) in
      let later = through (merged A) C G (IsMadeOf near (v.number top)) One (Through DL (IsMadeOf given top)) (Through NL One) (merged_expands near (v.number top)) last in
      let whole = through A (merged A) G (Reversed One) (Reversed One) (Through (IsMadeOf near (v.number top)) (Through DL (IsMadeOf given top))) (Through One (Through NL One)) one later in
      nets_as A G DevicesAgain (Through (Reversed One) (Through One (Through NL One))) NL
      (λ x y (m, e, (n, g, (o, h, q))). subst (λ (z : Slot). NL x z) q (subst (λ (z : Slot). NL z o) e (subst (λ (z : Slot). NL z o) (sym g) h)))
      (λ x y h. (x, refl, (x, refl, (y, h, refl)))) whole
