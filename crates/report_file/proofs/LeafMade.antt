-- A circuit of an aligned netlist that calls nothing has a device on each of its nets.
use Rattle.std.proofs.Common.{◌≡◌, inl, inr, ℕ, suc, ◌<◌, ◌≤◌, List, [], ◌∷◌, length, Some, slice_get, sym, ap, subst, ◌∙◌, arith}
use Rattle.std.specs.Prelude.{flat_map}
use Rattle.std.proofs.Math.Decide.{ℕ_discrete}
use Rattle.align_laws.specs.Aligned.{HasOnlyKept, IsAligned}
use Rattle.align_laws.specs.Cut.{Alignment}
use Rattle.align_laws.proofs.CutList.{cut_pruned}
use Rattle.align_laws.proofs.FlatGood.{flat_is_good}
use Rattle.align_laws.proofs.Kept.{dead_gone, may_go}
use Rattle.align_laws.proofs.Prune.{IsPruned, cuts_of}
use Rattle.align_laws.proofs.Soundness.{aligned_sound}
use Rattle.plain_netlist.specs.Devices.{row_over, terminal_nets}
use Rattle.plain_netlist.specs.Lists.{IsListed}
use Rattle.plain_netlist.specs.Netlist.{CallRow, Circuit, DeviceRow, IsCall, IsCircuit, IsDevice, Netlist}
use Rattle.plain_netlist.specs.Normal.{AreNumbered, appearances}
use Rattle.plain_netlist.proofs.Members.{either_side, from_all, position}
use Rattle.plain_netlist.proofs.Rows.{over_terminal}
use Rattle.report_file.proofs.Kept.{IsMadeOf, made_of}
use Rattle.report_file.proofs.LeafPair.{IsLeaf, IsOnDevice}

-- numbered so, each number from the next one on appears
appears : (total next : ℕ) (xs : List ℕ) → AreNumbered total next xs → (x : ℕ) → next ≤ x → x < total → IsListed x xs
appears total next [] h x low high = absurd (omega (arith, h, low, high))
appears total next (y ∷ ys) (inl h) x low high = inr (appears total next ys h.1 x low high)
appears total next (y ∷ ys) (inr h) x low high = elim (ℕ_discrete x next) [
  | yes e ↦ inl (e ∙ sym h.0)
  | no not ↦ inr (appears total (suc next) ys h.1 x (later not) high)
]
  where
    later : (x ≡ next → ⊥) → suc next ≤ x
    later not = omega (arith, not, low)

module _ (g o : Netlist) (w : Alignment) (a : IsAligned g o w) (only : HasOnlyKept o w) (k : ℕ) (c : Circuit) (is : IsCircuit o k c) (leaf : c.calls ≡ []) where
  made : IsMadeOf g w k c
  made = made_of g o w a only k c is

  pruned : IsPruned a.by.flat o (cuts_of a.by.flat w) made.number
  pruned =
      let b = a.by in
      (cut_pruned b.flat o w b.cut_down b.height (flat_is_good g b.flat a.goes b.flats b.height b.good b.flattened)
      (dead_gone g b.flat a.goes b.flats b.height b.good b.flattened w (may_go g w.kept a.goes a.going))).each made.number made.kept

  same_circuit : (x : Circuit) → IsCircuit o (w.number made.number) x → x ≡ c
  same_circuit x also = let here : IsCircuit o k x = subst (λ (n : ℕ). IsCircuit o n x) made.becomes also in cc

  no_call : (e : ℕ) (row : CallRow) → IsCall o (w.number made.number) e row → ⊥
  no_call e row (x, also, at) =
      let none : slice_get [] e ≡ Some row = subst (λ (rs : List CallRow). slice_get rs e ≡ Some row) (ap (λ (y : Circuit). y.calls) (same_circuit x also) ∙ leaf) at in absurd cc

  -- a held net that a device has
  from_device : (n j m : ℕ) (row : DeviceRow) → IsDevice a.by.flat made.number j row → IsListed m (terminal_nets row) → w.new made.number m ≡ n → IsOnDevice c n
  from_device n j m row dev on e =
      let d = pruned.device j row dev in
      let other : DeviceRow = row_over (w.new made.number) row in record {
        device = j;
        row = other;
        there = subst (λ (x : Circuit). slice_get x.devices j ≡ Some other) (same_circuit d.0 d.1) d.2;
        is = subst (λ (x : ℕ). IsListed x (terminal_nets other)) e (over_terminal (w.new made.number) row m on);
      }

  of_pin : (n : ℕ) → IsListed n c.pins → IsOnDevice c n
  of_pin n h =
      let p = position c.pins n h in
      let pin = pruned.pin_back p.0 n (subst (λ (m : ℕ). (x : Circuit) × IsCircuit o m x × (slice_get x.pins p.0 ≡ Some n)) (sym made.becomes) (c, is, p.1)) in
      elim ((a.by.cut_down.held made.number pin.1 made.kept).0 pin.3) [
        | inl d ↦ from_device n d.0 pin.1 d.1 d.2 d.3 pin.4
        | inr e ↦ absurd (let z = pruned.call e.0 e.1 e.4 e.5 in no_call ((cuts_of a.by.flat w).call made.number e.0) z.0 z.1)
      ]

  of_device : (n : ℕ) → IsListed n (flat_map terminal_nets c.devices) → IsOnDevice c n
  of_device n h =
      let r = from_all terminal_nets c.devices n h in
      let p = position c.devices r.0 r.1 in record { device = p.0; row = r.0; there = p.1; is = r.2 }

  of_call : (n : ℕ) → IsListed n (flat_map (λ (r : CallRow). r.nets) c.calls) → IsOnDevice c n
  of_call n h = absurd (subst (λ (rs : List CallRow). IsListed n (flat_map (λ (r : CallRow). r.nets) rs)) leaf h)

  pub made_leaf : IsLeaf o k c
  made_leaf =
      let sound = aligned_sound g o w a only in record {
        circuit = is;
        calls = leaf;
        held = λ n low.
            elim (either_side c.pins _ n (appears (length c.nets) 0 (appearances c) (sound.0 k c is).numbered n (omega arith) low)) [
              | inl p ↦ of_pin n p
              | inr q ↦ elim (either_side (flat_map terminal_nets c.devices) _ n q) [ inl d ↦ of_device n d | inr e ↦ of_call n e ]
            ];
        within = sound.1.1.within;
      }
