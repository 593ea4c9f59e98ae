-- Rows that were looked at, and circuits that fit.
use Rattle.std.proofs.Common.{◌≡◌, inl, inr, ℕ, suc, ◌+◌, ◌<◌, List, [], ◌∷◌, Option, Some, length, map, slice_get, slice_index, get_or, sym, subst, ◌∙◌, arith}
use Rattle.std.proofs.Math.Decide.{ℕ_discrete}
use Rattle.std.proofs.lemmas.Option.{same_Some, slice_get_within}
use Rattle.std.proofs.lemmas.List.{length-map}
use Rattle.plain_netlist.specs.Lists.{IsListed}
use Rattle.plain_netlist.specs.Netlist.{DeviceRow}
use Rattle.round_laws.specs.Nodes.{Side, Layout, Schematic}
use Rattle.round_laws.specs.Web.{End}
use Rattle.round_laws.specs.Nodes.{Node}
use Rattle.match_laws.proofs.Images.{device_net}
use Rattle.match_laws.specs.Circuits.{Pair, IsFitting, device_ends}
use Rattle.match_parts.proofs.Read.{row}
use Rattle.match_parts.specs.Rows.{AreBelow, AreTerminalsBelow}
use Rattle.net_model.specs.Rows.{plain_circuit}
use Rattle.net_model.specs.declared.netlist.Circuit.{Circuit}
use Rattle.match_tests.specs.Fitting.{AreCallsFit, AreDevicesFit, IsFit}

-- one row more
pub next_row : {A X : Type 0} (v : A → X) (P : X → Type 0) (xs : List A) (k : ℕ) (x : A) → ((j : ℕ) (d : X) → j < k → slice_get (map v xs) j ≡ Some d → P d) → k < length xs → x ≡ get_or xs k x → P (v x)
    → (j : ℕ) (d : X) → j < k + 1 → slice_get (map v xs) j ≡ Some d → P d
next_row {A} {X} v P xs k x h l is p j d m e = elim (ℕ_discrete j k) [
  | yes same ↦
      let at : slice_get (map v xs) j ≡ Some (v x) = subst (λ (i : ℕ). slice_get (map v xs) i ≡ Some (v x)) (sym same) (row v xs k x l is) in
      subst P (same_Some _ _ (sym at ∙ e)) p
  | no not ↦ h j d (omega (arith, not)) e
]

pub one_more_below : (xs : List ℕ) (n i : ℕ) → ((j : ℕ) → j < i → slice_index xs j < n) → slice_index xs i < n → (j : ℕ) → j < i + 1 → slice_index xs j < n
one_more_below xs n i h p j l = elim (ℕ_discrete j i) [
  | yes same ↦ subst (λ (k : ℕ). slice_index xs k < n) (sym same) p
  | no not ↦ h j (omega (arith, not))
]

-- all rows
pub fitting : (c : Circuit) (children : ℕ → Option (List ℕ)) → AreDevicesFit c (length c.devices.items) → AreCallsFit c children (length c.calls.items) → IsFit (plain_circuit c) children
fitting c children ds cs = record {
  devices = λ k d e. let w = slice_get_within (plain_circuit c).devices k d e in let n : length (plain_circuit c).devices ≡ length c.devices.items = length-map c.devices.items _ in ds k d (omega arith) e;
  calls = λ k r e. let w = slice_get_within (plain_circuit c).calls k r e in let n : length (plain_circuit c).calls ≡ length c.calls.items = length-map c.calls.items _ in (cs k r (omega arith) e).0;
  pins = λ k r e. let w = slice_get_within (plain_circuit c).calls k r e in let n : length (plain_circuit c).calls ≡ length c.calls.items = length-map c.calls.items _ in (cs k r (omega arith) e).1;
}

pub listed_below : (xs : List ℕ) (n x : ℕ) → AreBelow xs n → IsListed x xs → x < n
listed_below [] n x h i = absurd i
listed_below (y ∷ ys) n x h (inl e) = subst (λ (z : ℕ). z < n) (sym e) (h 0 (omega arith))
listed_below (y ∷ ys) n x h (inr i) = listed_below ys n x (λ j l. h (suc j) (omega arith)) i

ends_below : (side : Side) (d : DeviceRow) (n : ℕ) (e : End Node) → AreTerminalsBelow d n → IsListed e (device_ends side d) → e.node.number < n
ends_below side d n e h i = h e.node.number (device_net side d e i).listed

pub fits_left : (p : Pair) → IsFit p.left p.children → IsFitting p Layout
fits_left p h = record {
  devices = λ k d at e i. ends_below Layout d (length p.left.nets) e (h.devices k d at) i;
  calls = λ k c at n i. listed_below c.nets (length p.left.nets) n (h.calls k c at) i;
  pins = λ k c at pins e. h.pins k c at pins e;
}

pub fits_right : (p : Pair) → IsFit p.right p.children → IsFitting p Schematic
fits_right p h = record {
  devices = λ k d at e i. ends_below Schematic d (length p.right.nets) e (h.devices k d at) i;
  calls = λ k c at n i. listed_below c.nets (length p.right.nets) n (h.calls k c at) i;
  pins = λ k c at pins e. h.pins k c at pins e;
}
