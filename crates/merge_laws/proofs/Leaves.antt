-- What circuits that call nothing expand to, and that nothing is left to merge of it where no two devices are alike.
use Rattle.std.proofs.Common.{◌≡◌, ◌⊎◌, ◌+◌, inl, inr, ℕ, true, false, List, [], ◌∷◌, Some, slice_get, refl, sym, ap, subst, ◌∙◌, arith}
use Rattle.std.proofs.lemmas.Bool.{cases_Bool}
use Rattle.merge_laws.proofs.Alike.{alike_back_law}
use Rattle.merge_laws.specs.Leaves.{IsUnlikeLeaf, UnlikeLeafLaw}
use Rattle.merge_laws.specs.Merge.{AreAlike, IsClass, IsMergedWidth, Known, AreOnce, added_size, may_merge_row, merged, total_width, width_of, with_added, with_width}
use Rattle.plain_netlist.proofs.Once.{one_device}
use Rattle.plain_netlist.proofs.Rows.{row_by_parts, rows_same, rows_under, rows_wider}
use Rattle.plain_netlist.specs.Chains.{IsChain}
use Rattle.plain_netlist.specs.Devices.{AreRowsAlike, Row}
use Rattle.plain_netlist.specs.Flats.{Corresponds, Flat, expanded, row_at}
use Rattle.plain_netlist.specs.Lists.{IsListed}
use Rattle.plain_netlist.specs.Netlist.{CallRow, Circuit, DeviceRow, HasDevice, InOneNet, IsCall, IsCircuit, IsEitherJoin, Joins, Netlist, Slot, slot}

-- ---- a circuit that calls nothing

module _ (nl : Netlist) (k : ℕ) (c : Circuit) (circuit : IsCircuit nl k c) (calls : c.calls ≡ []) where
  no_call : (e : ℕ) (row : CallRow) → IsCall nl k e row → ⊥
  no_call e row (x, is, at) =
      let same : x ≡ c = cc in
      let none : slice_get [] e ≡ Some row = subst (λ (rs : List CallRow). slice_get rs e ≡ Some row) (ap (λ (y : Circuit). y.calls) same ∙ calls) at in absurd cc

  pub own_device : (path : List ℕ) (j : ℕ) (row : DeviceRow) → HasDevice nl k path j row → (path ≡ []) × (slice_get c.devices j ≡ Some row)
  own_device [] j row (x, is, at) = let same : x ≡ c = cc in (refl, subst (λ (y : Circuit). slice_get y.devices j ≡ Some row) same at)
  own_device (e ∷ es) j row (call, is, more) = absurd (no_call e call is)

  no_joins : (path : List ℕ) (outer e inner : ℕ) → Joins nl k path outer e inner → ⊥
  no_joins [] outer e inner h = no_call e h.0 h.1
  no_joins (j ∷ js) outer e inner h = no_call j h.0 h.1

  no_join : (a b : Slot) → IsEitherJoin nl k a b → ⊥
  no_join a b (inl h) = no_joins a.path a.net h.number b.net h.joins
  no_join a b (inr h) = no_joins b.path b.net h.number a.net h.joins

  pub one_slot : (a b : Slot) → InOneNet nl k a b → a ≡ b
  one_slot a b h = step h.via h.chain
    where
      step : (via : List Slot) → IsChain (IsEitherJoin nl k) a via b → a ≡ b
      step [] e = e
      step (x ∷ xs) e = absurd (no_join a x e.0)

-- ---- without alike devices

same_width : {N : Type 0} (r : Row N) → with_width r (width_of r) ≡ r
same_width r = row_by_parts (with_width r (width_of r)) r refl refl (sizes r.sizes) refl refl
  where
    sizes : (ns : List ℕ) → with_added ns (added_size ns) ≡ ns
    sizes [] = refl
    sizes (a ∷ []) = refl
    sizes (a ∷ b ∷ more) = refl

module _ (nl : Netlist) (k : ℕ) (leaf : IsUnlikeLeaf nl k) where
  abbrev F : Flat Slot Slot
  F = expanded nl k

  own : (path : List ℕ) (j : ℕ) (row : DeviceRow) → HasDevice nl k path j row → (path ≡ []) × (slice_get leaf.circuit.devices j ≡ Some row)
  own = own_device nl k leaf.circuit leaf.is leaf.calls

  -- alike rows at the circuit itself are alike over its nets
  own_alike : (r s : DeviceRow) → AreAlike (InOneNet nl k) (row_at [] r) (row_at [] s) → AreAlike (λ m n. m ≡ n) r s
  own_alike r s l = record {
    merges = l.merges;
    rows = rows_wider (λ m n. InOneNet nl k (slot [] m) (slot [] n)) (λ m n. m ≡ n) (λ m n h. ap (λ (x : Slot). x.net) (one_slot nl k leaf.circuit leaf.is leaf.calls (slot [] m) (slot [] n) h))
        (with_width r 0) (with_width s 0) (rows_under (InOneNet nl k) (slot []) (slot []) (with_width r 0) (with_width s 0) l.rows);
  }

  -- alike devices are one
  alike_is_one : (a b : Slot) (r s : Row Slot) → F.has_device a r → F.has_device b s → AreAlike F.one_net r s → a ≡ b
  alike_is_one a b r s (row, has, e) (other, also, f) l =
      let x = own a.path a.net row has in
      let y = own b.path b.net other also in
      let re : r ≡ row_at [] row = e ∙ ap (λ (p : List ℕ). row_at p row) x.0 in
      let se : s ≡ row_at [] other = f ∙ ap (λ (p : List ℕ). row_at p other) y.0 in
      let here : AreAlike (InOneNet nl k) (row_at [] row) (row_at [] other) = subst (λ (z : Row Slot). AreAlike (InOneNet nl k) z (row_at [] other)) re (subst (λ (z : Row Slot). AreAlike (InOneNet nl k) r z) se l) in
      let one : a.net ≡ b.net = leaf.unlike a.net b.net row other x.1 y.1 (alike_back_law row other (own_alike row other here)) in
      let paths : a.path ≡ b.path = x.0 ∙ sym y.0 in
      ap (λ (p : List ℕ). slot p a.net) paths ∙ ap (λ (n : ℕ). slot b.path n) one

  -- a device has one row
  one_row : (a : Slot) (r s : Row Slot) → F.has_device a r → F.has_device a s → r ≡ s
  one_row a r s (row, has, e) (other, also, f) = e ∙ (ap (row_at a.path) (one_device nl a.path k a.net row other has also) ∙ sym f)

  self_alike : (r : Row Slot) → may_merge_row r ≡ true → AreAlike F.one_net r r
  self_alike r merges = record { merges = merges; rows = rows_same F.one_net (λ x. record { via = []; chain = refl }) (with_width r 0) }

  abbrev known : Slot → Row Slot → Known Slot Slot
  known a r = record { name = a; row = r }

  -- a device stands alone in its class
  alone : (a : Slot) (r : Row Slot) → F.has_device a r → may_merge_row r ≡ true → IsClass F r (known a r ∷ [])
  alone a r has merges = record {
    each = λ d i. elim i [
      | inl e ↦ subst (λ (z : Known Slot Slot). F.has_device z.name z.row × AreAlike F.one_net r z.row) (sym e) (has, self_alike r merges)
      | inr j ↦ absurd j
    ];
    all = λ b s also l. (known a r, inl refl, sym (alike_is_one a b r s has also l));
    once = (λ d i. absurd i, tt);
  }

  -- so the width that it is merged to is its own
  own_width : (a : Slot) (r : Row Slot) (w : ℕ) → F.has_device a r → IsMergedWidth F r w → w ≡ width_of r
  own_width a r w has (inr (not, e)) = e
  own_width a r w has (inl (merges, ms, is, e)) = e ∙ total ms is.each (is.all a r has (self_alike r merges)) is.once
    where
      here : (d : Known Slot Slot) → F.has_device d.name d.row × AreAlike F.one_net r d.row → (a ≡ d.name) × (width_of d.row ≡ width_of r)
      here d (also, l) =
          let one = alike_is_one a d.name r d.row has also l in
          (one, ap (λ (z : Row Slot). width_of z) (sym (one_row d.name r d.row (subst (λ (s : Slot). F.has_device s r) one has) also)))

      total : (ds : List (Known Slot Slot)) → ((d : Known Slot Slot) → IsListed d ds → F.has_device d.name d.row × AreAlike F.one_net r d.row)
          → ((d : Known Slot Slot) × IsListed d ds × (a ≡ d.name)) → AreOnce F.one_device ds → total_width ds ≡ width_of r
      total [] each there once = absurd there.1
      total (d ∷ []) each there once =
          let h = (here d (each d (inl refl))).1 in
          let z : width_of d.row + 0 ≡ width_of r = omega (arith, h) in z
      total (d ∷ (c ∷ cs)) each there once =
          absurd (once.0 c (inl refl) (sym (here d (each d (inl refl))).0 ∙ (here c (each c (inr (inl refl)))).0))

  self_width : (a : Slot) (s : Row Slot) → F.has_device a s → (may_merge_row s ≡ true) ⊎ (may_merge_row s ≡ false) → IsMergedWidth F s (width_of s)
  self_width a s has (inl merges) = inl (merges, known a s ∷ [], alone a s has merges, sym plus_zero)
    where
      plus_zero : width_of s + 0 ≡ width_of s
      plus_zero = omega (arith)
  self_width a s has (inr not) = inr (not, refl)

  equal_rows : (r s : Row Slot) → r ≡ s → AreRowsAlike (λ (a x : Slot). a ≡ x) r s
  equal_rows r s e = subst (λ (z : Row Slot). AreRowsAlike (λ (a x : Slot). a ≡ x) r z) e (rows_same (λ (a x : Slot). a ≡ x) (λ x. refl) r)

  corresponds : Corresponds (merged F) F (λ (a x : Slot). a ≡ x) (λ (a x : Slot). a ≡ x)
  corresponds = record {
    there = λ a r (s, has, w, is, e). (a, s, has, refl, equal_rows r s (e ∙ (ap (with_width s) (own_width a s w has is) ∙ same_width s)));
    back = λ a s has. (a, with_width s (width_of s), (s, has, width_of s, self_width a s has (cases_Bool (may_merge_row s)), refl), refl, equal_rows (with_width s (width_of s)) s (same_width s));
    devices = λ a b x y e f. (
      λ one. elim one [
        | inl o ↦ sym e ∙ (o ∙ f)
        | inr (c, d, r, s, to_c, has, to_d, also, l) ↦ sym e ∙ (to_c ∙ (alike_is_one c d r s has also l ∙ (sym to_d ∙ f)))
      ],
      λ o. inl (e ∙ (o ∙ sym f)),
    );
    nets = λ a b x y e f. (
      λ h. subst (λ (s : Slot). InOneNet nl k s y) e (subst (λ (s : Slot). InOneNet nl k a s) f h),
      λ h. subst (λ (s : Slot). InOneNet nl k s b) (sym e) (subst (λ (s : Slot). InOneNet nl k x s) (sym f) h),
    );
    pins = λ a x e. (λ h. subst F.is_pin e h, λ h. subst F.is_pin (sym e) h);
  }

pub unlike_leaf : UnlikeLeafLaw
unlike_leaf nl k leaf = corresponds nl k leaf
