-- A sound netlist stays sound when merged, and one in normal form stays so.
use Rattle.std.proofs.Common.{◌≡◌, ◌⊎◌, inl, inr, ℕ, suc, ◌<◌, ◌≤◌, Bool, true, false, cond, List, [], ◌∷◌, ◌++◌, map, length, Some, slice_get, refl, sym, ◌∙◌, ap, subst, append_assoc, arith}
use Rattle.std.specs.Prelude.{flat_map}
use Rattle.plain_netlist.specs.Lists.{IsListed}
use Rattle.plain_netlist.specs.Devices.{terminal_nets}
use Rattle.plain_netlist.proofs.Rows.{rows_terminal}
use Rattle.plain_netlist.specs.Netlist.{DeviceRow, CallRow, Circuit, Netlist, IsDevice, HasNet}
use Rattle.plain_netlist.specs.Normal.{AreNumbered, IsNormalCircuit}
use Rattle.plain_netlist.specs.Sound.{AreCallsFitting, AreNetsThere, IsCallPath}
use Rattle.merge_laws.specs.Merge.{with_width}
use Rattle.merge_laws.specs.Grouped.{is_alike, Placed, Group, with_device, grouped, groups, merged_row, merged_circuit, merged_netlist, GoodMergedLaw, SoundMergedLaw, NormalMergedLaw}
use Rattle.merge_laws.proofs.Alike.{is_turned, alike_law}
use Rattle.merge_laws.proofs.Nets as nets

module _ (nl : Netlist) where
  abbrev ml : Netlist
  ml = merged_netlist nl

  net_there : (c n : ℕ) → HasNet nl c n → HasNet ml c n
  net_there c n (x, is, low) = (merged_circuit x, nets.circuit_there nl c x is, low)

  path_back : (ks : List ℕ) (c d : ℕ) → IsCallPath ml c ks d → IsCallPath nl c ks d
  path_back [] c d e = e
  path_back (k ∷ ks) c d (row, call, rest) = (row, nets.call_back nl c k row call, path_back ks row.circuit d rest)

  device_net : ((j n : ℕ) (row : DeviceRow) (c : ℕ) → IsDevice nl c j row → IsListed n (terminal_nets row) → HasNet nl c n) → (c j n : ℕ) (row : DeviceRow) → IsDevice ml c j row → IsListed n (terminal_nets row) → HasNet ml c n
  device_net all c j n row has on =
      let g = nets.has_group nl [] c j row has in
      let first = nets.member_has nl [] c j g.0 g.0.first g.1 (inl refl) in
      let listed : IsListed n (terminal_nets (merged_row g.0)) = subst (λ (z : DeviceRow). IsListed n (terminal_nets z)) (sym g.2) on in
      net_there c n (all g.0.first.place n g.0.first.row c first listed)

  pub nets_merged : AreNetsThere nl → AreNetsThere ml
  nets_merged within = record {
    pins = λ c i n (x, is, at). let o = nets.circuit_back nl c x is in net_there c n (within.pins c i n (o.0, o.1, subst (λ (z : Circuit). slice_get z.pins i ≡ Some n) (sym o.2) at));
    calls = λ c k p n row call at. net_there c n (within.calls c k p n row (nets.call_back nl c k row call) at);
    devices = device_net (λ j n row c has on. within.devices c j n row has on);
  }

  calls_merged : AreCallsFitting nl → AreCallsFitting ml
  calls_merged fitting c k row call = let d = fitting c k row (nets.call_back nl c k row call) in (merged_circuit d.0, nets.circuit_there nl row.circuit d.0 d.1, d.2)

pub good_merged : GoodMergedLaw
good_merged nl height good = record {
  within = nets_merged nl good.within;
  called = calls_merged nl good.called;
  lower = λ c k row call. good.lower c k row (nets.call_back nl c k row call);
  pins = λ c i n (x, is, at). let o = nets.circuit_back nl c x is in good.pins c i n (o.0, o.1, subst (λ (z : Circuit). slice_get z.pins i ≡ Some n) (sym o.2) at);
}

pub sound_merged : SoundMergedLaw
sound_merged nl sound = record {
  names = λ b c x y is it e.
      let o = nets.circuit_back nl b x is in
      let p = nets.circuit_back nl c y it in
      sound.names b c o.0 p.0 o.1 p.1 (ap (λ (z : Circuit). z.name) o.2 ∙ (e ∙ ap (λ (z : Circuit). z.name) (sym p.2)));
  net_names = λ c a b x name is f g.
      let o = nets.circuit_back nl c x is in
      sound.net_names c a b o.0 name o.1 (subst (λ (z : Circuit). slice_get z.nets a ≡ Some name) (sym o.2) f) (subst (λ (z : Circuit). slice_get z.nets b ≡ Some name) (sym o.2) g);
  nets = nets_merged nl sound.nets;
  calls = calls_merged nl sound.calls;
  no_cycle = λ c (k, ks, path). sound.no_cycle c (k, ks, path_back nl (k ∷ ks) c c path);
}

-- the first of these nets, seen in order, and what may stand behind them
record Split (total next : ℕ) (xs tail : List ℕ) : Type 0 where
  pub after : ℕ
  pub later : next ≤ after
  pub below : (x : ℕ) → IsListed x xs → x < after
  pub rest : AreNumbered total after tail
  pub back : (other : List ℕ) → AreNumbered total after other → AreNumbered total next (xs ++ other)

split : (total next : ℕ) (xs tail : List ℕ) → AreNumbered total next (xs ++ tail) → Split total next xs tail
split total next [] tail h = record { after = next; later = omega arith; below = λ x i. absurd i; rest = h; back = λ other k. k }
split total next (x ∷ xs) tail (inl h) =
    let s = split total next xs tail h.1 in
    record {
      after = s.after;
      later = s.later;
      below = λ y i. elim i [ inl e ↦ (let a = h.0 in let b = s.later in omega arith) | inr j ↦ s.below y j ];
      rest = s.rest;
      back = λ other k. inl (h.0, s.back other k);
    }
split total next (x ∷ xs) tail (inr h) =
    let s = split total (suc next) xs tail h.1 in
    record {
      after = s.after;
      later = (let b = s.later in omega arith);
      below = λ y i. elim i [ inl e ↦ (let a = h.0 in let b = s.later in omega arith) | inr j ↦ s.below y j ];
      rest = s.rest;
      back = λ other k. inr (h.0, s.back other k);
    }

-- nets seen before say nothing new
seen : (total next : ℕ) (xs tail : List ℕ) → ((x : ℕ) → IsListed x xs → x < next) → AreNumbered total next (xs ++ tail) → AreNumbered total next tail
seen total next [] tail low h = h
seen total next (x ∷ xs) tail low (inl h) = seen total next xs tail (λ y i. low y (inr i)) h.1
seen total next (x ∷ xs) tail low (inr h) = let a = low x (inl refl) in let b = h.0 in absurd (omega arith)

abbrev firsts : List Group → List DeviceRow
firsts gs = map (λ (g : Group). g.first.row) gs

-- a device joins one that is alike, or begins a group behind all others
begun : (gs : List Group) (d : Placed) → ((firsts (with_device gs d) ≡ firsts gs) × (a : DeviceRow) × IsListed a (firsts gs) × (is_alike a d.row ≡ true)) ⊎ (firsts (with_device gs d) ≡ firsts gs ++ d.row ∷ [])
begun [] d = inr refl
begun (g ∷ gs) d = at (begun gs d) (is_alike g.first.row d.row) refl
  where
    at : ((firsts (with_device gs d) ≡ firsts gs) × (a : DeviceRow) × IsListed a (firsts gs) × (is_alike a d.row ≡ true)) ⊎ (firsts (with_device gs d) ≡ firsts gs ++ d.row ∷ []) → (b : Bool) → is_alike g.first.row d.row ≡ b
        → ((firsts (cond b (record { first = g.first; others = g.others ++ d ∷ [] } ∷ gs) (g ∷ with_device gs d)) ≡ firsts (g ∷ gs)) × (a : DeviceRow) × IsListed a (firsts (g ∷ gs)) × (is_alike a d.row ≡ true))
        ⊎ (firsts (cond b (record { first = g.first; others = g.others ++ d ∷ [] } ∷ gs) (g ∷ with_device gs d)) ≡ firsts (g ∷ gs) ++ d.row ∷ [])
    at r true e = inl (refl, g.first.row, inl refl, e)
    at (inl (q, a, i, l)) false e = inl (ap (λ rs. g.first.row ∷ rs) q, a, inr i, l)
    at (inr q) false e = inr (ap (λ rs. g.first.row ∷ rs) q)

alike_nets : (a b : DeviceRow) → is_alike a b ≡ true → (x : ℕ) → IsListed x (terminal_nets b) → IsListed x (terminal_nets a)
alike_nets a b e x i =
    let m = rows_terminal (λ (m n : ℕ). m ≡ n) (with_width b 0) (with_width a 0) (alike_law b a (is_turned a b e)).rows x i in
    subst (λ z. IsListed z (terminal_nets a)) (sym m.2) m.1

abbrev named : DeviceRow → List ℕ
named d = terminal_nets d

append-nil : {A : Type 0} (xs : List A) → xs ≡ xs ++ []
append-nil [] = refl
append-nil (x ∷ xs) = ap (λ ys. x ∷ ys) (append-nil xs)

regroup : {A : Type 0} (xs : List A) (y : A) (zs : List A) → (xs ++ y ∷ []) ++ zs ≡ xs ++ y ∷ zs
regroup [] y zs = refl
regroup (x ∷ xs) y zs = ap (λ ys. x ∷ ys) (regroup xs y zs)

listed_last : {A : Type 0} (xs : List A) (y x : A) → IsListed x (xs ++ y ∷ []) → IsListed x xs ⊎ (x ≡ y)
listed_last [] y x (inl e) = inr e
listed_last [] y x (inr z) = absurd z
listed_last (w ∷ xs) y x (inl e) = inl (inl e)
listed_last (w ∷ xs) y x (inr i) = elim (listed_last xs y x i) [ inl j ↦ inl (inr j) | inr e ↦ inr e ]

-- what the groups begin with is numbered where all devices are
thinned : (total : ℕ) (rest : List ℕ) (gs : List Group) (n : ℕ) (rows : List DeviceRow) (next : ℕ)
    → ((a : DeviceRow) → IsListed a (firsts gs) → (x : ℕ) → IsListed x (terminal_nets a) → x < next)
    → AreNumbered total next (flat_map named rows ++ rest)
    → (news : List DeviceRow) × (firsts (grouped gs n rows) ≡ firsts gs ++ news) × AreNumbered total next (flat_map named news ++ rest)
thinned total rest gs n [] next low h = ([], append-nil (firsts gs), h)
thinned total rest gs n (row ∷ rows) next low h =
    let d : Placed = record { place = n; row = row } in
    let tail = flat_map named rows ++ rest in
    let all : AreNumbered total next (named row ++ tail) = subst (λ ns. AreNumbered total next ns) (append_assoc (named row) (flat_map named rows) rest) h in
    elim (begun gs d) [
      | inl (q, a, i, l) ↦
          let more = thinned total rest (with_device gs d) (suc n) rows next
          (λ b j. low b (subst (λ rs. IsListed b rs) q j))
          (seen total next (terminal_nets row) tail (λ x j. low a i x (alike_nets a row l x j)) all) in
          (more.0, more.1 ∙ ap (λ rs. rs ++ more.0) q, more.2)
      | inr q ↦
          let s = split total next (terminal_nets row) tail all in
          let more = thinned total rest (with_device gs d) (suc n) rows s.after
          (λ b j x k. elim (listed_last (firsts gs) row b (subst (λ rs. IsListed b rs) q j)) [
            | inl m ↦ (let z = low b m x k in let y = s.later in omega arith)
            | inr e ↦ s.below x (subst (λ (z : DeviceRow). IsListed x (terminal_nets z)) e k)
          ]) s.rest in
          (row ∷ more.0, more.1 ∙ (ap (λ rs. rs ++ more.0) q ∙ regroup (firsts gs) row more.0), subst (λ ns. AreNumbered total next ns) (sym (append_assoc (named row) (flat_map named more.0) rest)) (s.back (flat_map named more.0 ++ rest) more.2))
    ]

nets_of_firsts : (gs : List Group) → flat_map named (map merged_row gs) ≡ flat_map named (firsts gs)
nets_of_firsts [] = refl
nets_of_firsts (g ∷ gs) = ap (λ ns. terminal_nets g.first.row ++ ns) (nets_of_firsts gs)

normal_circuit : (c : Circuit) → IsNormalCircuit c → IsNormalCircuit (merged_circuit c)
normal_circuit c normal =
    let calls = flat_map (λ (r : CallRow). r.nets) c.calls in
    let s = split (length c.nets) 0 c.pins (flat_map named c.devices ++ calls) normal.numbered in
    let t = thinned (length c.nets) calls [] 0 c.devices s.after (λ a i. absurd i) s.rest in
    let e : flat_map named (map merged_row (groups c.devices)) ≡ flat_map named t.0 = nets_of_firsts (groups c.devices) ∙ ap (flat_map named) t.1 in
    record {
      pins = normal.pins;
      numbered = s.back (flat_map named (map merged_row (groups c.devices)) ++ calls) (subst (λ ns. AreNumbered (length c.nets) s.after (ns ++ calls)) (sym e) t.2);
    }

pub normal_merged : NormalMergedLaw
normal_merged nl normal k x is =
    let o = nets.circuit_back nl k x is in
    subst (λ (z : Circuit). IsNormalCircuit z) o.2 (normal_circuit o.0 (normal k o.0 o.1))
