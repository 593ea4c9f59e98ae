-- The class of each device is a finite list, and so no device is lost.
use Rattle.std.proofs.Common.{◌≡◌, ◌⊎◌, inl, inr, ℕ, suc, Bool, true, false, true≢false, List, [], ◌∷◌, refl, sym, ap, subst, ◌∙◌, arith}
use Rattle.std.proofs.lemmas.Bool.{cases_Bool}
use Rattle.std.proofs.lemmas.Slice.Eq.{bytes_eq-Decides}
use Rattle.std.specs.Str.{bytes_eq}
use Rattle.merge_laws.proofs.Alike.{both_merge}
use Rattle.merge_laws.proofs.Flats.{class_on}
use Rattle.merge_laws.proofs.Totals.{one_total}
use Rattle.merge_laws.specs.Merge.{AreAlike, AreOnce, IsClass, IsMergedWidth, Known, added_size, may_merge_row, total_width, width_of, with_added, with_width}
use Rattle.plain_netlist.proofs.Once.{one_device}
use Rattle.plain_netlist.proofs.Rows.{nets_exchanged, nets_first, nets_others, nets_second, same_kind, terminal_over}
use Rattle.plain_netlist.specs.declared.kinds.DeviceKind.{DeviceKind}
use Rattle.plain_netlist.specs.Devices.{AreEndsJoined, AreJoined, AreRowsAlike, Both, Ends, NoEnds, Row, exchanged, nets_of, terminal_nets}
use Rattle.plain_netlist.specs.Flats.{Corresponds, Flat, expanded, row_at}
use Rattle.plain_netlist.specs.Kinds.{same_device_kind}
use Rattle.plain_netlist.specs.Lists.{AreApart, IsListed}
use Rattle.plain_netlist.specs.Netlist.{HasDevice, InOneNet, Netlist, Slot, slot}
use Rattle.plain_netlist.specs.Sound.{IsGood}
use Rattle.merge_laws.proofs.Listed.{all_below, are_below, known, listed_below, terminal_there}
use Rattle.merge_laws.proofs.Roots.{one_or_not, slot_or_not}
use Rattle.merge_laws.specs.Whole.{IsWhole, MergedOnceLaw, MergedWholeLaw}

-- ---- what is decided

abbrev OrNot : Type 0 → Type 0
OrNot P = P ⊎ (P → ⊥)

both_or_not : {P Q : Type 0} → OrNot P → OrNot Q → OrNot (P × Q)
both_or_not (inr not) q = inr (λ h. not h.0)
both_or_not (inl p) (inr not) = inr (λ h. not h.1)
both_or_not (inl p) (inl q) = inl (p, q)

either_or_not : {P Q : Type 0} → OrNot P → OrNot Q → OrNot (P ⊎ Q)
either_or_not (inl p) q = inl (inl p)
either_or_not (inr not) (inl q) = inl (inr q)
either_or_not (inr not) (inr never) = inr (λ h. elim h [ inl p ↦ not p | inr q ↦ never q ])

true_or_not : (b : Bool) → OrNot (b ≡ true)
true_or_not true = inl refl
true_or_not false = inr (λ e. true≢false (sym e))

bytes_or_not : (a b : List ℕ) → OrNot (a ≡ b)
bytes_or_not a b = elim (cases_Bool (bytes_eq a b)) [
  | inl t ↦ inl ((bytes_eq-Decides a b).0 t)
  | inr f ↦ inr (λ e. true≢false (sym ((bytes_eq-Decides a b).1 e) ∙ f))
]

kind_or_not : (a b : DeviceKind) → OrNot (a ≡ b)
kind_or_not a b = elim (cases_Bool (same_device_kind a b)) [
  | inl t ↦ inl ((same_kind a b).0 t)
  | inr f ↦ inr (λ e. true≢false (sym ((same_kind a b).1 e) ∙ f))
]

joined_or_not : {N : Type 0} (same : N → N → Type 0) (ns ms : List N) → ((n m : N) → IsListed n ns → IsListed m ms → OrNot (same n m)) → OrNot (AreJoined same ns ms)
joined_or_not same [] [] each = inl tt
joined_or_not same [] (m ∷ ms) each = inr (λ h. h)
joined_or_not same (n ∷ ns) [] each = inr (λ h. h)
joined_or_not same (n ∷ ns) (m ∷ ms) each = both_or_not (each n m (inl refl) (inl refl)) (joined_or_not same ns ms (λ x y i j. each x y (inr i) (inr j)))

ends_or_not : {N : Type 0} (same : N → N → Type 0) (d e : Ends N) (ns ms : List N) → ((n m : N) → IsListed n (nets_of d ns) → IsListed m (nets_of e ms) → OrNot (same n m)) → OrNot (AreEndsJoined same d e)
ends_or_not same NoEnds NoEnds ns ms each = inl tt
ends_or_not same NoEnds (Both a b) ns ms each = inr (λ h. h)
ends_or_not same (Both a b) NoEnds ns ms each = inr (λ h. h)
ends_or_not same (Both a b) (Both c d) ns ms each = both_or_not (each a c (nets_first a b ns) (nets_first c d ms)) (each b d (nets_second a b ns) (nets_second c d ms))

-- what makes rows alike, as a product
abbrev Parts : {N : Type 0} → (N → N → Type 0) → Row N → Row N → Type 0
Parts same r s = (may_merge_row r ≡ true) × ((r.kind ≡ s.kind) × ((r.class ≡ s.class) × ((with_added r.sizes 0 ≡ with_added s.sizes 0)
    × ((AreEndsJoined same r.ends s.ends ⊎ AreEndsJoined same r.ends (exchanged s.ends)) × AreJoined same r.others s.others))))

alike_or_not : {N : Type 0} (same : N → N → Type 0) (r s : Row N) → ((n m : N) → IsListed n (terminal_nets r) → IsListed m (terminal_nets s) → OrNot (same n m)) → OrNot (AreAlike same r s)
alike_or_not same r s each =
    let ends = either_or_not (ends_or_not same r.ends s.ends r.others s.others each)
    (ends_or_not same r.ends (exchanged s.ends) r.others s.others (λ n m i j. each n m i (nets_exchanged s.ends s.others m j))) in
    let others = joined_or_not same r.others s.others (λ n m i j. each n m (nets_others r.ends r.others n i) (nets_others s.ends s.others m j)) in
    let parts : OrNot (Parts same r s) =
    both_or_not (true_or_not (may_merge_row r)) (both_or_not (kind_or_not r.kind s.kind) (both_or_not (bytes_or_not r.class s.class)
    (both_or_not (bytes_or_not (with_added r.sizes 0) (with_added s.sizes 0)) (both_or_not ends others)))) in
    elim parts [
      | inl (merges, (kind, (class, (sizes, (joined, rest))))) ↦ inl (record { merges = merges; rows = record { kind = kind; class = class; sizes = sizes; ends = joined; others = rest } })
      | inr not ↦ inr (λ a. not (a.merges, (a.rows.kind, (a.rows.class, (a.rows.sizes, (a.rows.ends, a.rows.others))))))
    ]

-- ---- the class of a row

module _ (F : Flat Slot Slot) (r : Row Slot) where
  -- of these devices those alike to the row, each once
  pub record Collected (ds ms : List (Known Slot Slot)) : Type 0 where
    pub each : (d : Known Slot Slot) → IsListed d ms → F.has_device d.name d.row × AreAlike F.one_net r d.row
    pub all : (d : Known Slot Slot) → IsListed d ds → AreAlike F.one_net r d.row → (e : Known Slot Slot) × IsListed e ms × (d.name ≡ e.name)
    pub once : AreOnce (λ (a b : Slot). a ≡ b) ms

  named_or_not : (a : Slot) (ms : List (Known Slot Slot)) → ((e : Known Slot Slot) × IsListed e ms × (a ≡ e.name)) ⊎ ((e : Known Slot Slot) → IsListed e ms → a ≡ e.name → ⊥)
  named_or_not a [] = inr (λ e h n. h)
  named_or_not a (m ∷ ms) = elim (slot_or_not a m.name) [
    | inl e ↦ inl (m, inl refl, e)
    | inr not ↦ elim (named_or_not a ms) [
      | inl h ↦ inl (h.0, inr h.1, h.2)
      | inr none ↦ inr (λ e h n. elim h [ inl q ↦ not (n ∙ ap (λ (z : Known Slot Slot). z.name) q) | inr i ↦ none e i n ])
    ]
  ]

  pub collect : (ds : List (Known Slot Slot)) → ((d : Known Slot Slot) → IsListed d ds → F.has_device d.name d.row × OrNot (AreAlike F.one_net r d.row)) → (ms : List (Known Slot Slot)) × Collected ds ms
  collect [] is = ([], record { each = λ d h. absurd h; all = λ d h l. absurd h; once = tt })
  collect (d ∷ ds) is =
      let rest = collect ds (λ z i. is z (inr i)) in
      let c = rest.1 in
      let here = is d (inl refl) in
      elim here.1 [
        | inr not ↦ (
          rest.0,
          record {
            each = c.each;
            all = λ z i l. elim i [ inl q ↦ absurd (not (subst (λ (y : Known Slot Slot). AreAlike F.one_net r y.row) q l)) | inr j ↦ c.all z j l ];
            once = c.once;
          },
        )
        | inl near ↦ elim (named_or_not d.name rest.0) [
          | inl found ↦ (
            rest.0,
            record {
              each = c.each;
              all = λ z i l. elim i [ inl q ↦ (found.0, found.1, ap (λ (y : Known Slot Slot). y.name) q ∙ found.2) | inr j ↦ c.all z j l ];
              once = c.once;
            },
          )
          | inr none ↦ (
            d ∷ rest.0,
            record {
              each = λ z i. elim i [ inl q ↦ subst (λ (y : Known Slot Slot). F.has_device y.name y.row × AreAlike F.one_net r y.row) (sym q) (here.0, near) | inr j ↦ c.each z j ];
              all = λ z i l. elim i [ inl q ↦ (d, inl refl, ap (λ (y : Known Slot Slot). y.name) q) | inr j ↦ (let k = c.all z j l in (k.0, inr k.1, k.2)) ];
              once = (none, c.once);
            },
          )
        ]
      ]

-- ---- no device is lost

module _ (nl : Netlist) (height : ℕ → ℕ) (good : IsGood nl height) (t : ℕ) where
  abbrev F : Flat Slot Slot
  F = expanded nl t

  nets_or_not : (a b : Slot) (r s : Row Slot) → F.has_device a r → F.has_device b s → (n m : Slot) → IsListed n (terminal_nets r) → IsListed m (terminal_nets s) → OrNot (InOneNet nl t n m)
  nets_or_not a b r s (row, has, e) (other, also, f) n m i j =
      let x = terminal_over (slot a.path) row n (subst (λ (z : Row Slot). IsListed n (terminal_nets z)) e i) in
      let y = terminal_over (slot b.path) other m (subst (λ (z : Row Slot). IsListed m (terminal_nets z)) f j) in
      let one = one_or_not nl height good t (slot a.path x.0) (slot b.path y.0) (terminal_there nl height good t a.path a.net x.0 row has x.1) (terminal_there nl height good t b.path b.net y.0 other also y.1) in
      subst (λ (z : Slot). OrNot (InOneNet nl t z m)) (sym x.2) (subst (λ (z : Slot). OrNot (InOneNet nl t (slot a.path x.0) z)) (sym y.2) one)

  class_of : (a : Slot) (r : Row Slot) → F.has_device a r → (ms : List (Known Slot Slot)) × IsClass F r ms
  class_of a r h =
      let all = all_below nl (suc (height t)) t in
      let got = collect F r all (λ d i. (let is = are_below nl (suc (height t)) t d i in let k : F.has_device d.name d.row = (is.0, is.1, is.2) in (k, alike_or_not (InOneNet nl t) r d.row (nets_or_not a d.name r d.row h k)))) in
      let c = got.1 in (
        got.0,
        record {
          each = c.each;
          all = λ b s (row, has, e) l.
              let at : AreAlike F.one_net r (row_at b.path row) = subst (AreAlike F.one_net r) e l in
              c.all (known b.path b.net row) (listed_below nl height good (suc (height t)) t b.path b.net row (omega arith) has) at;
          once = c.once;
        },
      )

  whole : IsWhole F
  whole a r h = elim (cases_Bool (may_merge_row r)) [
    | inl merges ↦
        let c = class_of a r h in
        let is : IsMergedWidth F r (total_width c.0) = inl (merges, c.0, c.1, refl) in
        (total_width c.0, is, (r, h, total_width c.0, is, refl))
    | inr not ↦ let is : IsMergedWidth F r (width_of r) = inr (not, refl) in (width_of r, is, (r, h, width_of r, is, refl))
  ]

pub merged_whole : MergedWholeLaw
merged_whole nl height good t = whole nl height good t

-- nor in what corresponds to it
module _ {D N E M : Type 0} (F : Flat D N) (G : Flat E M) (device : D → E → Type 0) (net : N → M → Type 0) (h : Corresponds F G device net) where
  width_on : (w : ℕ) (r : Row N) (s : Row M) → AreRowsAlike net r s → IsMergedWidth F r w → IsMergedWidth G s w
  width_on w r s rows (inl (merges, ds, is, e)) = let k = class_on F G device net h r s ds rows is in inl (sym (both_merge net r s rows) ∙ merges, k.0, k.1, e ∙ k.2)
  width_on w r s rows (inr (not, e)) = inr (sym (both_merge net r s rows) ∙ not, e ∙ ap added_size rows.sizes)

  pub whole_on : IsWhole F → IsWhole G
  whole_on all y s has =
      let x = h.back y s has in
      let w = all x.0 x.1 x.2 in
      let is = width_on w.0 x.1 s x.4 w.1 in
      (w.0, is, (s, has, w.0, is, refl))

-- ---- and it has one row

module _ (nl : Netlist) (t : ℕ) where
  abbrev E : Flat Slot Slot
  E = expanded nl t

  one_row : (a b : Slot) (r s : Row Slot) → E.has_device a r → E.has_device b s → a ≡ b → r ≡ s
  one_row a b r s (row, has, e) (other, also, f) p =
      let rows : row ≡ other = one_device nl b.path t b.net row other (subst (λ (z : Slot). HasDevice nl t z.path z.net row) p has) also in
      e ∙ (ap (row_at a.path) rows ∙ (ap (λ (z : Slot). row_at z.path other) p ∙ sym f))

  abbrev named : Slot → Row Slot → Known Slot Slot
  named a r = record { name = a; row = r }

  same_known : (m n : Known Slot Slot) → E.has_device m.name m.row → E.has_device n.name n.row → m.name ≡ n.name → m ≡ n
  same_known m n h k p = go m n p (one_row m.name n.name m.row n.row h k p)
    where
      go : (m n : Known Slot Slot) → m.name ≡ n.name → m.row ≡ n.row → m ≡ n
      go m n p q = ap (λ (a : Slot). named a m.row) p ∙ ap (named n.name) q

  apart_once : (ms : List (Known Slot Slot)) → AreOnce (λ (a b : Slot). a ≡ b) ms → AreApart ms
  apart_once [] o = tt
  apart_once (m ∷ ms) o = ((λ i. o.0 m i refl), apart_once ms o.1)

  in_other : (s : Row Slot) (ms ks : List (Known Slot Slot)) → IsClass E s ms → IsClass E s ks → (z : Known Slot Slot) → IsListed z ms → IsListed z ks
  in_other s ms ks a b z i =
      let e = a.each z i in
      let d = b.all z.name z.row e.0 e.1 in
      let f = b.each d.0 d.1 in
      subst (λ (k : Known Slot Slot). IsListed k ks) (sym (same_known z d.0 e.0 f.0 d.2)) d.1

  one_width : (s : Row Slot) (w x : ℕ) → IsMergedWidth E s w → IsMergedWidth E s x → w ≡ x
  one_width s w x (inl (m, ms, a, e)) (inl (k, ks, b, f)) = e ∙ (one_total ms ks (apart_once ms a.once) (apart_once ks b.once) (in_other s ms ks a b) (in_other s ks ms b a) ∙ sym f)
  one_width s w x (inl (m, ms, a, e)) (inr (never, f)) = absurd (true≢false (sym m ∙ never))
  one_width s w x (inr (never, e)) (inl (m, ks, b, f)) = absurd (true≢false (sym m ∙ never))
  one_width s w x (inr (m, e)) (inr (k, f)) = e ∙ sym f

pub merged_once : MergedOnceLaw
merged_once nl t a r s (u, has, w, is, e) (v, also, x, it, f) =
    let rows : u ≡ v = one_row nl t a a u v has also refl in
    let widths : w ≡ x = one_width nl t v w x (subst (λ (z : Row Slot). IsMergedWidth (expanded nl t) z w) rows is) it in
    e ∙ (ap (λ (z : Row Slot). with_width z w) rows ∙ (ap (λ (n : ℕ). with_width v n) widths ∙ sym f))
