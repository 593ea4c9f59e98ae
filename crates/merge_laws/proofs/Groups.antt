-- The groups of a circuit's devices: each in one, those of one alike, those of two not.
use Rattle.std.proofs.Common.{◌≡◌, ◌⊎◌, inl, inr, ℕ, zero, suc, ◌+◌, ◌<◌, Bool, true, false, cond, List, [], ◌∷◌, ◌++◌, map, length, Some, slice_get, refl, sym, ◌∙◌, ap, subst, arith, true≢false}
use Rattle.base_laws.proofs.Items.{map_from}
use Rattle.std.proofs.lemmas.Option.{same_Some}
use Rattle.std.proofs.Math.Decide.{ℕ_discrete}
use Rattle.plain_netlist.specs.Lists.{IsListed, AreApart}
use Rattle.plain_netlist.specs.Netlist.{DeviceRow, Circuit}
use Rattle.plain_netlist.proofs.Members.{in_left, in_right, either_side}
use Rattle.merge_laws.specs.Grouped.{is_alike, Placed, Group, members, sum_width, with_device, grouped, groups, merged_row, merged_circuit, UnlikeLaw}
use Rattle.merge_laws.proofs.Alike.{is_turned, is_through, widths_apart}

abbrev pub joined : Group → Placed → Group
joined g d = record { first = g.first; others = g.others ++ d ∷ [] }

abbrev pub single : Placed → Group
single d = record { first = d; others = [] }

-- group k is one that the device has joined or begun
abbrev pub IsNew : List Group → Placed → ℕ → Group → Type 0
IsNew gs d k h =
    ((g : Group) × (slice_get gs k ≡ Some g) × (is_alike g.first.row d.row ≡ true) × (h ≡ joined g d))
    ⊎ ((h ≡ single d) × ((i : ℕ) (g : Group) → slice_get gs i ≡ Some g → is_alike g.first.row d.row ≡ false) × (k ≡ length gs))

from_new : (gs : List Group) (d : Placed) (k : ℕ) (h : Group) → slice_get (with_device gs d) k ≡ Some h → (slice_get gs k ≡ Some h) ⊎ IsNew gs d k h
from_new [] d zero h e = inr (inr (sym (same_Some (single d) h e), (λ i g f. absurd (let z : ⊥ = cc in z)), refl))
from_new [] d (suc k) h e = absurd (let z : ⊥ = cc in z)
from_new (g ∷ gs) d k h e = at (λ i f. from_new gs d i h f) (is_alike g.first.row d.row) refl k e
  where
    deeper : (k : ℕ) → is_alike g.first.row d.row ≡ false → (slice_get gs k ≡ Some h) ⊎ IsNew gs d k h → (slice_get gs k ≡ Some h) ⊎ IsNew (g ∷ gs) d (suc k) h
    deeper k far (inl f) = inl f
    deeper k far (inr (inl (o, f, a, i))) = inr (inl (o, f, a, i))
    deeper k far (inr (inr (i, none, l))) = inr (inr (i, not, ap suc l))
      where
        not : (i : ℕ) (o : Group) → slice_get (g ∷ gs) i ≡ Some o → is_alike o.first.row d.row ≡ false
        not zero o f = subst (λ (z : Group). is_alike z.first.row d.row ≡ false) (same_Some g o f) far
        not (suc i) o f = none i o f

    at : ((i : ℕ) → slice_get (with_device gs d) i ≡ Some h → (slice_get gs i ≡ Some h) ⊎ IsNew gs d i h) → (b : Bool) → is_alike g.first.row d.row ≡ b → (k : ℕ) → slice_get (cond b (joined g d ∷ gs) (g ∷ with_device gs d)) k ≡ Some h → (slice_get (g ∷ gs) k ≡ Some h) ⊎ IsNew (g ∷ gs) d k h
    at rec true a zero f = inr (inl (g, refl, a, sym (same_Some (joined g d) h f)))
    at rec true a (suc k) f = inl f
    at rec false a zero f = inl f
    at rec false a (suc k) f = deeper k a (rec k f)

-- group k goes on with its members, and the device is in one
stays : (gs : List Group) (d : Placed) (k : ℕ) (g : Group) → slice_get gs k ≡ Some g
    → (h : Group) × (slice_get (with_device gs d) k ≡ Some h) × ((m : Placed) → IsListed m (members g) → IsListed m (members h))
stays [] d k g e = absurd (let z : ⊥ = cc in z)
stays (o ∷ gs) d k g e = at (λ i f. stays gs d i g f) (is_alike o.first.row d.row) k e
  where
    at : ((i : ℕ) → slice_get gs i ≡ Some g → (h : Group) × (slice_get (with_device gs d) i ≡ Some h) × ((m : Placed) → IsListed m (members g) → IsListed m (members h)))
        → (b : Bool) (k : ℕ) → slice_get (o ∷ gs) k ≡ Some g → (h : Group) × (slice_get (cond b (joined o d ∷ gs) (o ∷ with_device gs d)) k ≡ Some h) × ((m : Placed) → IsListed m (members g) → IsListed m (members h))
    at rec true zero f = (joined o d, refl, (λ m i. let j = subst (λ (z : Group). IsListed m (members z)) (sym (same_Some o g f)) i in in_left (members o) (d ∷ []) m j))
    at rec true (suc k) f = (g, f, (λ m i. i))
    at rec false zero f = (g, f, (λ m i. i))
    at rec false (suc k) f = rec k f

there : (gs : List Group) (d : Placed) → (k : ℕ) × (h : Group) × (slice_get (with_device gs d) k ≡ Some h) × IsListed d (members h)
there [] d = (0, single d, refl, inl refl)
there (o ∷ gs) d = at (there gs d) (is_alike o.first.row d.row)
  where
    at : (k : ℕ) × (h : Group) × (slice_get (with_device gs d) k ≡ Some h) × IsListed d (members h) → (b : Bool) → (k : ℕ) × (h : Group) × (slice_get (cond b (joined o d ∷ gs) (o ∷ with_device gs d)) k ≡ Some h) × IsListed d (members h)
    at r true = (0, joined o d, refl, in_right (members o) (d ∷ []) d (inl refl))
    at r false = (suc r.0, r.1, r.2, r.3)

-- what the groups of the first n devices are
pub record AreGroups (all : List DeviceRow) (n : ℕ) (gs : List Group) : Type 0 where
  pub each : (k : ℕ) (g : Group) (d : Placed) → slice_get gs k ≡ Some g → IsListed d (members g) → (slice_get all d.place ≡ Some d.row) × (d.place < n)
  pub found : (i : ℕ) (row : DeviceRow) → i < n → slice_get all i ≡ Some row → (k : ℕ) × (g : Group) × (slice_get gs k ≡ Some g) × IsListed (record { place = i; row = row }) (members g)
  pub alike : (k : ℕ) (g : Group) (d : Placed) → slice_get gs k ≡ Some g → IsListed d g.others → is_alike g.first.row d.row ≡ true
  pub unlike : (k l : ℕ) (g h : Group) → slice_get gs k ≡ Some g → slice_get gs l ≡ Some h → is_alike g.first.row h.first.row ≡ true → k ≡ l
  pub one : (k l : ℕ) (g h : Group) (d e : Placed) → slice_get gs k ≡ Some g → slice_get gs l ≡ Some h → IsListed d (members g) → IsListed e (members h) → d.place ≡ e.place → k ≡ l
  pub apart : (k : ℕ) (g : Group) → slice_get gs k ≡ Some g → AreApart (map (λ (d : Placed). d.place) (members g))

places_of : (xs : List Placed) (p : ℕ) → IsListed p (map (λ (d : Placed). d.place) xs) → (d : Placed) × IsListed d xs × (p ≡ d.place)
places_of [] p h = absurd h
places_of (x ∷ xs) p (inl e) = (x, inl refl, e)
places_of (x ∷ xs) p (inr h) = let r = places_of xs p h in (r.0, inr r.1, r.2)

apart_behind : (xs : List Placed) (d : Placed) → AreApart (map (λ (d : Placed). d.place) xs) → ((e : Placed) → IsListed e xs → e.place ≡ d.place → ⊥) → AreApart (map (λ (d : Placed). d.place) (xs ++ d ∷ []))
apart_behind [] d a not = ((λ h. h), tt)
apart_behind (x ∷ xs) d a not = (
  (λ h. let r = places_of (xs ++ d ∷ []) x.place h in elim (either_side xs (d ∷ []) r.0 r.1) [
    | inl i ↦ a.0 (listed_place xs r.0 x.place i r.2)
    | inr i ↦ elim i [ inl e ↦ not x (inl refl) (r.2 ∙ ap (λ (z : Placed). z.place) e) | inr z ↦ z ]
  ]),
  apart_behind xs d a.1 (λ e i. not e (inr i)),
)
  where
    listed_place : (xs : List Placed) (e : Placed) (p : ℕ) → IsListed e xs → p ≡ e.place → IsListed p (map (λ (d : Placed). d.place) xs)
    listed_place [] e p h q = absurd h
    listed_place (y ∷ ys) e p (inl h) q = inl (q ∙ ap (λ (z : Placed). z.place) h)
    listed_place (y ∷ ys) e p (inr h) q = inr (listed_place ys e p h q)

module _ (all : List DeviceRow) (n : ℕ) (gs : List Group) (row : DeviceRow) (at : slice_get all n ≡ Some row) (are : AreGroups all n gs) where
  abbrev d : Placed
  d = record { place = n; row = row }

  -- a group of the next list: its members are those of the group there before, or the new one
  member : (k : ℕ) (h : Group) (m : Placed) → slice_get (with_device gs d) k ≡ Some h → IsListed m (members h)
      → ((g : Group) × (slice_get gs k ≡ Some g) × IsListed m (members g)) ⊎ ((m ≡ d) × IsNew gs d k h)
  member k h m e i = elim (from_new gs d k h e) [
    | inl f ↦ inl (h, f, i)
    | inr (inl (g, f, a, is)) ↦ elim (either_side (members g) (d ∷ []) m (subst (λ (z : Group). IsListed m (members z)) is i)) [
      | inl j ↦ inl (g, f, j)
      | inr j ↦ elim j [ inl same ↦ inr (same, inl (g, f, a, is)) | inr z ↦ absurd z ]
    ]
    | inr (inr (is, none, l)) ↦ elim (subst (λ (z : Group). IsListed m (members z)) is i) [ inl same ↦ inr (same, inr (is, none, l)) | inr z ↦ absurd z ]
  ]

  -- the first of a group there before, or the new one, unlike all before
  first : (k : ℕ) (h : Group) → slice_get (with_device gs d) k ≡ Some h
      → ((g : Group) × (slice_get gs k ≡ Some g) × (h.first ≡ g.first)) ⊎ ((h.first ≡ d) × ((i : ℕ) (g : Group) → slice_get gs i ≡ Some g → is_alike g.first.row row ≡ false) × (k ≡ length gs))
  first k h e = elim (from_new gs d k h e) [
    | inl f ↦ inl (h, f, refl)
    | inr (inl (g, f, a, is)) ↦ inl (g, f, ap (λ (z : Group). z.first) is)
    | inr (inr (is, none, l)) ↦ inr (ap (λ (z : Group). z.first) is, none, l)
  ]

  one_new : (k l : ℕ) (g h : Group) → IsNew gs d k g → IsNew gs d l h → k ≡ l
  one_new k l g h (inl (o, f, a, i)) (inl (p, e, b, j)) = are.unlike k l o p f e (is_through o.first.row row p.first.row a (is_turned p.first.row row b))
  one_new k l g h (inl (o, f, a, i)) (inr (j, none, b)) = absurd (true≢false (sym a ∙ none k o f))
  one_new k l g h (inr (i, none, a)) (inl (o, f, b, j)) = absurd (true≢false (sym b ∙ none l o f))
  one_new k l g h (inr (i, none, a)) (inr (j, other, b)) = a ∙ sym b

  pub next : AreGroups all (suc n) (with_device gs d)
  next = record {
    each = λ k g m e i. elim (member k g m e i) [
      | inl (o, f, j) ↦ let r = are.each k o m f j in (r.0, (let z = r.1 in omega arith))
      | inr (same, is) ↦ (subst (λ (z : Placed). slice_get all z.place ≡ Some z.row) (sym same) at, subst (λ (z : Placed). z.place < suc n) (sym same) (let z : n < suc n = omega arith in z))
    ];
    found = λ i r low e. search_in i r low e (cmp i low);
    alike = λ k g m e i. likes k g m e i (from_new gs d k g e);
    unlike = λ k l g h e f a. apart_of k l g h a (first k g e) (first l h f);
    one = λ k l g h x y e f i j p. ones k l g h x y p (member k g x e i) (member l h y f j);
    apart = λ k g e. aparts k g (from_new gs d k g e);
  }
    where
      cmp : (i : ℕ) → i < suc n → (i < n) ⊎ (i ≡ n)
      cmp i low = elim (ℕ_discrete i n) [ yes e ↦ inr e | no not ↦ inl (omega arith) ]

      search_in : (i : ℕ) (r : DeviceRow) → i < suc n → slice_get all i ≡ Some r → (i < n) ⊎ (i ≡ n) → (k : ℕ) × (g : Group) × (slice_get (with_device gs d) k ≡ Some g) × IsListed (record { place = i; row = r }) (members g)
      search_in i r low e (inl l) = let f = are.found i r l e in let s = stays gs d f.0 f.1 f.2 in (f.0, s.0, s.1, s.2 (record { place = i; row = r }) f.3)
      search_in i r low e (inr same) =
          let t = there gs d in
          let rows : row ≡ r = same_Some row r (sym at ∙ (ap (slice_get all) (sym same) ∙ e)) in
          (t.0, t.1, t.2, subst (λ (z : Placed). IsListed z (members t.1)) (two same rows) t.3)
        where
          two : {i : ℕ} {r : DeviceRow} → i ≡ n → row ≡ r → d ≡ record { place = i; row = r }
          two p q = cc

      likes : (k : ℕ) (g : Group) (m : Placed) → slice_get (with_device gs d) k ≡ Some g → IsListed m g.others → (slice_get gs k ≡ Some g) ⊎ IsNew gs d k g → is_alike g.first.row m.row ≡ true
      likes k g m e i (inl f) = are.alike k g m f i
      likes k g m e i (inr (inl (o, f, a, is))) = subst (λ (z : Placed). is_alike z.row m.row ≡ true) (sym (ap (λ (z : Group). z.first) is))
          (elim (either_side o.others (d ∷ []) m (subst (λ (z : Group). IsListed m z.others) is i)) [
            | inl j ↦ are.alike k o m f j
            | inr j ↦ elim j [ inl same ↦ subst (λ (z : Placed). is_alike o.first.row z.row ≡ true) (sym same) a | inr z ↦ absurd z ]
          ])
      likes k g m e i (inr (inr (is, none, l))) = absurd (subst (λ (z : Group). IsListed m z.others) is i)

      apart_of : (k l : ℕ) (g h : Group) → is_alike g.first.row h.first.row ≡ true
          → ((o : Group) × (slice_get gs k ≡ Some o) × (g.first ≡ o.first)) ⊎ ((g.first ≡ d) × ((i : ℕ) (o : Group) → slice_get gs i ≡ Some o → is_alike o.first.row row ≡ false) × (k ≡ length gs))
          → ((o : Group) × (slice_get gs l ≡ Some o) × (h.first ≡ o.first)) ⊎ ((h.first ≡ d) × ((i : ℕ) (o : Group) → slice_get gs i ≡ Some o → is_alike o.first.row row ≡ false) × (l ≡ length gs))
          → k ≡ l
      apart_of k l g h a (inl (o, e, p)) (inl (q, f, r)) = are.unlike k l o q e f (subst (λ (z : Placed). is_alike o.first.row z.row ≡ true) r (subst (λ (z : Placed). is_alike z.row h.first.row ≡ true) p a))
      apart_of k l g h a (inl (o, e, p)) (inr (q, none, b)) = absurd (true≢false (sym (subst (λ (z : Placed). is_alike o.first.row z.row ≡ true) q (subst (λ (z : Placed). is_alike z.row h.first.row ≡ true) p a)) ∙ none k o e))
      apart_of k l g h a (inr (q, none, b)) (inl (o, e, p)) = absurd (true≢false (sym (is_turned row o.first.row (subst (λ (z : Placed). is_alike row z.row ≡ true) p (subst (λ (z : Placed). is_alike z.row h.first.row ≡ true) q a))) ∙ none l o e))
      apart_of k l g h a (inr (q, none, b)) (inr (r, other, c)) = b ∙ sym c

      ones : (k l : ℕ) (g h : Group) (x y : Placed) → x.place ≡ y.place
          → ((o : Group) × (slice_get gs k ≡ Some o) × IsListed x (members o)) ⊎ ((x ≡ d) × IsNew gs d k g)
          → ((o : Group) × (slice_get gs l ≡ Some o) × IsListed y (members o)) ⊎ ((y ≡ d) × IsNew gs d l h)
          → k ≡ l
      ones k l g h x y p (inl (o, e, i)) (inl (q, f, j)) = are.one k l o q x y e f i j p
      ones k l g h x y p (inl (o, e, i)) (inr (same, is)) = let low = (are.each k o x e i).1 in let z : y.place ≡ n = ap (λ (z : Placed). z.place) same in absurd (omega arith)
      ones k l g h x y p (inr (same, is)) (inl (q, f, j)) = let low = (are.each l q y f j).1 in let z : x.place ≡ n = ap (λ (z : Placed). z.place) same in absurd (omega arith)
      ones k l g h x y p (inr (same, is)) (inr (other, was)) = one_new k l g h is was

      aparts : (k : ℕ) (g : Group) → (slice_get gs k ≡ Some g) ⊎ IsNew gs d k g → AreApart (map (λ (d : Placed). d.place) (members g))
      aparts k g (inl f) = are.apart k g f
      aparts k g (inr (inl (o, f, a, is))) = subst (λ (z : Group). AreApart (map (λ (d : Placed). d.place) (members z))) (sym is)
          (apart_behind (members o) d (are.apart k o f) (λ e i p. let low = (are.each k o e f i).1 in absurd (omega arith)))
      aparts k g (inr (inr (is, none, l))) = subst (λ (z : Group). AreApart (map (λ (d : Placed). d.place) (members z))) (sym is) ((λ h. h), tt)

go : (all : List DeviceRow) (n : ℕ) (gs : List Group) (rows : List DeviceRow)
    → ((i : ℕ) (row : DeviceRow) → slice_get rows i ≡ Some row → slice_get all (n + i) ≡ Some row)
    → ((i : ℕ) (row : DeviceRow) → slice_get all i ≡ Some row → (i < n) ⊎ ((j : ℕ) × (i ≡ n + j) × (slice_get rows j ≡ Some row)))
    → AreGroups all n gs
    → (m : ℕ) × AreGroups all m (grouped gs n rows) × ((i : ℕ) (row : DeviceRow) → slice_get all i ≡ Some row → i < m)
go all n gs [] here rest are = (n, are, (λ i row e. elim (rest i row e) [ inl l ↦ l | inr (j, p, f) ↦ absurd (let z : ⊥ = cc in z) ]))
go all n gs (row ∷ rows) here rest are =
    go all (suc n) (with_device gs (record { place = n; row = row })) rows
    (λ i r e. subst (λ k. slice_get all k ≡ Some r) (let z : n + suc i ≡ suc n + i = omega arith in z) (here (suc i) r e))
    (λ i r e. onward i r (rest i r e))
    (next all n gs row (subst (λ k. slice_get all k ≡ Some row) (let z : n + 0 ≡ n = omega arith in z) (here 0 row refl)) are)
  where
    onward : (i : ℕ) (r : DeviceRow) → (i < n) ⊎ ((j : ℕ) × (i ≡ n + j) × (slice_get (row ∷ rows) j ≡ Some r)) → (i < suc n) ⊎ ((j : ℕ) × (i ≡ suc n + j) × (slice_get rows j ≡ Some r))
    onward i r (inl l) = inl (omega arith)
    onward i r (inr (zero, p, f)) = inl (omega arith)
    onward i r (inr (suc j, p, f)) = inr (j, (omega arith), f)

-- the groups of a circuit's devices
pub are_groups : (rows : List DeviceRow) → (m : ℕ) × AreGroups rows m (groups rows) × ((i : ℕ) (row : DeviceRow) → slice_get rows i ≡ Some row → i < m)
are_groups rows = go rows 0 [] rows (λ i r e. subst (λ k. slice_get rows k ≡ Some r) (let z : i ≡ 0 + i = omega arith in z) e) (λ i r e. inr (i, (omega arith), e)) (record {
  each = λ k g d e. absurd (let z : ⊥ = cc in z);
  found = λ i r low e. absurd (omega arith);
  alike = λ k g d e. absurd (let z : ⊥ = cc in z);
  unlike = λ k l g h e. absurd (let z : ⊥ = cc in z);
  one = λ k l g h d e f. absurd (let z : ⊥ = cc in z);
  apart = λ k g e. absurd (let z : ⊥ = cc in z);
})

pub unlike_law : UnlikeLaw
unlike_law nl t c is i j a b at_a at_b like =
    let o = map_from merged_circuit nl.circuits t c is in
    let rows = o.0.devices in
    let g = map_from merged_row (groups rows) i a (subst (λ (z : Circuit). slice_get z.devices i ≡ Some a) (sym o.2) at_a) in
    let h = map_from merged_row (groups rows) j b (subst (λ (z : Circuit). slice_get z.devices j ≡ Some b) (sym o.2) at_b) in
    let first : is_alike (merged_row g.0) b ≡ true = subst (λ (z : DeviceRow). is_alike z b ≡ true) (sym g.2) like in
    let both : is_alike (merged_row g.0) (merged_row h.0) ≡ true = subst (λ (z : DeviceRow). is_alike (merged_row g.0) z ≡ true) (sym h.2) first in
    (are_groups rows).1.unlike i j g.0 h.0 g.1 h.1 (widths_apart g.0.first.row h.0.first.row (sum_width (members g.0)) (sum_width (members h.0)) both)
