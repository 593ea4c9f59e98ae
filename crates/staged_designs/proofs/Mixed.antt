-- Plain designs that differ in the layers of some keys, key by key.
use Rattle.std.proofs.Common.{◌≡◌, ◌⊎◌, ◌↔◌, inl, inr, ℕ, zero, suc, Bool, true, false, not, cond, List, [], ◌∷◌, ◌++◌, Some, None, length, slice_get, refl, sym, ◌∙◌, ap, subst, arith}
use Rattle.std.specs.List.{filter}
use Rattle.std.proofs.lemmas.Bool.{cases_Bool}
use Rattle.base_laws.proofs.Tests.{not_both}
use Rattle.flat_layout.specs.Layout.{Cell, Design, Layer, Place, Some_of, Text, HasText, IsOwn, IsPlaced, IsReached}
use Rattle.flat_layout.specs.Plane.{IsIn}
use Rattle.geo_base.specs.Layers.{is_same_key}
use Rattle.geo_base.specs.declared.layer.LayerKey.{LayerKey}
use Rattle.geo_base.specs.declared.shapes.Square.{Square}
use Rattle.cell_graph.proofs.Bridge.{key_is, key_own, key_same}
use Rattle.cell_graph.proofs.Resolving.{at_too}
use Rattle.select_laws.specs.Layered.{IsOwnSelected, IsSameElse}
use Rattle.select_laws.specs.Selects.{sight}
use Rattle.select_laws.specs.Staged.{Stage, IsStaged, IsKeyOf, Reads}
use Rattle.select_laws.specs.Whole.{ArePartedRegions}
use Rattle.select_laws.proofs.Grouped.{group, group_parted, reached_to}

abbrev pub IsOn : LayerKey → Square → Layer → Type 0
IsOn key q layer = (layer.key ≡ key) × Some_of (IsIn q) layer.rects

-- some of the items that pass a test

pub some_passed : {A : Type 0} (P : A → Type 0) (test : A → Bool) (xs : List A) → Some_of P (filter test xs) → Some_of P xs
some_passed P test [] h = h
some_passed P test (x ∷ xs) h = elim (cases_Bool (test x)) [
  | inl e ↦ elim (subst (λ b. Some_of P (cond b (x ∷ filter test xs) (filter test xs))) e h) [ inl a ↦ inl a | inr b ↦ inr (some_passed P test xs b) ]
  | inr e ↦ inr (some_passed P test xs (subst (λ b. Some_of P (cond b (x ∷ filter test xs) (filter test xs))) e h))
]

pub pass_some : {A : Type 0} (P : A → Type 0) (test : A → Bool) (xs : List A) → ((x : A) → P x → test x ≡ true) → Some_of P xs → Some_of P (filter test xs)
pass_some P test [] all h = h
pass_some P test (x ∷ xs) all (inl p) = subst (λ b. Some_of P (cond b (x ∷ filter test xs) (filter test xs))) (sym (all x p)) (inl p)
pass_some P test (x ∷ xs) all (inr h) = elim (cases_Bool (test x)) [
  | inl e ↦ subst (λ b. Some_of P (cond b (x ∷ filter test xs) (filter test xs))) (sym e) (inr (pass_some P test xs all h))
  | inr e ↦ subst (λ b. Some_of P (cond b (x ∷ filter test xs) (filter test xs))) (sym e) (pass_some P test xs all h)
]

pub none_passed : {A : Type 0} (P : A → Type 0) (test : A → Bool) (xs : List A) → ((x : A) → P x → test x ≡ false) → Some_of P (filter test xs) → ⊥
none_passed P test [] none h = h
none_passed P test (x ∷ xs) none h = elim (cases_Bool (test x)) [
  | inl e ↦ elim (subst (λ b. Some_of P (cond b (x ∷ filter test xs) (filter test xs))) e h) [ inl a ↦ not_both (test x) e (none x a) | inr b ↦ none_passed P test xs none b ]
  | inr e ↦ none_passed P test xs none (subst (λ b. Some_of P (cond b (x ∷ filter test xs) (filter test xs))) e h)
]

pub some_left : {A : Type 0} (P : A → Type 0) (xs ys : List A) → Some_of P xs → Some_of P (xs ++ ys)
some_left P [] ys h = absurd h
some_left P (x ∷ xs) ys (inl h) = inl h
some_left P (x ∷ xs) ys (inr h) = inr (some_left P xs ys h)

pub some_right : {A : Type 0} (P : A → Type 0) (xs ys : List A) → Some_of P ys → Some_of P (xs ++ ys)
some_right P [] ys h = h
some_right P (x ∷ xs) ys h = inr (some_right P xs ys h)

pub some_either : {A : Type 0} (P : A → Type 0) (xs ys : List A) → Some_of P (xs ++ ys) → Some_of P xs ⊎ Some_of P ys
some_either P [] ys h = inr h
some_either P (x ∷ xs) ys (inl h) = inl (inl h)
some_either P (x ∷ xs) ys (inr h) = elim (some_either P xs ys h) [ inl g ↦ inl (inr g) | inr g ↦ inr g ]

-- one design, but on one key the other

abbrev is_key : LayerKey → Layer → Bool
is_key key l = is_same_key l.key key

abbrev isnt_key : LayerKey → Layer → Bool
isnt_key key l = not (is_same_key l.key key)

on_key : (key : LayerKey) (q : Square) (l : Layer) → IsOn key q l → is_key key l ≡ true
on_key key q l h = subst (λ k. is_same_key l.key k ≡ true) h.0 (key_own l.key)

off_key : (key other : LayerKey) (q : Square) → (other ≡ key → ⊥) → (l : Layer) → IsOn other q l → is_key key l ≡ false
off_key key other q differ l h = elim (key_is l.key key) [
  | inl e ↦ absurd (differ (sym h.0 ∙ key_same l.key key e))
  | inr e ↦ e
]

abbrev pub mixed : LayerKey → List Cell → List Cell → List Cell
mixed key [] ps = []
mixed key (c ∷ cs) [] = []
mixed key (c ∷ cs) (p ∷ ps) = record { name = c.name; layers = filter (is_key key) p.layers ++ filter (isnt_key key) c.layers; texts = c.texts; places = c.places } ∷ mixed key cs ps

abbrev mix : LayerKey → Cell → Cell → Cell
mix key c p = record { name = c.name; layers = filter (is_key key) p.layers ++ filter (isnt_key key) c.layers; texts = c.texts; places = c.places }

mixed_at : (key : LayerKey) (cs ps : List Cell) (i : ℕ) (c p : Cell) → slice_get cs i ≡ Some c → slice_get ps i ≡ Some p → slice_get (mixed key cs ps) i ≡ Some (mix key c p)
mixed_at key [] ps i c p e f = let g : None ≡ Some c = e in absurd (let z : ⊥ = cc in z)
mixed_at key (x ∷ cs) [] i c p e f = let g : None ≡ Some p = f in absurd (let z : ⊥ = cc in z)
mixed_at key (x ∷ cs) (y ∷ ps) zero c p e f =
    let a : x ≡ c = cc in
    let b : y ≡ p = cc in
    ap (λ (v : Cell). Some (mix key v y)) a ∙ ap (λ (v : Cell). Some (mix key c v)) b
mixed_at key (x ∷ cs) (y ∷ ps) (suc i) c p e f = mixed_at key cs ps i c p e f

record IsMixed (key : LayerKey) (cs ps : List Cell) (i : ℕ) (m : Cell) : Type 0 where
  first : Cell
  second : Cell
  there : slice_get cs i ≡ Some first
  here : slice_get ps i ≡ Some second
  is : m ≡ mix key first second

at_mixed : (key : LayerKey) (cs ps : List Cell) (i : ℕ) (m : Cell) → slice_get (mixed key cs ps) i ≡ Some m → IsMixed key cs ps i m
at_mixed key [] ps i m e = let g : None ≡ Some m = e in absurd (let z : ⊥ = cc in z)
at_mixed key (x ∷ cs) [] i m e = let g : None ≡ Some m = e in absurd (let z : ⊥ = cc in z)
at_mixed key (x ∷ cs) (y ∷ ps) zero m e = record { first = x; second = y; there = refl; here = refl; is = (let g : Some (mix key x y) ≡ Some m = e in let f : mix key x y ≡ m = cc in sym f) }
at_mixed key (x ∷ cs) (y ∷ ps) (suc i) m e = let h = at_mixed key cs ps i m e in record { first = h.first; second = h.second; there = h.there; here = h.here; is = h.is }

-- the one design, and what the other has of the stages' keys
pub record AreAlike (d e : Design) : Type 0 where
  pub top : e.top ≡ d.top
  pub count : length d.cells ≡ length e.cells
  pub places : (cell k : ℕ) (p : Place) → IsPlaced e cell k p ↔ IsPlaced d cell k p
  pub texts : (cell : ℕ) (t : Text) → HasText e cell t ↔ HasText d cell t

pub record Holds (d e : Design) (ss : List Stage) : Type 0 where
  pub alike : AreAlike d e
  pub others : (cell : ℕ) (key : LayerKey) (q : Square) → (IsKeyOf ss key → ⊥) → IsOwn e cell key q ↔ IsOwn d cell key q
  pub each : (i : ℕ) (s : Stage) → slice_get ss i ≡ Some s → (cell : ℕ) (q : Square) → IsReached d cell → IsOwn e cell s.key q ↔ IsOwnSelected d s.select cell q
  pub parted : (i : ℕ) (s : Stage) → slice_get ss i ≡ Some s → ArePartedRegions d s.select.joint (sight s.select)

module _ (d e : Design) (alike : AreAlike d e) (key : LayerKey) where
  abbrev m : Design
  m = record { cells = mixed key d.cells e.cells; top = d.top; way = d.way }

  mixed_of : (cell : ℕ) (c : Cell) → slice_get d.cells cell ≡ Some c → (p : Cell) × (slice_get e.cells cell ≡ Some p) × (slice_get m.cells cell ≡ Some (mix key c p))
  mixed_of cell c at = let p = at_too d.cells e.cells cell c alike.count at in (p.0, p.1, mixed_at key d.cells e.cells cell c p.0 at p.1)

  mixed_places : (cell k : ℕ) (p : Place) → IsPlaced m cell k p ↔ IsPlaced d cell k p
  mixed_places cell k p = (
    (λ h. let a = at_mixed key d.cells e.cells cell h.0 h.1 in (a.first, a.there, subst (λ (c : Cell). slice_get c.places k ≡ Some p) a.is h.2)),
    (λ h. let r = mixed_of cell h.0 h.1 in (mix key h.0 r.0, r.2, h.2)),
  )

  mixed_texts : (cell : ℕ) (t : Text) → HasText m cell t ↔ HasText d cell t
  mixed_texts cell t = (
    (λ h. let a = at_mixed key d.cells e.cells cell h.0 h.1 in (a.first, a.there, subst (λ (c : Cell). Some_of (λ u. u ≡ t) c.texts) a.is h.2)),
    (λ h. let r = mixed_of cell h.0 h.1 in (mix key h.0 r.0, r.2, h.2)),
  )

  pub mixed_other : (cell : ℕ) (other : LayerKey) (q : Square) → (other ≡ key → ⊥) → IsOwn m cell other q ↔ IsOwn d cell other q
  mixed_other cell other q differ = (
    (λ h.
        let a = at_mixed key d.cells e.cells cell h.0 h.1 in
        let s = subst (λ (c : Cell). Some_of (IsOn other q) c.layers) a.is h.2 in (
          a.first,
          a.there,
          elim (some_either (IsOn other q) (filter (is_key key) a.second.layers) (filter (isnt_key key) a.first.layers) s) [
            | inl x ↦ absurd (none_passed (IsOn other q) (is_key key) a.second.layers (off_key key other q differ) x)
            | inr x ↦ some_passed (IsOn other q) (isnt_key key) a.first.layers x
          ],
        )),
    (λ h.
        let r = mixed_of cell h.0 h.1 in (
          mix key h.0 r.0,
          r.2,
          some_right (IsOn other q) (filter (is_key key) r.0.layers) (filter (isnt_key key) h.0.layers)
              (pass_some (IsOn other q) (isnt_key key) h.0.layers (λ l on. ap not (off_key key other q differ l on)) h.2),
        )),
  )

  pub mixed_key : (cell : ℕ) (q : Square) → IsOwn m cell key q ↔ IsOwn e cell key q
  mixed_key cell q = (
    (λ h.
        let a = at_mixed key d.cells e.cells cell h.0 h.1 in
        let s = subst (λ (c : Cell). Some_of (IsOn key q) c.layers) a.is h.2 in (
          a.second,
          a.here,
          elim (some_either (IsOn key q) (filter (is_key key) a.second.layers) (filter (isnt_key key) a.first.layers) s) [
            | inl x ↦ some_passed (IsOn key q) (is_key key) a.second.layers x
            | inr x ↦ absurd (none_passed (IsOn key q) (isnt_key key) a.first.layers (λ l on. ap not (on_key key q l on)) x)
          ],
        )),
    (λ h.
        let c = at_too e.cells d.cells cell h.0 (sym alike.count) h.1 in (
          mix key c.0 h.0,
          mixed_at key d.cells e.cells cell c.0 h.0 c.1 h.1,
          some_left (IsOn key q) (filter (is_key key) h.0.layers) (filter (isnt_key key) c.0.layers)
              (pass_some (IsOn key q) (is_key key) h.0.layers (on_key key q) h.2),
        )),
  )

  pub mixed_same : IsSameElse d m key
  mixed_same = record { top = refl; places = mixed_places; texts = mixed_texts; own = mixed_other }

  mixed_count : (cs ps : List Cell) → length cs ≡ length ps → length (mixed key cs ps) ≡ length ps
  mixed_count [] [] e = refl
  mixed_count [] (p ∷ ps) e = absurd (omega arith)
  mixed_count (c ∷ cs) [] e = absurd (omega arith)
  mixed_count (c ∷ cs) (p ∷ ps) e = ap suc (mixed_count cs ps (let f : length cs ≡ length ps = omega arith in f))

  pub mixed_alike : AreAlike m e
  mixed_alike = record {
    top = alike.top;
    count = mixed_count d.cells e.cells alike.count;
    places = λ cell k p. let a = alike.places cell k p in let b = mixed_places cell k p in ((λ h. b.1 (a.0 h)), (λ h. a.1 (b.0 h)));
    texts = λ cell t. let a = alike.texts cell t in let b = mixed_texts cell t in ((λ h. b.1 (a.0 h)), (λ h. a.1 (b.0 h)));
  }

-- the design of the stages, one by one; none reads the key of one
pub staged : (ss : List Stage) (s : Stage) (d e : Design) → ((i j : ℕ) (t u : Stage) → slice_get (s ∷ ss) i ≡ Some t → slice_get (s ∷ ss) j ≡ Some u → Reads t u.key → ⊥) → ((i j : ℕ) (t u : Stage) → slice_get (s ∷ ss) i ≡ Some t → slice_get (s ∷ ss) j ≡ Some u → t.key ≡ u.key → i ≡ j)
    → Holds d e (s ∷ ss) → IsStaged d (s ∷ ss) e
staged [] s d e free apart h = (
  e,
  record {
    same = record {
      top = h.alike.top;
      places = h.alike.places;
      texts = h.alike.texts;
      own = λ cell other q differ. h.others cell other q (λ k. elim k [ inl same ↦ differ (sym same) | inr none ↦ none ]);
    };
    new = λ cell q reached. h.each 0 s refl cell q reached;
  },
  h.parted 0 s refl,
  refl,
)
staged (t ∷ ts) s d e free apart h = (
  middle,
  record { same = same; new = new },
  h.parted 0 s refl,
  staged ts t middle e
      (λ i j a b at_a at_b. free (suc i) (suc j) a b at_a at_b)
      (λ i j a b at_a at_b k. let f = apart (suc i) (suc j) a b at_a at_b k in omega arith) rest,
)
  where
    middle : Design
    middle = record { cells = mixed s.key d.cells e.cells; top = d.top; way = d.way }

    same : IsSameElse d middle s.key
    same = mixed_same d e h.alike s.key

    new : (cell : ℕ) (q : Square) → IsReached d cell → IsOwn middle cell s.key q ↔ IsOwnSelected d s.select cell q
    new cell q reached = let a = mixed_key d e h.alike s.key cell q in let b = h.each 0 s refl cell q reached in ((λ x. b.0 (a.0 x)), (λ x. a.1 (b.1 x)))

    other_key : (key : LayerKey) → (IsKeyOf (t ∷ ts) key → ⊥) → (key ≡ s.key → ⊥) → IsKeyOf (s ∷ (t ∷ ts)) key → ⊥
    other_key key free_of differ (inl k) = differ (sym k)
    other_key key free_of differ (inr k) = free_of k

    rest : Holds middle e (t ∷ ts)
    rest = record {
      alike = mixed_alike d e h.alike s.key;
      others = λ cell key q free_of. elim (key_is key s.key) [
        | inl k ↦
            let is : key ≡ s.key = key_same key s.key k in
            let a = mixed_key d e h.alike s.key cell q in
            subst (λ (x : LayerKey). IsOwn e cell x q ↔ IsOwn middle cell x q) (sym is) (a.1, a.0)
        | inr k ↦
            let differ : key ≡ s.key → ⊥ = λ same. not_both (is_same_key key s.key) (subst (λ x. is_same_key key x ≡ true) same (key_own key)) k in
            let a = mixed_other d e h.alike s.key cell key q differ in
            let b = h.others cell key q (other_key key free_of differ) in ((λ x. a.1 (b.0 x)), (λ x. b.1 (a.0 x)))
      ];
      each = λ i u at cell q reached.
          let b = h.each (suc i) u at cell q (reached_to d middle s.key same cell reached) in
          let g = group d middle s.key u.select same (free (suc i) 0 u s at refl) cell q in ((λ x. g.1 (b.0 x)), (λ x. b.1 (g.0 x)));
      parted = λ i u at. group_parted d middle s.key u.select same (free (suc i) 0 u s at refl) (h.parted (suc i) u at);
    }
