-- What others may make of names, one name on.
use Rattle.std.proofs.Common.{◌≡◌, ◌⊎◌, ◌↔◌, inl, inr, ℕ, zero, suc, ◌+◌, ◌<◌, ◌≤◌, ◌^◌, max, ℤ, unsigned_abs, Bool, true, false, List, [], ◌∷◌, ◌++◌, Some, None, refl, sym, ap, ◌∙◌, subst, arith, length, length-append, get_or, slice_get}
use Rattle.std.specs.List.{All}
use Rattle.base_laws.proofs.Items.{push_cases, get_last}
use Rattle.std.proofs.Math.Decide.{ℕ_discrete}
use Rattle.std.proofs.Math.Nat.{le-max_left, le-max_right}
use Rattle.std.proofs.lemmas.Bool.{cases_lt}
use Rattle.std.proofs.lemmas.Int.{ints}
use Rattle.std.proofs.lemmas.List.{get_or_append_left, get_or_push, get_or_past}
use Rattle.std.proofs.lemmas.Option.{get_or_from_slice_get, slice_get_within}
use Rattle.geo_base.specs.declared.layer.LayerKey.{LayerKey}
use Rattle.geo_base.specs.declared.layer.Op.{Op}
use Rattle.geo_base.specs.declared.layer.Op.TheVariants.{And, Or, Not, Xor}
use Rattle.geo_base.specs.declared.shapes.Rect.{Rect}
use Rattle.geo_base.specs.declared.shapes.Square.{Square}
use Rattle.rect_sets.specs.Rects.{covers, IsCanonical}
use Rattle.flat_layout.specs.Hull.{IsInHull}
use Rattle.flat_layout.specs.Layers.{Formula, Input, Empty, Binary, Sized, reach}
use Rattle.flat_layout.specs.Plane.{IsSized}
use Rattle.flat_layout.specs.Values.{IsLoneZone, IsZone}
use Rattle.cell_graph.specs.Linked.{Linked, IsSound, plain}
use Rattle.rule_text.specs.declared.rules.LayerForm.{LayerForm}
use Rattle.rule_text.specs.declared.rules.LayerForm.TheVariants as form
use Rattle.rule_text.specs.declared.rules.LayerRule.{LayerRule}
use Rattle.rule_layers.specs.Formulas.{formula_by, formulas, formulas_behind}
use Rattle.sized_layers.specs.Sizes.{IsSetWithin, growth}
use Rattle.deep_laws.specs.Opens.{lone_of}
use Rattle.deep_laws.proofs.Opens.{lone_input, lone_binary, lone_sized}
use Rattle.deep_tables.proofs.Framing.{framed}
use Rattle.deep_tables.proofs.Nothing.{no_zone}
use Rattle.zone_phase.specs.Lone.{AreLones, AreRegionLones, IsLoneIn}
use Rattle.zone_phase.specs.Names.{AreInputZones, ForInputs}
use Rattle.zone_phase.proofs.Naming.{behind_stays, set_canonical}
use Rattle.zone_phase.proofs.Nearby.{growth_most, held_near, wider_set}

-- nothing is made of an empty name
pub no_lone : (n : ℕ) (d : Linked) (cell : ℕ) (v : List Rect) → v ≡ [] → IsLoneIn n d cell Empty v
no_lone n d cell v none = subst (IsLoneIn n d cell Empty) (sym none) (record {
  right = λ m le. record { canonical = (no_zone (plain d) n cell).canonical; each = λ q inner. ((λ e. let f : false ≡ true = e in absurd (let z : ⊥ = cc in z)), (λ h. absurd h)) };
  range = λ q e. let f : false ≡ true = e in absurd (let z : ⊥ = cc in z);
})

-- in a hull grown less the set is right too
fewer : (d : Linked) (cell m n : ℕ) (key : LayerKey) (v : List Rect) → m ≤ n → IsZone (plain d) (key ∷ []) n cell v → IsLoneZone (plain d) (Input key) m cell v
fewer d cell m n key v le zone =
    let whole = lone_input (plain d) key n cell v zone in
    record { canonical = whole.canonical; each = λ q inner. whole.each q (wider q inner) }
  where
    wider : (q : Square) → IsInHull (plain d) cell m q → IsInHull (plain d) cell n q
    wider q h =
        let w = h.west in let w' = w.2 in let x = h.east in let x' = x.2 in
        let s = h.south in let s' = s.2 in let t = h.north in let t' = t.2 in
        record {
          west = (w.0, w.1, omega (arith, ints, le));
          east = (x.0, x.1, omega (arith, ints, le));
          south = (s.0, s.1, omega (arith, ints, le));
          north = (t.0, t.1, omega (arith, ints, le));
          wide = h.wide;
          tall = h.tall;
        }

pub input_lone : (n : ℕ) (d : Linked) (cell : ℕ) (key : LayerKey) (v : List Rect) → IsZone (plain d) (key ∷ []) n cell v × IsSetWithin (2 ^ 37) v → IsLoneIn n d cell (Input key) v
input_lone n d cell key v h = record {
  right = λ m le. fewer d cell m n key v (omega (arith, le)) h.0;
  range = wider_set (2 ^ 37) (2 ^ 37 + 0) v (omega arith) h.1;
}

-- what lies over a cell on the input layers lies near
pub near_zones : (n : ℕ) (d : Linked) (cell : ℕ) (trees : List Formula) (sets : List (List Rect)) → IsSound d → n ≤ 20001 → All IsCanonical sets → AreInputZones n d cell trees sets → ForInputs (λ key v. IsZone (plain d) (key ∷ []) n cell v × IsSetWithin (2 ^ 37) v) trees sets
near_zones n d cell trees sets sound most canonical h = record {
  count = h.count;
  each = λ k key at.
      let set = get_or sets k [] in
      let whole = set_canonical sets k (length trees) canonical h.count (slice_get_within trees k (Input key) at) in
      let is = h.each k key at in (
        (framed d (key ∷ []) n cell set (sound.hulls.each cell) whole).1 is,
        held_near n d cell set sound most (λ q e. ((is q).0 e).1),
      );
}

lone_some : (op : Op) (a b : Bool) → lone_of op a b ≡ true → (a ≡ true) ⊎ (b ≡ true)
lone_some op true b e = inl refl
lone_some op false true e = inr refl
lone_some And false false e = absurd (let z : ⊥ = cc in z)
lone_some Or false false e = absurd (let z : ⊥ = cc in z)
lone_some Not false false e = absurd (let z : ⊥ = cc in z)
lone_some Xor false false e = absurd (let z : ⊥ = cc in z)

pub binary_lone : (n : ℕ) (d : Linked) (cell : ℕ) (op : Op) (x y : Formula) (a b v : List Rect) → ((q : Square) → covers v q ≡ lone_of op (covers a q) (covers b q)) → IsCanonical v → IsLoneIn n d cell x a → IsLoneIn n d cell y b → IsLoneIn n d cell (Binary op x y) v
binary_lone n d cell op x y a b v made canonical one other = record {
  right = λ m le.
      let left = le-max_left (reach x) (reach y) in let right = le-max_right (reach x) (reach y) in
      lone_binary (plain d) op x y m cell a b v (one.right m (omega (arith, le, left))) (other.right m (omega (arith, le, right))) canonical made;
  range = λ q e. elim (lone_some op (covers a q) (covers b q) (sym (made q) ∙ e)) [
    | inl i ↦ wider_set (2 ^ 37 + reach x) (2 ^ 37 + max (reach x) (reach y)) a (let le = le-max_left (reach x) (reach y) in omega (arith, le)) one.range q i
    | inr i ↦ wider_set (2 ^ 37 + reach y) (2 ^ 37 + max (reach x) (reach y)) b (let le = le-max_right (reach x) (reach y) in omega (arith, le)) other.range q i
  ];
}

pub lone_of_sized : (n : ℕ) (d : Linked) (cell : ℕ) (by : ℤ) (x : Formula) (a v : List Rect) → ((q : Square) → (covers v q ≡ true) ↔ IsSized by (λ (z : Square). covers a z ≡ true) q)
    → ((m : ℕ) → IsSetWithin m a → IsSetWithin (m + growth by) v) → IsCanonical v → IsLoneIn n d cell x a → IsLoneIn n d cell (Sized by x) v
lone_of_sized n d cell by x a v made range canonical one = record {
  right = λ m le. lone_sized (plain d) by x m cell a v (one.right (m + unsigned_abs by) (omega (arith, le))) canonical made;
  range = wider_set ((2 ^ 37 + reach x) + growth by) (2 ^ 37 + (reach x + unsigned_abs by)) v (let le = growth_most by in omega (arith, le)) (range (2 ^ 37 + reach x) one.range);
}

pub no_lones : (n : ℕ) (d : Linked) (cell : ℕ) → AreLones n d cell [] []
no_lones n d cell k = no_lone n d cell [] refl

pub lones_more : (n : ℕ) (d : Linked) (cell : ℕ) (trees : List Formula) (tree : Formula) (sets : List (List Rect)) (set : List Rect) → length sets ≡ length trees
    → AreLones n d cell trees sets → IsLoneIn n d cell tree set → AreLones n d cell (trees ++ tree ∷ []) (sets ++ set ∷ [])
lones_more n d cell trees tree sets set count h is k = elim (cases_lt k (length trees)) [
  | inl below ↦
      subst (λ t. IsLoneIn n d cell t (get_or (sets ++ set ∷ []) k [])) (sym (get_or_append_left trees (tree ∷ []) Empty k below))
      (subst (IsLoneIn n d cell (get_or trees k Empty)) (sym (get_or_append_left sets (set ∷ []) [] k (subst (λ m. k < m) (sym count) below))) (h k))
  | inr from ↦ elim (ℕ_discrete k (length trees)) [
    | yes e ↦
        subst (λ t. IsLoneIn n d cell t (get_or (sets ++ set ∷ []) k [])) (sym (get_or_push trees tree Empty k (sym e)))
        (subst (IsLoneIn n d cell tree) (sym (get_or_push sets set [] k (count ∙ sym e))) is)
    | no off ↦
        let a : length (trees ++ tree ∷ []) ≤ k = (let m = length-append trees (tree ∷ []) in omega arith) in
        let b : length (sets ++ set ∷ []) ≤ k = (let m = length-append sets (set ∷ []) in omega arith) in
        subst (λ t. IsLoneIn n d cell t (get_or (sets ++ set ∷ []) k [])) (sym (get_or_past (trees ++ tree ∷ []) k Empty a))
        (no_lone n d cell (get_or (sets ++ set ∷ []) k []) (get_or_past (sets ++ set ∷ []) k [] b))
  ]
]

-- how far the next form reaches, where no tree reaches further
pub form_reach : (before : List Formula) (names rest : List LayerRule) (name : ℕ) (f : LayerForm) (a : ℕ) (by : ℤ) → length before ≡ name → formulas_behind (before ++ formula_by before f ∷ []) rest ≡ formulas names → f ≡ form.Sized a by
    → ((k : ℕ) → reach (get_or (formulas names) k Empty) ≤ 10000) → reach (get_or before a Empty) + unsigned_abs by ≤ 10000
form_reach before names rest name f a by count on is near =
    let tree = formula_by before f in
    let there : slice_get (formulas names) (length before) ≡ Some tree = subst (λ (l : List Formula). slice_get l (length before) ≡ Some tree) on (behind_stays (before ++ tree ∷ []) rest (length before) tree (get_last before tree)) in
    let at : get_or (formulas names) (length before) Empty ≡ tree = get_or_from_slice_get (formulas names) (length before) tree Empty there in
    subst (λ (x : LayerForm). reach (formula_by before x) ≤ 10000) is (subst (λ (t : Formula). reach t ≤ 10000) at (near (length before)))

-- ---- the layers of device rules' regions

pub no_regions : (n : ℕ) (d : Linked) (cell : ℕ) → AreRegionLones n d cell [] []
no_regions n d cell = record { count = refl; lone = λ k x set there found. absurd (let z : ⊥ = cc in z) }

-- one rule on
pub regions_more : (n : ℕ) (d : Linked) (cell : ℕ) (regions : List Formula) (x : Formula) (sets : List (List Rect)) (set : List Rect) → AreRegionLones n d cell regions sets → IsLoneIn n d cell x set → AreRegionLones n d cell (regions ++ x ∷ []) (sets ++ set ∷ [])
regions_more n d cell regions x sets set h is = record {
  count = length-append sets (set ∷ []) ∙ ap (λ (m : ℕ). m + 1) h.count ∙ sym (length-append regions (x ∷ []));
  lone = λ k y s there found. elim (push_cases regions x y k there) [
    | inl old ↦
        let lt = slice_get_within regions k y old in let count = h.count in
        elim (push_cases sets set s k found) [
          | inl before ↦ h.lone k y s old before
          | inr new ↦ let at = new.0 in absurd (let z : ⊥ = omega (arith, lt, count, at) in z)
        ]
    | inr new ↦
        let at = new.0 in let count = h.count in
        elim (push_cases sets set s k found) [
          | inl before ↦ let lt = slice_get_within sets k s before in absurd (let z : ⊥ = omega (arith, lt, count, at) in z)
          | inr last ↦ subst (λ (y : Formula). IsLoneIn n d cell y s) new.1 (subst (IsLoneIn n d cell x) last.1 is)
        ]
  ];
}
