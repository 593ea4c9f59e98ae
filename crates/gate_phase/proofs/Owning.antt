-- Own gates, part by part.
use Rattle.std.proofs.Common.{◌≡◌, ◌⊎◌, ◌↔◌, inl, inr, ℕ, zero, suc, ◌<◌, ◌≤◌, ◌+◌, Bool, true, false, not, List, [], ◌∷◌, ◌++◌, Option, Some, None, slice_get, length, refl, sym, ◌∙◌, ap, subst, arith}
use Rattle.base_laws.proofs.Items.{push_cases, get_last, one_entry}
use Rattle.std.proofs.Math.Decide.{ℕ_discrete}
use Rattle.std.proofs.lemmas.Option.{slice_get_within, none-some}
use Rattle.geo_base.specs.declared.shapes.Rect.{Rect}
use Rattle.geo_base.specs.declared.shapes.Square.{Square}
use Rattle.flat_layout.specs.Gates.{Geometry, Rule, IsGateBelow, IsListedGate, IsSettled, geometry}
use Rattle.flat_layout.specs.Layout.{Design}
use Rattle.flat_layout.specs.Parts.{IsLeast}
use Rattle.flat_layout.specs.Plane.{IsSquareBefore}
use Rattle.flat_layout.specs.Regions.{Wiring}
use Rattle.gate_shapes.specs.PartLists.{AreParts}
use Rattle.gate_shapes.specs.Sets.{in_set}
use Rattle.gate_search.specs.SearchLaws.{IsSearch}
use Rattle.gate_search.proofs.Searching.{found_law, known_law, part_law}
use Rattle.cell_graph.specs.Linked.{Linked, IsSound, cell_at, hull_of, plain}
use Rattle.cell_graph.proofs.Growing.{wider_grown}
use Rattle.gate_phase.proofs.Seeding.{flat_grown}
use Rattle.gate_phase.proofs.Telling.{kept_flat, part_kept}
use Rattle.deep_tables.specs.declared.zones.CellZones.{CellZones}
use Rattle.gate_phase.specs.Below.{IsFreeElement}
use Rattle.gate_phase.specs.Own.{AddsPart, AreOwnGates, IsHeldPart, IsKeptPart, IsOwnGate, IsOwnOr, IsToldPart, TellsOwn, gates_in, unit_window}
use Rattle.gate_phase.specs.declared.own.OwnGate.{OwnGate}

-- what holds of one square of a part holds of all
module _ (d : Design) (g : Geometry) (cell : ℕ) (part : List Rect) (is : IsToldPart d g cell part) (a b : Square) (at_a : in_set part a) (at_b : in_set part b) where
  pub settled_at : IsSettled d g cell a → IsSettled d g cell b
  settled_at h = (is.told b at_b).settled.1 ((is.told a at_a).settled.0 h)

  pub below_at : IsSettled d g cell a → IsGateBelow d g cell a → IsGateBelow d g cell b
  below_at settled h = record {
    number = h.number;
    place = h.place;
    square = h.square;
    placed = h.placed;
    settled = h.settled;
    image = ((is.told b at_b).squares (settled_at settled) _).0 (((is.told a at_a).squares settled _).1 h.image);
  }

pub listed_at : (d : Design) (g : Geometry) (cell : ℕ) (part : List Rect) → IsToldPart d g cell part → (a b : Square) → in_set part a → in_set part b → IsListedGate d g cell a → IsListedGate d g cell b
listed_at d g cell part is a b at_a at_b h =
    let settled = settled_at d g cell part is a b at_a at_b h.settled in
    record { settled = settled; new = λ k. h.new (below_at d g cell part is b a at_b at_a settled k) }

push_old : {A : Type 0} (xs ys : List A) (u : A) (k : ℕ) → slice_get xs k ≡ Some u → slice_get (xs ++ ys) k ≡ Some u
push_old [] ys u k e = absurd (none-some u e)
push_old (y ∷ xs) ys u zero e = e
push_old (y ∷ xs) ys u (suc k) e = push_old xs ys u k e

append_none : {A : Type 0} (xs : List A) → xs ++ [] ≡ xs
append_none [] = refl
append_none (x ∷ xs) = ap (λ ys. x ∷ ys) (append_none xs)

module _ (d : Design) (w : Wiring) (u : Rule) (cell : ℕ) (gathered : List Rect) (parts : List (List Rect)) (are : AreParts gathered parts) where
  abbrev g : Geometry
  g = geometry w u

  -- the own gates among the first n parts
  pub record SoFar (n : ℕ) (v : List OwnGate) : Type 0 where
    pub each : (i : ℕ) (x : OwnGate) → slice_get v i ≡ Some x → IsOwnGate d w u cell x
    pub found : (i : ℕ) (part : List Rect) (s : Square) → i < n → slice_get parts i ≡ Some part → in_set part s → IsListedGate d g cell s → (j : ℕ) × (x : OwnGate) × (slice_get v j ≡ Some x) × in_set x.area s
    pub parted : (i : ℕ) (part : List Rect) (s : Square) → i < n → slice_get parts i ≡ Some part → in_set part s → IsSettled d g cell s → IsListedGate d g cell s ⊎ IsGateBelow d g cell s
    pub from : (j : ℕ) (x : OwnGate) → slice_get v j ≡ Some x → (i : ℕ) × (part : List Rect) × (i < n) × (slice_get parts i ≡ Some part) × IsLeast (in_set part) x.least
    pub rising : (i j : ℕ) (x y : OwnGate) → i < j → slice_get v i ≡ Some x → slice_get v j ≡ Some y → IsSquareBefore x.least y.least

  pub none_yet : SoFar 0 []
  none_yet = record {
    each = λ i x e. absurd (none-some x e);
    found = λ i part s lt. absurd (let z : ⊥ = omega arith in z);
    parted = λ i part s lt. absurd (let z : ⊥ = omega arith in z);
    from = λ j x e. absurd (none-some x e);
    rising = λ i j x y lt e. absurd (none-some x e);
  }

  module _ (n : ℕ) (part : List Rect) (at : slice_get parts n ≡ Some part) (is : IsToldPart d g cell part) (old : List OwnGate) (h : SoFar n old) where
    abbrev least : Square
    least = (are.each n part at).0

    is_least : IsLeast (in_set part) least
    is_least = (are.each n part at).1.least

    with_gate : (o : Option OwnGate) → IsOwnOr d w u cell part least o → SoFar (n + 1) (old ++ gates_in o)
    with_gate None right = subst (SoFar (n + 1)) (sym (append_none old)) (record {
      each = h.each;
      found = λ i p s lt there inside own. elim (ℕ_discrete i n) [
        | yes e ↦
            let same : p ≡ part = one_entry (slice_get parts n) p part (subst (λ k. slice_get parts k ≡ Some p) e there) at in
            let own_least = listed_at d g cell part is s least (subst (λ l. in_set l s) same inside) is_least.has own in
            absurd (own_least.new (right own_least.settled))
        | no not ↦ h.found i p s (omega arith) there inside own
      ];
      parted = λ i p s lt there inside settled. elim (ℕ_discrete i n) [
        | yes e ↦
            let same : p ≡ part = one_entry (slice_get parts n) p part (subst (λ k. slice_get parts k ≡ Some p) e there) at in
            let here = subst (λ l. in_set l s) same inside in
            let settled_least = settled_at d g cell part is s least here is_least.has settled in
            inr (below_at d g cell part is least s is_least.has here settled_least (right settled_least))
        | no not ↦ h.parted i p s (omega arith) there inside settled
      ];
      from = λ j x e. let f = h.from j x e in let lt = f.2 in (f.0, f.1, (omega arith), f.3, f.4);
      rising = h.rising;
    })
    with_gate (Some x) right = record {
      each = λ i y e. elim (push_cases old x y i e) [ inl f ↦ h.each i y f | inr f ↦ subst (IsOwnGate d w u cell) f.1 right.1.1 ];
      found = λ i p s lt there inside own. elim (ℕ_discrete i n) [
        | yes e ↦
            let same : p ≡ part = one_entry (slice_get parts n) p part (subst (λ k. slice_get parts k ≡ Some p) e there) at in
            (length old, x, get_last old x, subst (λ l. in_set l s) (same ∙ sym right.1.0) inside)
        | no not ↦ let f = h.found i p s (omega arith) there inside own in (f.0, f.1, push_old old (x ∷ []) f.1 f.0 f.2, f.3)
      ];
      parted = λ i p s lt there inside settled. elim (ℕ_discrete i n) [
        | yes e ↦
            let same : p ≡ part = one_entry (slice_get parts n) p part (subst (λ k. slice_get parts k ≡ Some p) e there) at in
            let here = subst (λ l. in_set l s) same inside in
            let listed : IsListedGate d g cell least = subst (IsListedGate d g cell) right.0 right.1.1.listed in
            inl (listed_at d g cell part is least s is_least.has here listed)
        | no not ↦ h.parted i p s (omega arith) there inside settled
      ];
      from = λ j y e. elim (push_cases old x y j e) [
        | inl f ↦ let b = h.from j y f in let lt = b.2 in (b.0, b.1, (omega arith), b.3, b.4)
        | inr f ↦ (n, part, (omega arith), at, subst (IsLeast (in_set part)) (sym right.0 ∙ ap (λ (y : OwnGate). y.least) f.1) is_least)
      ];
      rising = λ i j y z lt e f. elim (push_cases old x z j f) [
        | inl b ↦ elim (push_cases old x y i e) [
          | inl a ↦ h.rising i j y z lt a b
          | inr a ↦ let c = slice_get_within old j z b in let k = a.0 in absurd (let none : ⊥ = omega arith in none)
        ]
        | inr b ↦ elim (push_cases old x y i e) [
          | inl a ↦ let c = h.from i y a in subst (IsSquareBefore y.least) (sym right.0 ∙ ap (λ (o : OwnGate). o.least) b.1) (are.order c.0 n c.1 part y.least least c.2 c.3 at c.4 is_least)
          | inr a ↦ let k = a.0 in let l = b.0 in absurd (let none : ⊥ = omega arith in none)
        ]
      ];
    }

    pub so_far_more : (new : List OwnGate) → AddsPart d w u cell part old new → SoFar (n + 1) new
    so_far_more new adds = subst (SoFar (n + 1)) (sym adds.added) (with_gate adds.gate (adds.right least is_least))

  pub all_so_far : (seeds : List Rect) (n : ℕ) (v : List OwnGate) → IsSearch d g cell seeds gathered parts → length parts ≤ n → SoFar n v → AreOwnGates d w u cell v
  all_so_far seeds n v search past h = record {
    each = h.each;
    found = λ s own. let f = found_law d g cell seeds gathered parts search s own in h.found f.0 f.1 s (let lt = slice_get_within parts f.0 f.1 f.2 in omega arith) f.2 f.3 own;
    rising = h.rising;
    parted = known_law d g cell seeds gathered parts search (λ i part s at inside settled. h.parted i part s (let lt = slice_get_within parts i part at in omega arith) at inside settled);
  }

-- what the tests tell together
pub told_own : (n : ℕ) (d : Linked) (z : List (Option CellZones)) (cell device : ℕ) (part close : List Rect) (least : Square) (window : Rect) (b : Bool) → window ≡ unit_window least → IsKeptPart n z cell device part close → (b ≡ true) ↔ IsFreeElement n d z cell device part close window
    → TellsOwn n d z cell device part close least (not b)
told_own n d z cell device part close least window true e kept told = record {
  kept = λ f. kept;
  new = λ f. absurd (let g : false ≡ true = f in let n : ⊥ = cc in n);
  below = λ f miss. subst (IsFreeElement n d z cell device part close) e (told.0 refl);
}
told_own n d z cell device part close least window false e kept told = record {
  kept = λ f. kept;
  new = λ f free. let g : false ≡ true = told.1 (subst (IsFreeElement n d z cell device part close) (sym e) free) in let n : ⊥ = cc in n;
  below = λ f. absurd (let g : true ≡ false = f in let n : ⊥ = cc in n);
}

-- an item behind others
pub item_here : {A : Type 0} (ys rest all : List A) (x : A) → ys ++ (x ∷ rest) ≡ all → slice_get all (length ys) ≡ Some x
item_here [] rest all x e = subst (λ l. slice_get l 0 ≡ Some x) e refl
item_here (y ∷ ys) rest all x e = subst (λ l. slice_get l (suc (length ys)) ≡ Some x) e (item_here ys rest (ys ++ (x ∷ rest)) x refl)

pub nothing_left : {A : Type 0} (l : List A) → length l ≡ 0 → l ≡ []
nothing_left [] h = refl
nothing_left (x ∷ xs) h = absurd (let z : ⊥ = omega arith in z)

pub told_part : (d : Design) (g : Geometry) (cell : ℕ) (seeds gathered : List Rect) (parts : List (List Rect)) → IsSearch d g cell seeds gathered parts → (i : ℕ) (part : List Rect) → slice_get parts i ≡ Some part → IsToldPart d g cell part
told_part d g cell seeds gathered parts search i part at = record {
  kept = λ q e. part_kept d g cell seeds gathered parts search i part q at e;
  told = λ q e. part_law d g cell seeds gathered parts search i part q at e;
}

pub held_part : (d : Linked) (g : Geometry) (cell : ℕ) (seeds gathered : List Rect) (parts : List (List Rect)) → IsSound d → IsSearch (plain d) g cell seeds gathered parts → (i : ℕ) (part : List Rect) → slice_get parts i ≡ Some part → IsHeldPart g.reach d cell part
held_part d g cell seeds gathered parts sound search i part at q e = wider_grown _ g.reach (hull_of (cell_at d cell)) q search.sound.reach (flat_grown d g.region cell q sound (kept_flat (plain d) cell g.region q (part_kept (plain d) g cell seeds gathered parts search i part q at e)))
