-- What a cell keeps of the squares in both of two names.
use Rattle.std.proofs.Common.{◌≡◌, ◌↔◌, inl, inr, ℕ, pos, ◌+◌, ◌<◌, ◌≤◌, ◌^◌, ◌-ℤ◌, max, true, false, ◌&&◌, ◌||◌, not, List, [], ◌∷◌, ◌++◌, Option, Some, None, length, get_or, slice_index_or, take, sym, ◌∙◌, ap, subst, arith}
use Rattle.std.specs.List.{All}
use Rattle.std.proofs.lemmas.Bool.{false≢true, and_from, or_cases, or_left, or_right, cases_Bool, not-true, and_parts}
use Rattle.std.proofs.lemmas.Int.{ints}
use Rattle.std.proofs.lemmas.List.{take_all}
use Rattle.geo_base.specs.Rects.{has, grown}
use Rattle.geo_base.specs.declared.layer.Op.TheVariants.{And}
use Rattle.geo_base.specs.declared.shapes.Rect.{Rect}
use Rattle.geo_base.specs.declared.shapes.Square.{Square}
use Rattle.rect_sets.specs.Rects.{IsCanonical, covers}
use Rattle.rect_sets.proofs.Splitting.{covers_append}
use Rattle.rect_sets.proofs.Unique.{listed_get, rect_of}
use Rattle.sized_layers.specs.Sizes.{IsSetWithin, IsSquareWithin}
use Rattle.flat_layout.specs.Layers.{Binary, Formula, IsCalmAt, IsKept, inputs, reach}
use Rattle.flat_layout.specs.Plane.{AreWithin, IsReachedBy}
use Rattle.flat_laws.proofs.Moves.{farther}
use Rattle.cell_graph.specs.Grown.{IsInGrown}
use Rattle.cell_graph.specs.Linked.{HullIsSound, IsRectWithin, IsSound, Linked, cell_at, hull_of, plain}
use Rattle.cell_graph.proofs.Bridge.{has_in, hull_sound, in_has}
use Rattle.cell_graph.proofs.Growing.{grown_frame, near_square, wider_grown, within_grown, within_rect}
use Rattle.cell_context.proofs.Collecting.{covers_more}
use Rattle.rule_text.specs.Seen.{rules_seen}
use Rattle.rule_text.specs.Sound as rules
use Rattle.rule_text.specs.declared.rules.RuleSet.{RuleSet}
use Rattle.rule_layers.specs.Formulas.{greatest_reach, zone_margin}
use Rattle.rule_layers.proofs.Reaching.{near, reach_in}
use Rattle.deep_tables.specs.Zones.{zone_of}
use Rattle.deep_tables.specs.declared.zones.CellZones.{CellZones}
use Rattle.deep_tables.specs.declared.zones.ZoneKey.TheVariants.{Layer}
use Rattle.gate_search.specs.Gather.{AreMet, IsGatheredAround}
use Rattle.gate_search.proofs.KeptBoth.{kept_both}
use Rattle.gate_shapes.specs.Sets.{in_set}
use Rattle.gate_phase.specs.Both.{AreCalm, AreCalmInBoth, HasNearZone, IsBothNear, IsOpenFor, kept_by}
use Rattle.gate_phase.specs.Indexes.{AreMetOf}
use Rattle.gate_phase.specs.Layer.{IsKeptNear, formula_of}
use Rattle.gate_phase.proofs.Keeping.{chosen, kept_grown, listed_has, low_in, low_square, one_layer}
use Rattle.gate_phase.proofs.Locals.{both_most, kept_corners}
use Rattle.gate_phase.proofs.Reaching.{name_most}

either_most : (m n limit : ℕ) → m ≤ limit → n ≤ limit → max m n ≤ limit
either_most m n limit h g = grind (arith, h, g)

-- squares of a zone, among them all within n of the first rectangles
pub record AreStirring (n : ℕ) (zone rects found : List Rect) : Type 0 where
  pub sound : (q : Square) → in_set found q → in_set zone q
  pub complete : (p q : Square) → in_set rects p → in_set zone q → AreWithin n q p → in_set found q

pub stirring_none : (n : ℕ) (zone rects : List Rect) → AreStirring n zone (take 0 rects) []
stirring_none n zone rects = record { sound = λ q e. absurd (false≢true e); complete = λ p q e there near. absurd (false≢true e) }

-- one rectangle on, by what meets it grown
pub stirring_more : (n : ℕ) (zone rects old more new : List Rect) (i : ℕ) (d : Rect) → i < length rects → new ≡ old ++ more → AreStirring n zone (take i rects) old → AreMetOf zone (grown n (get_or rects i d)) more → AreStirring n zone (take (i + 1) rects) new
stirring_more n zone rects old more new i d lt is before met = record {
  sound = λ q e. elim (or_cases (covers old q) (covers more q) (sym (both q) ∙ e)) [ inl f ↦ before.sound q f | inr f ↦ chosen zone more met.listed q f ];
  complete = λ p q e there near. elim (or_cases (covers (take i rects) p) (has (get_or rects i d) p) (sym (covers_more rects i d p lt) ∙ e)) [
    | inl f ↦ both q ∙ or_left (covers old q) (covers more q) (before.complete p q f there near)
    | inr f ↦ both q ∙ or_right (covers old q) (covers more q) (met.complete q there (within_rect n (get_or rects i d) q p f near))
  ];
}
  where
    both : (q : Square) → covers new q ≡ (covers old q || covers more q)
    both q = ap (λ (l : List Rect). covers l q) is ∙ covers_append old more q

-- what is left where nothing of the zone is near
pub calm_left : (n : ℕ) (set zone stirred near found : List Rect) → AreStirring n zone set stirred → ((q : Square) → in_set near q ↔ IsReachedBy n (in_set stirred) q) → ((q : Square) → covers found q ≡ (covers set q && not (covers near q))) → AreCalm n set zone found
calm_left n set zone stirred near found are close cut q = (
  (λ e.
      let two = and_parts (covers set q) (not (covers near q)) (sym (cut q) ∙ e) in
      (two.0, λ reached. false≢true (sym (not-true (covers near q) two.1) ∙ (close q).1 (record { square = reached.square; within = reached.within; has = are.complete q reached.square two.0 reached.has reached.within })))),
  (λ (here, off). elim (cases_Bool (covers near q)) [
    | inl on ↦ let c = (close q).0 on in absurd (off (record { square = c.square; within = c.within; has = are.sound c.square c.has }))
    | inr none ↦ cut q ∙ and_from (covers set q) (not (covers near q)) here (ap not none)
  ]),
)

pub stirring_all : (n : ℕ) (zone set rects found : List Rect) (i : ℕ) → rects ≡ set → length rects ≤ i → AreStirring n zone (take i rects) found → AreStirring n zone set found
stirring_all n zone set rects found i is le h = subst (λ (l : List Rect). AreStirring n zone l found) (take_all i rects le ∙ is) h

-- a rectangle of a set that lies so far within the plane may be grown
pub near_rects : (set : List Rect) → IsSetWithin (2 ^ 38) set → IsCanonical set → All (IsRectWithin (2 ^ 39)) set
near_rects set h good = λ k r lt.
    let x = slice_index_or set k r in
    let l = listed_get set k r lt in
    let some = rect_of (covers set) x ((good.each x).0 l) in
    let wide = some.wide in let high = some.high in
    let top : Square = record { x = x.x2 -ℤ pos 1; y = x.y2 -ℤ pos 1 } in
    let a = h (low_square x) (listed_has set x (low_square x) l (low_in x some)) in
    let b = h top (listed_has set x top l (in_has x top ((omega (arith, ints)), (omega (arith, ints)), (omega (arith, ints)), (omega (arith, ints))))) in
    let al = a.left in let ab = a.low in let br = b.right in let bt = b.high in
    record {
      x1 = record { low = omega (arith, ints); high = omega (arith, ints) };
      y1 = record { low = omega (arith, ints); high = omega (arith, ints) };
      x2 = record { low = omega (arith, ints); high = omega (arith, ints) };
      y2 = record { low = omega (arith, ints); high = omega (arith, ints) };
    }

-- a square of a grown hull lies so far within the plane
pub grown_square : (n : ℕ) (o : Option Rect) (q : Square) → n ≤ 20001 → HullIsSound o → IsInGrown n o q → IsSquareWithin (2 ^ 38) q
grown_square n None q most sound h = absurd h
grown_square n (Some w) q most sound h =
    let i = has_in (grown n w) q h in let i0 = i.0 in let i1 = i.1 in let i2 = i.2 in let i3 = i.3 in
    let near = (grown_frame n w most sound).near in
    let a = near.x1.low in let b = near.x2.high in let e = near.y1.low in let f = near.y2.high in
    record { left = omega (arith, ints); right = omega (arith, ints); low = omega (arith, ints); high = omega (arith, ints) }

pub kept_within : (d : Linked) (cell : ℕ) (x : Formula) (set : List Rect) → IsSound d → reach x ≤ 10000 → ((q : Square) → in_set set q → IsKept (plain d) cell x q) → IsSetWithin (2 ^ 38) set
kept_within d cell x set sound most kept q e = grown_square (reach x) (hull_of (cell_at d cell)) q (omega (arith, most)) (hull_sound d cell sound) (kept_grown d cell x q sound (kept q e))

module _ (d : Linked) (r : RuleSet) (z : List (Option CellZones)) (cell : ℕ) (sound : IsSound d) where
  abbrev M : ℕ
  M = zone_margin r.names.items

  -- entries are near
  pub near_zone : (name : ℕ) → rules.IsSound (rules_seen r) → IsOpenFor d r z cell name → HasNearZone z cell name
  near_zone name ruled s =
      let o = hull_of (cell_at d cell) in
      let most : M ≤ 20001 = let limit = near (rules_seen r) ruled in omega (arith, limit) in (
        s.zone,
        s.is,
        λ q e. let w = grown_square M o q most (hull_sound d cell sound) (s.framed.inside q e).0 in
            let a = w.left in let b = w.right in let c = w.low in let f = w.high in
            record { left = omega (arith, ints); right = omega (arith, ints); low = omega (arith, ints); high = omega (arith, ints) },
      )

  -- near a square of the hull, grown by the name's reach, the entry tells whether all is shut
  calm_zone : (name n : ℕ) (zone : List Rect) (q : Square) → reach (formula_of r name) + n ≤ M → IsOpenFor d r z cell name → zone_of z cell (Layer name) ≡ Some zone → IsInGrown (reach (formula_of r name)) (hull_of (cell_at d cell)) q
      → (IsReachedBy n (in_set zone) q → ⊥) ↔ IsCalmAt (plain d) (inputs (formula_of r name)) n cell q
  calm_zone name n zone q le s is held = (
    (λ none y near. elim (cases_Bool (covers zone y)) [
      | inl c ↦ absurd (none (record { square = y; within = near; has = c }))
      | inr c ↦ s.framed.shut y (inner y near) (ap (λ l. covers l y) same ∙ c)
    ]),
    (λ calm h. (s.framed.inside h.square (ap (λ l. covers l h.square) same ∙ h.has)).1 (calm h.square h.within)),
  )
    where
      same : s.zone ≡ zone
      same = one_layer (zone_of z cell (Layer name)) s.zone zone s.is is

      inner : (y : Square) → AreWithin n y q → IsInGrown M (hull_of (cell_at d cell)) y
      inner y near =
          let o = hull_of (cell_at d cell) in let m = reach (formula_of r name) in
          let a = near_square m o q (hull_sound d cell sound) held in
          wider_grown (n + m) M o y (omega (arith, le)) (within_grown (n + m) o y a.0 a.1 (farther n m y q a.0 near a.2))

  module _ (names : ℕ × ℕ) (one_stirred : IsOpenFor d r z cell names.0) (other_stirred : IsOpenFor d r z cell names.1) (n : ℕ) (far : n ≡ max (reach (formula_of r names.0)) (reach (formula_of r names.1))) where
    abbrev A : Formula
    A = formula_of r names.0

    abbrev B : Formula
    B = formula_of r names.1

    one_room : reach A + n ≤ M
    one_room = let a = reach_in r.names.items names.0 in let b = reach_in r.names.items names.1 in let m = either_most (reach A) (reach B) (greatest_reach r.names.items) a b in omega (arith, a, m, far)

    other_room : reach B + n ≤ M
    other_room = let a = reach_in r.names.items names.0 in let b = reach_in r.names.items names.1 in let m = either_most (reach A) (reach B) (greatest_reach r.names.items) a b in omega (arith, b, m, far)

    module _ (first second found : List Rect) (h : AreCalmInBoth n z cell names first second found) where
      -- what is found is kept
      found_kept : ((q : Square) → covers first q ≡ true → IsKept (plain d) cell A q) → ((q : Square) → covers second q ≡ true → IsKept (plain d) cell B q) → (q : Square) → covers found q ≡ true → IsKept (plain d) cell (Binary And A B) q
      found_kept of_first of_second q e =
          let all = (h.squares q).0 e in
          let a = of_first q all.0.0 in let b = of_second q all.0.1 in
          (kept_both (plain d) cell A B q).1 (
            (a, b),
            record {
              first = subst (λ m. IsCalmAt (plain d) (inputs A) m cell q) far ((calm_zone names.0 n h.one q one_room one_stirred h.is_one (kept_grown d cell A q sound a)).0 all.1.0);
              second = subst (λ m. IsCalmAt (plain d) (inputs B) m cell q) far ((calm_zone names.1 n h.other q other_room other_stirred h.is_other (kept_grown d cell B q sound b)).0 all.1.1);
            },
          )

      -- and what is kept is found, where both sets have it
      kept_found : (q : Square) → IsKept (plain d) cell (Binary And A B) q → (IsKept (plain d) cell A q → covers first q ≡ true) → (IsKept (plain d) cell B q → covers second q ≡ true) → covers found q ≡ true
      kept_found q kept to_first to_second =
          let k = (kept_both (plain d) cell A B q).0 kept in
          (h.squares q).1 (
            (to_first k.0.0, to_second k.0.1),
            (
              (calm_zone names.0 n h.one q one_room one_stirred h.is_one (kept_grown d cell A q sound k.0.0)).1 (subst (λ m. IsCalmAt (plain d) (inputs A) m cell q) (sym far) k.1.first),
              (calm_zone names.1 n h.other q other_room other_stirred h.is_other (kept_grown d cell B q sound k.0.1)).1 (subst (λ m. IsCalmAt (plain d) (inputs B) m cell q) (sym far) k.1.second),
            ),
          )

      -- in a window
      pub both_met : rules.IsSound (rules_seen r) → (w : Rect) → AreMet (IsKeptNear (kept_by d r cell names.0)) (w ∷ []) first → AreMet (IsKeptNear (kept_by d r cell names.1)) (w ∷ []) second
          → AreMet (IsBothNear (record { design = d; rules = r; cell = cell; names = names })) (w ∷ []) found
      both_met ruled w a b = record {
        sound = λ q e.
            let k = found_kept (λ s i. (a.sound s i).kept) (λ s i. (b.sound s i).kept) q e in
            record { kept = k; near = kept_corners d cell (Binary And A B) q sound (both_most (reach A) (reach B) (name_most (rules_seen r) names.0 ruled) (name_most (rules_seen r) names.1 ruled)) k };
        complete = λ q k e. kept_found q k.kept (λ i. a.complete q (record { kept = i; near = k.near }) e) (λ i. b.complete q (record { kept = i; near = k.near }) e);
      }

      -- and of a cell as a whole
      pub both_whole : ((q : Square) → (covers first q ≡ true) ↔ IsKept (plain d) cell A q) → ((q : Square) → (covers second q ≡ true) ↔ IsKept (plain d) cell B q) → (q : Square) → (covers found q ≡ true) ↔ IsKept (plain d) cell (Binary And A B) q
      both_whole a b q = (
        (λ e. found_kept (λ s i. (a s).0 i) (λ s i. (b s).0 i) q e),
        (λ k. kept_found q k (λ i. (a q).1 i) (λ i. (b q).1 i)),
      )

-- where a set is all that a cell keeps, it is gathered around any squares
pub whole_gathered : (keeps : Square → Type 0) (seeds layer : List Rect) → ((q : Square) → (covers layer q ≡ true) ↔ keeps q) → IsGatheredAround keeps seeds layer
whole_gathered keeps seeds layer is = record {
  sound = λ q e. (is q).0 e;
  around = λ a q kept near e. (is a).1 kept;
  steps = λ p q e step. (is q).1 step.to;
}
