-- One part, sorted.
use Rattle.std.proofs.Common.{◌≡◌, ◌⊎◌, ◌↔◌, inl, inr, ℕ, ◌++◌, ◌||◌, List, sym, ◌∙◌, ap, subst}
use Rattle.std.specs.List.{All}
use Rattle.std.proofs.lemmas.Bool.{or_cases, or_left, or_right}
use Rattle.std.proofs.lemmas.List.Elements.{All-append}
use Rattle.geo_base.specs.Rects.{IsRect}
use Rattle.geo_base.specs.declared.shapes.Rect.{Rect}
use Rattle.geo_base.specs.declared.shapes.Square.{Square}
use Rattle.rect_sets.specs.Rects.{covers}
use Rattle.rect_sets.proofs.Splitting.{covers_append}
use Rattle.flat_layout.specs.Layout.{Design, IsReached}
use Rattle.flat_layout.specs.Parts.{IsCloseTo}
use Rattle.gate_shapes.specs.Sets.{in_set}
use Rattle.select_laws.specs.Layered.{IsOwnSelected}
use Rattle.select_laws.specs.Rest.{ArePartedSquares, IsRest}
use Rattle.select_laws.specs.Selects.{Ask, Interacting, Overlapping, Inside, Outside, WithArea, Has, OnSide, Select, sight}
use Rattle.select_phase.specs.Beside.{IfOther, IsBeside}
use Rattle.select_phase.specs.Sorted.{IsCalmPart, IsPartAt, SortsPart}
use Rattle.select_phase.specs.declared.sorting.Sorted.{Sorted}
use Rattle.select_phase.proofs.Regions.{own_selected, torn_at, whole_at}

-- rectangles behind others
added : (old part new : List Rect) → new ≡ old ++ part → (q : Square) → in_set new q ↔ (in_set old q ⊎ in_set part q)
added old part new is q =
    let both : covers new q ≡ (covers old q || covers part q) = ap (λ (l : List Rect). covers l q) is ∙ covers_append old part q in (
      (λ e. or_cases (covers old q) (covers part q) (sym both ∙ e)),
      (λ h. elim h [ inl a ↦ both ∙ or_left (covers old q) (covers part q) a | inr b ↦ both ∙ or_right (covers old q) (covers part q) b ]),
    )

-- those of which P holds, where it holds of all of the part
all_on : (P : Square → Type 0) (old part new : List Rect) → new ≡ old ++ part → ((q : Square) → in_set part q → P q) → (q : Square) → in_set new q ↔ (in_set old q ⊎ (in_set part q × P q))
all_on P old part new is on q =
    let both = added old part new is q in (
      (λ e. elim (both.0 e) [ inl a ↦ inl a | inr b ↦ inr (b, on q b) ]),
      (λ h. elim h [ inl a ↦ both.1 (inl a) | inr b ↦ both.1 (inr b.0) ]),
    )

-- and where it holds of none
none_on : (P : Square → Type 0) (old part new : List Rect) → new ≡ old → ((q : Square) → in_set part q → P q → ⊥) → (q : Square) → in_set new q ↔ (in_set old q ⊎ (in_set part q × P q))
none_on P old part new is off q = (
  (λ e. inl (subst (λ (l : List Rect). in_set l q) is e)),
  (λ h. elim h [ inl a ↦ subst (λ (l : List Rect). in_set l q) (sym is) a | inr b ↦ absurd (off q b.0 b.1) ]),
)

pub with_rects : (old part new : List Rect) → new ≡ old ++ part → All IsRect old → All IsRect part → All IsRect new
with_rects old part new is a b = subst (All IsRect) (sym is) (All-append IsRect old part a b)

module _ (d : Design) (x : Select) (cell : ℕ) (reached : IsReached d cell) (parted : ArePartedSquares d (sight x) cell) (part : List Rect) (s : Square) (same : IsPartAt d x cell part s) (old new : Sorted) where
  -- a part that isn't calm goes up
  pub goes_up : (IsCalmPart d x cell part → ⊥) → new.chosen.items ≡ old.chosen.items → new.rest.items ≡ old.rest.items ++ part → SortsPart d x cell part old new
  goes_up stirred chosen rest =
      let torn = λ (q : Square) (e : in_set part q). torn_at d x cell reached parted part s same q e stirred in
      record {
        chosen = none_on (IsOwnSelected d x cell) old.chosen.items part new.chosen.items chosen (λ q e o. (torn q e).torn o.own.whole);
        rest = all_on (IsRest d x.joint (sight x) cell) old.rest.items part new.rest.items rest torn;
        told = λ q e. inr (torn q e).torn;
      }

  module _ (calm : IsCalmPart d x cell part) (close near : List Rect) (all : (q : Square) → in_set close q ↔ IsCloseTo (in_set part) q) (beside : IsBeside d x cell close near) where
    abbrev Asked : Type 0
    Asked = OnSide x.side (Has x.ask (in_set part) (in_set near))

    whole_not : (q : Square) → in_set part q → IsRest d x.joint (sight x) cell q → ⊥
    whole_not q e r = r.torn (whole_at d x cell reached parted part s same q e calm)

    -- a region that is chosen
    pub is_found : Asked → new.chosen.items ≡ old.chosen.items ++ part → new.rest.items ≡ old.rest.items → SortsPart d x cell part old new
    is_found asked chosen rest = record {
      chosen = all_on (IsOwnSelected d x cell) old.chosen.items part new.chosen.items chosen (λ q e. (own_selected d x cell reached parted part s same calm close near all beside q e).0 asked);
      rest = none_on (IsRest d x.joint (sight x) cell) old.rest.items part new.rest.items rest whole_not;
      told = λ q e. inl (whole_at d x cell reached parted part s same q e calm);
    }

    -- and one that isn't
    pub is_passed : (Asked → ⊥) → new.chosen.items ≡ old.chosen.items → new.rest.items ≡ old.rest.items → SortsPart d x cell part old new
    is_passed off chosen rest = record {
      chosen = none_on (IsOwnSelected d x cell) old.chosen.items part new.chosen.items chosen (λ q e o. off ((own_selected d x cell reached parted part s same calm close near all beside q e).1 o));
      rest = none_on (IsRest d x.joint (sight x) cell) old.rest.items part new.rest.items rest whole_not;
      told = λ q e. inl (whole_at d x cell reached parted part s same q e calm);
    }

-- where an area is asked nothing else is
pub if_other : (a : Ask) (A : Type 0) → A → IfOther a A
if_other Interacting A h = h
if_other Overlapping A h = h
if_other Inside A h = h
if_other Outside A h = h
if_other (WithArea low high) A h = tt
