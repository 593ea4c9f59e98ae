-- The parts of the candidates, sorted one by one, are what the cell finds.
use Rattle.std.proofs.Common.{◌≡◌, ◌⊎◌, ◌↔◌, inl, inr, ℕ, ◌+◌, ◌<◌, ◌≤◌, true, List, [], Option, Some, length, slice_get, sym, ◌∙◌, subst, arith}
use Rattle.std.proofs.Math.Decide.{ℕ_discrete}
use Rattle.std.proofs.lemmas.Bool.{false≢true}
use Rattle.std.proofs.lemmas.Option.{slice_get_within}
use Rattle.base_laws.proofs.Items.{one_entry}
use Rattle.flat_layout.specs.Layers.{IsDecided}
use Rattle.flat_layout.specs.Layout.{Design, IsReached}
use Rattle.geo_base.specs.declared.shapes.Rect.{Rect}
use Rattle.geo_base.specs.declared.shapes.Square.{Square}
use Rattle.rect_sets.specs.Rects.{covers}
use Rattle.gate_shapes.specs.PartLists.{AreRegions}
use Rattle.gate_shapes.specs.Sets.{in_set}
use Rattle.select_laws.specs.Layered.{IsOwnSelected}
use Rattle.select_laws.specs.Rest.{IsCandidate, IsRest, ArePartedSquares}
use Rattle.select_laws.specs.Selects.{Select, sight}
use Rattle.select_laws.specs.Whole.{IsWhole}
use Rattle.select_laws.proofs.Choice.{reads_region}
use Rattle.select_laws.proofs.Rest.{rest_law, told_law}
use Rattle.select_laws.proofs.Staged.{region_same}
use Rattle.select_phase.specs.Found.{AreFoundBelow, IsCellSelection}
use Rattle.select_phase.specs.Sorted.{HaveRects, IsPartAt, SortsPart}
use Rattle.select_phase.specs.declared.cell.CellSelection.{CellSelection}
use Rattle.select_phase.specs.declared.sorting.Sorted.{Sorted}

-- one of the first n parts has the square
pub record IsInFirst (parts : List (List Rect)) (n : ℕ) (q : Square) : Type 0 where
  pub at : ℕ
  pub part : List Rect
  pub below : at < n
  pub there : slice_get parts at ≡ Some part
  pub has : in_set part q

-- the first n parts, sorted
pub record AreSortedTo (d : Design) (x : Select) (cell : ℕ) (parts : List (List Rect)) (n : ℕ) (sorted : Sorted) : Type 0 where
  pub rects : HaveRects sorted
  pub chosen : (q : Square) → in_set sorted.chosen.items q ↔ (IsInFirst parts n q × IsOwnSelected d x cell q)
  pub rest : (q : Square) → in_set sorted.rest.items q ↔ (IsInFirst parts n q × IsRest d x.joint (sight x) cell q)
  pub told : (q : Square) → IsInFirst parts n q → IsDecided (IsWhole d x.joint (sight x) cell q)

none_first : (parts : List (List Rect)) (q : Square) → IsInFirst parts 0 q → ⊥
none_first parts q h = let lt = h.below in omega arith

more_first : (parts : List (List Rect)) (n : ℕ) (part : List Rect) (q : Square) → slice_get parts n ≡ Some part → IsInFirst parts (n + 1) q ↔ (IsInFirst parts n q ⊎ in_set part q)
more_first parts n part q at = (
  (λ h. elim (ℕ_discrete h.at n) [
    | yes e ↦ inr (subst (λ (p : List Rect). in_set p q) (one_entry (slice_get parts n) h.part part (subst (λ k. slice_get parts k ≡ Some h.part) e h.there) at) h.has)
    | no not ↦ let lt = h.below in inl (record { at = h.at; part = h.part; below = omega (arith, not); there = h.there; has = h.has })
  ]),
  (λ h. elim h [
    | inl f ↦ let lt = f.below in record { at = f.at; part = f.part; below = omega arith; there = f.there; has = f.has }
    | inr e ↦ record { at = n; part = part; below = omega arith; there = at; has = e }
  ]),
)

module _ (d : Design) (x : Select) (cell : ℕ) (parts : List (List Rect)) where
  pub sorted_none : (sorted : Sorted) → sorted.chosen.items ≡ [] → sorted.rest.items ≡ [] → HaveRects sorted → AreSortedTo d x cell parts 0 sorted
  sorted_none sorted empty none rects = record {
    rects = rects;
    chosen = λ q. (
      (λ e. absurd (false≢true (subst (λ (l : List Rect). covers l q ≡ true) empty e))),
      (λ h. absurd (none_first parts q h.0)),
    );
    rest = λ q. (
      (λ e. absurd (false≢true (subst (λ (l : List Rect). covers l q ≡ true) none e))),
      (λ h. absurd (none_first parts q h.0)),
    );
    told = λ q h. absurd (none_first parts q h);
  }

  pub sorted_more : (n : ℕ) (part : List Rect) (old new : Sorted) → slice_get parts n ≡ Some part → SortsPart d x cell part old new → HaveRects new → AreSortedTo d x cell parts n old → AreSortedTo d x cell parts (n + 1) new
  sorted_more n part old new at sorts rects h = record {
    rects = rects;
    chosen = λ q. let more = more_first parts n part q at in (
      (λ e. elim ((sorts.chosen q).0 e) [
        | inl a ↦ let b = (h.chosen q).0 a in (more.1 (inl b.0), b.1)
        | inr b ↦ (more.1 (inr b.0), b.1)
      ]),
      (λ p. elim (more.0 p.0) [
        | inl a ↦ (sorts.chosen q).1 (inl ((h.chosen q).1 (a, p.1)))
        | inr b ↦ (sorts.chosen q).1 (inr (b, p.1))
      ]),
    );
    rest = λ q. let more = more_first parts n part q at in (
      (λ e. elim ((sorts.rest q).0 e) [
        | inl a ↦ let b = (h.rest q).0 a in (more.1 (inl b.0), b.1)
        | inr b ↦ (more.1 (inr b.0), b.1)
      ]),
      (λ p. elim (more.0 p.0) [
        | inl a ↦ (sorts.rest q).1 (inl ((h.rest q).1 (a, p.1)))
        | inr b ↦ (sorts.rest q).1 (inr (b, p.1))
      ]),
    );
    told = λ q f. elim ((more_first parts n part q at).0 f) [ inl a ↦ h.told q a | inr b ↦ sorts.told q b ];
  }

module _ (d : Design) (x : Select) (cell : ℕ) (all : List Rect) (parts : List (List Rect)) (are : AreRegions x.joint all parts) (is : (q : Square) → in_set all q ↔ IsCandidate d x.joint (sight x) cell q) where
  back : (q : Square) → IsCandidate d x.joint (sight x) cell q ↔ in_set all q
  back q = let r = is q in (r.1, r.0)

  -- each part is that of its first square
  pub part_at : (k : ℕ) (part : List Rect) → slice_get parts k ≡ Some part → (s : Square) × IsPartAt d x cell part s
  part_at k part at =
      let r = are.each k part at in (
        r.0,
        λ q. let same = r.1.same q in (
          (λ e. region_same (in_set all) (IsCandidate d x.joint (sight x) cell) is x.joint r.0 q (same.0 e)),
          (λ h. same.1 (region_same (IsCandidate d x.joint (sight x) cell) (in_set all) back x.joint r.0 q h)),
        ),
      )

  module _ (reached : IsReached d cell) (parted : ArePartedSquares d (sight x) cell) (found : List (Option CellSelection)) (below : AreFoundBelow d x cell found)
      (sorted : Sorted) (n : ℕ) (end : length parts ≤ n) (done : AreSortedTo d x cell parts n sorted) where
    in_first : (q : Square) → IsCandidate d x.joint (sight x) cell q → IsInFirst parts n q
    in_first q c =
        let f = are.found q ((is q).1 c) in
        let lt = slice_get_within parts f.0 f.1 f.2 in
        record { at = f.0; part = f.1; below = omega (arith, end); there = f.2; has = f.3 }

    pub cell_found : (v : CellSelection) → ((q : Square) → covers v.chosen q ≡ covers sorted.chosen.items q) → ((q : Square) → covers v.rest q ≡ covers sorted.rest.items q) → IsCellSelection d x cell v
    cell_found v chosen rest =
        let law = rest_law d x.joint (sight x) cell (reads_region x) reached parted in
        record {
          chosen = λ q. (
            (λ e. ((done.chosen q).0 (sym (chosen q) ∙ e)).1),
            (λ h. chosen q ∙ (done.chosen q).1 (in_first q ((law q).own h.own), h)),
          );
          rest = λ q. (
            (λ e. ((done.rest q).0 (sym (rest q) ∙ e)).1),
            (λ h. rest q ∙ (done.rest q).1 (in_first q ((law q).rest h), h)),
          );
          told = told_law d x.joint (sight x) cell (reads_region x) reached parted (λ k p placed. (below k p placed).2.told) (λ s c. done.told s (in_first s c));
        }
