-- A part with two groups, judged.
use Rattle.std.proofs.Common.{◌≡◌, ◌⊎◌, inl, inr, ℕ, ◌<◌, List, [], ◌∷◌, Some, None, Bool, length, get_or, sym, ◌∙◌, ap, subst, arith}
use Rattle.std.specs.Prelude.{slice_get, ◌↔◌}
use Rattle.std.proofs.lemmas.Option.{slice_get_within, slice_get-get_or}
use Rattle.geo_base.specs.declared.shapes.Rect.{Rect}
use Rattle.geo_base.specs.declared.shapes.Square.{Square}
use Rattle.flat_layout.specs.Parts.{Edge, InSideOf, InGroupOf, IsWideOf, IsLongOf, Counts, Sheets, AllOn, SomeOff, InEnds, IsBadPart}
use Rattle.gate_shapes.specs.PartLists.{AreParts}
use Rattle.flat_layout.specs.Parts.{IsLeast}
use Rattle.gate_shapes.specs.Sets.{in_set}
use Rattle.gate_shapes.specs.Shapes.{AreKept, sheets_of, IsFirstFault, IsGood}
use Rattle.gate_shapes.proofs.Groups.{AreTwo, group_squares, two_groups}
use Rattle.flat_layout.specs.declared.cause.GateCause.{GateCause}
use Rattle.flat_layout.specs.declared.cause.GateCause.TheVariants.{Groups, OffGate, OffSd, NoBulk, NoLength}

two_items : (kept : List ℕ) (i j : ℕ) → length kept ≡ 2 → i ≡ get_or kept 0 i → j ≡ get_or kept 1 j → kept ≡ i ∷ (j ∷ [])
two_items [] i j e f g = absurd (omega (arith, e))
two_items (a ∷ []) i j e f g = absurd (omega (arith, e))
two_items (a ∷ (b ∷ [])) i j e f g = ap (λ (v : ℕ). v ∷ (b ∷ [])) (sym f) ∙ ap (λ (v : ℕ). i ∷ (v ∷ [])) (sym g)
two_items (a ∷ (b ∷ (c ∷ rest))) i j e f g = absurd (omega (arith, e))

pub kept_in : {list groups : List (List Rect)} {touched : List Rect} {kept : List ℕ} → list ≡ groups → AreKept list touched kept
    → AreKept groups touched kept
kept_in {touched = touched} {kept = kept} e h = subst (λ (l : List (List Rect)). AreKept l touched kept) e h

pub below_groups : {groups : List (List Rect)} {touched : List Rect} {kept : List ℕ} {a i : ℕ}
    → AreKept groups touched kept → a < length kept → i ≡ get_or kept a i → i < length groups
below_groups hold lt e =
    let k = hold.each _ _ (slice_get-get_or _ _ _ lt ∙ ap (λ (n : ℕ). Some n) (sym e)) in slice_get_within _ _ k.0 k.1

-- what is known of a part with two groups, which stand at places i and j
pub record AreJudged (part ends sides touched : List Rect) (groups : List (List Rect)) (kept : List ℕ)
    (i j : ℕ) (one other : List Rect) : Type 0 where
  pub beside : (q : Square) → in_set sides q ↔ InSideOf (in_set part) (in_set ends) q
  pub touching : (q : Square) → in_set touched q
      ↔ ((e : Edge) × IsWideOf (in_set part) (in_set ends) e × (e.outer ≡ q))
  pub are : AreParts sides groups
  pub hold : AreKept groups touched kept
  pub is : kept ≡ i ∷ (j ∷ [])
  pub at_i : slice_get groups i ≡ Some one
  pub at_j : slice_get groups j ≡ Some other

pub judged : (part ends : List Rect) {sides touched : List Rect} {groups : List (List Rect)} {kept : List ℕ}
    {i j : ℕ} {one other : List Rect}
    → ((q : Square) → in_set sides q ↔ InSideOf (in_set part) (in_set ends) q)
    → ((q : Square) → in_set touched q
    ↔ ((e : Edge) × IsWideOf (in_set part) (in_set ends) e × (e.outer ≡ q)))
    → AreParts sides groups → AreKept groups touched kept → length kept ≡ 2
    → i ≡ get_or kept 0 i → j ≡ get_or kept 1 j → one ≡ get_or groups i one → other ≡ get_or groups j other
    → AreJudged part ends sides touched groups kept i j one other
judged part ends beside touching are hold count e f g h = record {
  beside = beside;
  touching = touching;
  are = are;
  hold = hold;
  is = two_items _ _ _ count e f;
  at_i = slice_get-get_or _ _ _ (below_groups hold (omega (arith, count)) e) ∙ ap (λ (v : List Rect). Some v) (sym g);
  at_j = slice_get-get_or _ _ _ (below_groups hold (omega (arith, count)) f) ∙ ap (λ (v : List Rect). Some v) (sym h);
}

module _ {part ends sides touched : List Rect} {groups : List (List Rect)} {kept : List ℕ} {i j : ℕ}
    {one other : List Rect} (they : AreJudged part ends sides touched groups kept i j one other) where
  abbrev P : Square → Type 0
  P = in_set part

  abbrev E : Square → Type 0
  E = in_set ends

  two : AreTwo part ends sides touched groups kept they.beside they.touching they.are they.hold i j
  two = two_groups part ends sides touched groups kept they.beside they.touching they.are they.hold i j they.is

  same_first : (q : Square) → in_set one q ↔ InGroupOf P E two.source.outer q
  same_first =
      let e : two.first.group ≡ one = (let f : Some two.first.group ≡ Some one = sym two.first.at ∙ they.at_i in cc) in
      subst (λ (s : List Rect). (q : Square) → in_set s q ↔ InGroupOf P E two.source.outer q) e (group_squares part ends sides touched groups kept they.beside they.touching they.are they.hold i two.source two.first)

  same_second : (q : Square) → in_set other q ↔ InGroupOf P E two.drain.outer q
  same_second =
      let e : two.second.group ≡ other = (let f : Some two.second.group ≡ Some other = sym two.second.at ∙ they.at_j in cc) in
      subst (λ (s : List Rect). (q : Square) → in_set s q ↔ InGroupOf P E two.drain.outer q) e (group_squares part ends sides touched groups kept they.beside they.touching they.are they.hold j two.drain two.second)

  pub some_first : (q : Square) × in_set one q
  some_first =
      let e : two.first.group ≡ one = (let f : Some two.first.group ≡ Some one = sym two.first.at ∙ they.at_i in cc) in
      (two.source.outer, subst (λ (s : List Rect). in_set s two.source.outer) e two.first.here)

  pub some_second : (q : Square) × in_set other q
  some_second =
      let e : two.second.group ≡ other = (let f : Some two.second.group ≡ Some other = sym two.second.at ∙ they.at_j in cc) in
      (two.drain.outer, subst (λ (s : List Rect). in_set s two.drain.outer) e two.second.here)

  module _ (on_ends on_gate on_bulk : List Rect) (loose : Bool) (wide long : ℕ) (count_wide : Counts (IsWideOf P E) wide) (count_long : Counts (IsLongOf P E) long) where
    abbrev g : Sheets
    g = sheets_of ends on_ends on_gate on_bulk loose

    ends_on : AllOn (in_set one) g.on_ends × AllOn (in_set other) g.on_ends → AllOn (InEnds P E two.source two.drain) g.on_ends
    ends_on h q (inl way) = h.0 q ((same_first q).1 way)
    ends_on h q (inr way) = h.1 q ((same_second q).1 way)

    ends_off : SomeOff (in_set one) g.on_ends ⊎ SomeOff (in_set other) g.on_ends → SomeOff (InEnds P E two.source two.drain) g.on_ends
    ends_off (inl (q, h, not)) = (q, inl ((same_first q).0 h), not)
    ends_off (inr (q, h, not)) = (q, inr ((same_second q).0 h), not)

    pub bad_law : (c : GateCause) → IsFirstFault g part one other long (Some c) → IsBadPart g P c
    bad_law (Groups n) h = absurd h
    bad_law OffGate h = (two.source, two.drain, two.groups_two, h)
    bad_law OffSd h = (two.source, two.drain, two.groups_two, h.0, ends_off h.1)
    bad_law NoBulk h = (two.source, two.drain, two.groups_two, h.0, ends_on h.1, h.2, h.3)
    bad_law NoLength h = (two.source, two.drain, two.groups_two, h.0, ends_on h.1, h.2, subst (λ (n : ℕ). Counts (IsLongOf P E) n) h.3 count_long)

    least_as : (a : Square → Type 0) (b : Square → Type 0) (s : Square) → ((q : Square) → a q ↔ b q) → IsLeast a s → IsLeast b s
    least_as a b s same h = record { has = (same s).0 h.has; least = λ q k. h.least q ((same q).1 k) }

    pub good_law : (s t : Square) → IsFirstFault g part one other long None → IsLeast (in_set one) s → IsLeast (in_set other) t → IsGood g P (record { twice_w = wide; twice_l = long; source = s; drain = t })
    good_law s t h ls lt = record {
      source = two.source;
      drain = two.drain;
      form = record { groups = two.groups_two; wide = count_wide; long = count_long; some = h.3; gate_on = h.0; ends_on = ends_on h.1; bulk_on = h.2 };
      least_source = least_as (in_set one) (InGroupOf P E two.source.outer) s same_first ls;
      least_drain = least_as (in_set other) (InGroupOf P E two.drain.outer) t same_second lt;
      order = they.are.order i j one other s t two.rising they.at_i they.at_j ls lt;
    }
