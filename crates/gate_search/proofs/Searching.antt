-- The parts of what was gathered, and the gates of the cell.
use Rattle.std.proofs.Common.{◌≡◌, ◌⊎◌, ◌↔◌, inl, inr, ℕ, List, Some, true}
use Rattle.base_laws.proofs.Tests.{true_or_not}
use Rattle.std.specs.Prelude.{slice_get}
use Rattle.geo_base.specs.declared.shapes.Rect.{Rect}
use Rattle.geo_base.specs.declared.shapes.Square.{Square}
use Rattle.plain_netlist.proofs.Links.{both, back}
use Rattle.rect_sets.specs.Rects.{covers}
use Rattle.flat_layout.specs.Gates.{Geometry, IsSettled, IsGateBelow, IsListedGate}
use Rattle.flat_layout.specs.Layers.{IsKept}
use Rattle.flat_layout.specs.Layout.{Design}
use Rattle.flat_layout.specs.Parts.{IsStep, InPart}
use Rattle.flat_layout.specs.Seeds.{IsClosed}
use Rattle.flat_laws.proofs.Found.{kept_part, closed, unfound}
use Rattle.flat_laws.proofs.Opens.{unfound_open}
use Rattle.gate_shapes.specs.Sets.{in_set}
use Rattle.gate_shapes.proofs.Joined.{step_back}
use Rattle.gate_shapes.proofs.PartsOf.{end_in}
use Rattle.gate_search.specs.SearchLaws.{IsSearch, IsTold, PartLaw, FoundLaw, KnownLaw}

module _ (d : Design) (g : Geometry) (cell : ℕ) (seeds found : List Rect) (parts : List (List Rect)) (h : IsSearch d g cell seeds found parts) where
  abbrev K : Square → Type 0
  K = IsKept d cell g.region

  abbrev F : Square → Type 0
  F = in_set found

  is_closed : IsClosed d g cell (covers found)
  is_closed = record { kept = h.gathered.sound; steps = h.gathered.steps }

  -- a settled gate that wasn't found comes from below
  missed : (s : Square) → IsSettled d g cell s → (covers found s ≡ true → ⊥) → IsGateBelow d g cell s
  missed s settled not = elim h.all [
    | inl all ↦ unfound d g h.sound cell (covers found) h.reached is_closed (λ a q k around seed. h.gathered.around a q k around (all q seed)) s settled not
    | inr l ↦ unfound_open d g cell l.0 (covers found) h.sound h.reached is_closed l.1 (λ a q k around seed. h.gathered.around a q k around (l.2 q seed)) s settled not
  ]

  -- a part by any of its squares
  from_any : (i : ℕ) (part : List Rect) (s : Square) → slice_get parts i ≡ Some part → in_set part s → (q : Square) → in_set part q ↔ InPart F s q
  from_any i part s at here q =
      let t = h.parted.each i part at in
      let way = (t.1.same s).0 here in
      let start : F s = last_found t.0 s way in (
        (λ e. let on = (t.1.same q).0 e in record { from = start; joined = both (IsStep F) s t.0 q (back (IsStep F) (step_back F) t.0 s way.joined) on.joined }),
        (λ p. (t.1.same q).1 (record { from = way.from; joined = both (IsStep F) t.0 s q way.joined p.joined })),
      )
    where
      last_found : (a b : Square) → InPart F a b → F b
      last_found a b p = end_in F a b p.joined.via p.from p.joined.chain

  to_kept : (i : ℕ) (part : List Rect) (s : Square) → slice_get parts i ≡ Some part → in_set part s → (q : Square) → in_set part q ↔ InPart K s q
  to_kept i part s at here q =
      let f = from_any i part s at here in
      let start : F s = ((f s).0 here).from in
      let c = closed d g cell (covers found) is_closed s q start in
      ((λ e. c.0 ((f q).0 e)), (λ p. (f q).1 (c.1 p)))

  pub told : (i : ℕ) (part : List Rect) (s : Square) → slice_get parts i ≡ Some part → in_set part s → IsTold d g cell part s
  told i part s at here =
      let same = to_kept i part s at here in
      let is : K s = ((same s).0 here).from in
      let law = kept_part d g cell s h.sound is in
      record {
        here = here;
        settled = (
          (λ settled.
              let part_is = (law.0).1 settled in
              record {
                calm = λ q c. part_is.calm q (record { square = c.square; in_part = (same c.square).0 c.in_part; around = c.around });
                mine = part_is.mine;
                in_part = (same part_is.mine).1 part_is.in_part;
                alone = part_is.alone;
              }),
          (λ shut. (law.0).0 (record {
            calm = λ q c. shut.calm q (record { square = c.square; in_part = (same c.square).1 c.in_part; around = c.around });
            mine = shut.mine;
            in_part = (same shut.mine).0 shut.in_part;
            alone = shut.alone;
          })),
        );
        squares = λ settled q. let e = law.1 settled q in ((λ p. e.0 ((same q).0 p)), (λ p. (same q).1 (e.1 p)));
      }

  part_of : (s : Square) → F s → (i : ℕ) × (part : List Rect) × (slice_get parts i ≡ Some part) × in_set part s
  part_of s e = h.parted.found s e

  pub known : ((i : ℕ) (part : List Rect) (s : Square) → slice_get parts i ≡ Some part → in_set part s → IsSettled d g cell s → IsListedGate d g cell s ⊎ IsGateBelow d g cell s)
      → (s : Square) → IsSettled d g cell s → IsListedGate d g cell s ⊎ IsGateBelow d g cell s
  known judged s settled = elim (true_or_not (covers found s)) [
    | inl e ↦ (let p = part_of s e in judged p.0 p.1 s p.2 p.3 settled)
    | inr not ↦ inr (missed s settled not)
  ]

  pub own_found : (s : Square) → IsListedGate d g cell s → (i : ℕ) × (part : List Rect) × (slice_get parts i ≡ Some part) × in_set part s
  own_found s own = elim (true_or_not (covers found s)) [
    | inl e ↦ part_of s e
    | inr not ↦ absurd (own.new (missed s own.settled not))
  ]

pub part_law : PartLaw
part_law d g cell seeds found parts h i part s at here = told d g cell seeds found parts h i part s at here

pub found_law : FoundLaw
found_law d g cell seeds found parts h s own = own_found d g cell seeds found parts h s own

pub known_law : KnownLaw
known_law d g cell seeds found parts h judged s settled = known d g cell seeds found parts h judged s settled
