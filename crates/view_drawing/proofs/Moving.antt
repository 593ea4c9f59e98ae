-- The motions of a circuit's calls are those of its cell's placements.
use Rattle.std.proofs.Common.{◌≡◌, ◌<◌, ◌↔◌, ◌∙◌, inl, inr, ℕ, zero, suc, ◌+◌, Bool, true, false, cond, List, [], ◌∷◌, ◌++◌, Option, Some, map, slice_get, refl, sym, subst, ap, arith, filter}
use Rattle.base_laws.proofs.Items.{map_to, map_from}
use Rattle.std.proofs.lemmas.Bool.{cases_Bool}
use Rattle.std.proofs.lemmas.Option.{none-some, same_Some}
use Rattle.circuit_phase.proofs.Leading.{at_place, place_at, place_true}
use Rattle.deep_tables.specs.declared.circuits.CellCircuit.{CellCircuit}
use Rattle.flat_laws.proofs.Items.{at_placed, placed_at}
use Rattle.flat_layout.specs.Circuits.{true_places}
use Rattle.flat_layout.specs.Layout.{Design, Place, IsPlaced}
use Rattle.geo_base.specs.declared.motion.Motion.{Motion}
use Rattle.net_link_laws.specs.Places.{places_of}
use Rattle.net_walk.specs.Walk.{place_of}
use Rattle.net_walk.specs.declared.cells.Element.{Element}
use Rattle.plain_netlist.proofs.Listing.{one_rising}
use Rattle.plain_netlist.specs.Lists.{AreRising, IsListed}
use Rattle.view_drawing.specs.Calls.{AreCallsDrawn, called_motions, has_circuit}

-- ---- what is kept of a list stands where its marks do

-- the a-th that is kept: an element of the list, and its motion
record Found (es : List Element) (motions : List Motion) (from a k : ℕ) : Type 0 where
  index : ℕ
  element : Element
  is : k ≡ from + index
  stands : slice_get es index ≡ Some element
  moved : slice_get motions a ≡ Some element.motion

found_kept : (e : Element) (es : List Element) (motions : List Motion) (from a k : ℕ) (places : List ℕ) → ((b j : ℕ) → slice_get places b ≡ Some j → Found es motions (suc from) b j)
    → slice_get (from ∷ places) a ≡ Some k → Found (e ∷ es) (e.motion ∷ motions) from a k
found_kept e es motions from zero k places rest h =
    record { index = 0; element = e; is = (let f : from ≡ k = same_Some _ _ h in omega arith); stands = refl; moved = refl }
found_kept e es motions from (suc a) k places rest h =
    let r = rest a k h in
    record { index = suc r.index; element = r.element; is = (let f : k ≡ suc from + r.index = r.is in omega arith); stands = r.stands; moved = r.moved }

found_left : (e : Element) (es : List Element) (motions : List Motion) (from a k : ℕ) → Found es motions (suc from) a k → Found (e ∷ es) motions from a k
found_left e es motions from a k r =
    record { index = suc r.index; element = r.element; is = (let f : k ≡ suc from + r.index = r.is in omega arith); stands = r.stands; moved = r.moved }

module _ (table : List (Option CellCircuit)) where
  abbrev marks : List Element → List Bool
  marks es = map (λ e. has_circuit table e.cell) es

  found : (es : List Element) (from a k : ℕ) → slice_get (true_places from (marks es)) a ≡ Some k → Found es (called_motions table es) from a k
  found [] from a k h = absurd (none-some k h)
  found (e ∷ es) from a k h =
      let places = true_places (suc from) (marks es) in
      let kept = filter (λ (x : Element). has_circuit table x.cell) es in
      let motion = λ (x : Element). x.motion in
      elim (cases_Bool (has_circuit table e.cell)) [
        | inl t ↦
            let g : slice_get (from ∷ places) a ≡ Some k = ap (λ b. slice_get (cond b (from ∷ places) places) a) (sym t) ∙ h in
            subst (λ (ms : List Motion). Found (e ∷ es) ms from a k) (ap (λ b. map motion (cond b (e ∷ kept) kept)) (sym t))
            (found_kept e es (called_motions table es) from a k places (found es (suc from)) g)
        | inr f ↦
            let g : slice_get places a ≡ Some k = ap (λ b. slice_get (cond b (from ∷ places) places) a) (sym f) ∙ h in
            subst (λ (ms : List Motion). Found (e ∷ es) ms from a k) (ap (λ b. map motion (cond b (e ∷ kept) kept)) (sym f))
            (found_left e es (called_motions table es) from a k (found es (suc from) a k g))
      ]

  rising : (k : ℕ) (xs : List Bool) → AreRising ◌<◌ (true_places k xs)
  rising k [] = tt
  rising k (true ∷ xs) = ((λ y l. let p = place_true (suc k) xs y l in let e = p.1 in omega arith), rising (suc k) xs)
  rising k (false ∷ xs) = rising (suc k) xs

  -- of the placements that call circuits the motions, in order
  pub calls_drawn : (d : Design) (cell : ℕ) (cells calls : List ℕ) (es : List Element) → map place_of es ≡ places_of d cell
      → ((k : ℕ) (p : Place) → IsPlaced d cell k p → IsListed p.cell cells ↔ (has_circuit table p.cell ≡ true))
      → ((k : ℕ) → IsListed k calls ↔ ((p : Place) × IsPlaced d cell k p × IsListed p.cell cells)) → AreRising ◌<◌ calls
      → AreCallsDrawn d cell calls (called_motions table es)
  calls_drawn d cell cells calls es all has placements up a k p is placed =
      let same : calls ≡ true_places 0 (marks es) = one_rising ◌<◌ (λ x y l g. absurd (omega arith)) calls (true_places 0 (marks es)) up (rising 0 (marks es)) to back in
      let r = found es 0 a k (subst (λ (ks : List ℕ). slice_get ks a ≡ Some k) same is) in
      let at : slice_get es k ≡ Some r.element = subst (λ (i : ℕ). slice_get es i ≡ Some r.element) (let f : k ≡ 0 + r.index = r.is in let g : r.index ≡ k = omega arith in g) r.stands in
      let there : slice_get (places_of d cell) k ≡ Some (place_of r.element) = sym (ap (λ (ps : List Place). slice_get ps k) all) ∙ map_to place_of es k r.element at in
      let one : place_of r.element ≡ p = same_Some _ _ (sym there ∙ at_placed d cell k p placed) in
      r.moved ∙ ap (λ (q : Place). Some q.motion) one
    where
      to : (j : ℕ) → IsListed j calls → IsListed j (true_places 0 (marks es))
      to j l =
          let s = (placements j).0 l in
          let e = map_from place_of es j s.0 (ap (λ (ps : List Place). slice_get ps j) all ∙ at_placed d cell j s.0 s.1) in
          let t : has_circuit table e.0.cell ≡ true = ap (λ (q : Place). has_circuit table q.cell) e.2 ∙ (has j s.0 s.1).0 s.2 in
          at_place (marks es) j (map_to (λ (x : Element). has_circuit table x.cell) es j e.0 e.1 ∙ ap Some t)

      back : (j : ℕ) → IsListed j (true_places 0 (marks es)) → IsListed j calls
      back j l =
          let e = map_from (λ (x : Element). has_circuit table x.cell) es j true (place_at (marks es) j l) in
          let q = placed_at d cell j (place_of e.0) (sym (ap (λ (ps : List Place). slice_get ps j) all) ∙ map_to place_of es j e.0 e.1) in
          (placements j).1 (place_of e.0, q, (has j (place_of e.0) q).1 e.2)

-- one placement after the other
pub called_more : (table : List (Option CellCircuit)) (e : Element) (es : List Element) → called_motions table (e ∷ es) ≡ called_motions table (e ∷ []) ++ called_motions table es
called_more table e es =
    let kept = filter (λ (x : Element). has_circuit table x.cell) es in
    let motion = λ (x : Element). x.motion in
    elim (cases_Bool (has_circuit table e.cell)) [
      | inl t ↦ ap (λ b. map motion (cond b (e ∷ kept) kept)) t ∙ sym (ap (λ b. map motion (cond b (e ∷ []) []) ++ map motion kept) t)
      | inr f ↦ ap (λ b. map motion (cond b (e ∷ kept) kept)) f ∙ sym (ap (λ b. map motion (cond b (e ∷ []) []) ++ map motion kept) f)
    ]
