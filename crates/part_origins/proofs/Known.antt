-- What the code finds inside each circuit is what the definition says.
use Rattle.std.proofs.Common.{◌≡◌, ℕ, zero, suc, ◌+◌, ◌<◌, Bool, false, List, [], ◌∷◌, ◌++◌, length, Some, None, slice_get, refl, sym, ◌∙◌, ap, subst, arith, length-append}
use Rattle.base_laws.proofs.Items.{get_left, get_last}
use Rattle.std.specs.Prelude.{slice_index_or}
use Rattle.std.specs.List.{range_with_len}
use Rattle.std.proofs.lemmas.List.FromFn.{length-range_with_len, get_or-range_with_len}
use Rattle.std.proofs.lemmas.Option.{none-some, same_Some}
use Rattle.std.proofs.Math.Decide.{ℕ_discrete}
use Rattle.plain_netlist.specs.Netlist.{Circuit, Netlist, IsCircuit}
use Rattle.plain_netlist.specs.Sound.{IsGood}
use Rattle.align_laws.specs.Lists.{FlatCircuit, over, indexed, pieces, joined_place, own_net, inner_nets, given_of, AreFlat}
use Rattle.align_laws.proofs.CutList.{given_is}
use Rattle.part_origins.specs.Inside.{PlainSpot, PlainInside, own_inside, inside_of, all_inside}
use Rattle.part_origins.proofs.Spots.{Stood, own_spot, spots_by, there}
use Rattle.part_origins.proofs.Tied.{AreTied, IsTied, IsKnown, IsLaid, over_is, all_tied}

indexed_long : {A B : Type 0} (f : ℕ → A → B) (xs : List A) → length (indexed f xs) ≡ length xs
indexed_long f [] = refl
indexed_long f (x ∷ xs) = let e = indexed_long (λ k. f (suc k)) xs in omega arith

module _ (g f : Netlist) (goes_list : List Bool) (goes : ℕ → Bool) (same : (c : ℕ) → slice_index_or goes_list c false ≡ goes c) (flats : ℕ → FlatCircuit) (good : IsGood g (λ k. k)) (flat : AreFlat g f goes flats) where
  abbrev Knows : List PlainInside → ℕ → ℕ → Type 0
  Knows known d m = IsKnown g known d (spots_by g goes flats m d) (length (flats d).nets)

  -- the table has all below c
  abbrev pub KnowsBelow : List PlainInside → ℕ → Type 0
  KnowsBelow known c = (d m : ℕ) → d < c → d < m → Knows known d m

  own_laid : (c : ℕ) (T : List Stood) → T ≡ own_spot c ∷ [] → IsLaid g goes_list goes same flats (λ i m. 0) [] (λ d. []) (own_inside c (length (given_of g c).nets)) T
  own_laid c T e =
      let n = length (given_of g c).nets in
      subst (λ (U : List Stood). IsLaid g goes_list goes same flats (λ i m. 0) [] (λ d. []) (own_inside c n) U) (sym e) (record {
        tied = record {
          long = refl;
          each = λ i s t p q. one i s t p q;
        };
        head = record { first = own_spot c; at = refl; empty = refl };
      })
    where
      one : (i : ℕ) (s : PlainSpot) (t : Stood) → slice_get (own_inside c (length (given_of g c).nets)).spots i ≡ Some s → slice_get (own_spot c ∷ []) i ≡ Some t → IsTied g (own_spot c ∷ []) i s t
      one zero s t p q =
          let n = length (given_of g c).nets in
          let a : PlainSpot = record { by = None; circuit = c; nets = range_with_len 0 n } in
          let x : a ≡ s = same_Some _ _ p in
          let y : own_spot c ≡ t = same_Some _ _ q in
          let own : IsTied g (own_spot c ∷ []) 0 a (own_spot c) = record {
            circuit = refl;
            count = length-range_with_len 0 n;
            nets = λ m low. let l = length-range_with_len 0 n in let lower : m < n = omega arith in get_or-range_with_len 0 n m 0 lower ∙ (let e : 0 + m ≡ m = omega arith in e);
            by = refl;
          } in
          subst (λ (z : PlainSpot). IsTied g (own_spot c ∷ []) 0 z t) x (subst (λ (z : Stood). IsTied g (own_spot c ∷ []) 0 a z) y own)
      one (suc i) s t p q = absurd (none-some s p)

  one_known : (known : List PlainInside) (c m : ℕ) (x : Circuit) → x ≡ given_of g c → IsCircuit g c (given_of g c) → length known ≡ c → KnowsBelow known c → c < m
      → Knows (known ++ inside_of goes_list known c x ∷ []) c m
  one_known known c zero x e is long below low = absurd (omega arith)
  one_known known c (suc m) x e is long below low =
      let given : Circuit = given_of g c in
      let count = length given.nets in
      let start = own_laid c (own_spot c ∷ []) refl in
      let far : ℕ → ℕ → ℕ = λ i k. over (indexed own_net given.nets) (joined_place (inner_nets goes flats) given.calls i k) in
      let made = all_tied g goes_list goes same flats far known (spots_by g goes flats m) given.calls (λ i. i) 0 (own_inside c count) (own_spot c ∷ []) (λ i. omega arith)
      (λ i k. over_is (indexed own_net given.nets) (joined_place (inner_nets goes flats) given.calls i k) ∙ ap (λ (n : ℕ). n + joined_place (inner_nets goes flats) given.calls i k) (indexed_long own_net given.nets))
      (record { tied = start.tied; head = start.head })
      (λ i r at t. let l = good.lower c i r (given, is, at) in below r.circuit m l (omega arith)) in
      let new : PlainInside = inside_of goes_list known c x in
      let it : new ≡ inside_of goes_list known c given = ap (inside_of goes_list known c) e in
      let put : slice_get (known ++ new ∷ []) c ≡ Some new = subst (λ (n : ℕ). slice_get (known ++ new ∷ []) n ≡ Some new) long (get_last known new) in
      record {
        inside = new;
        at = put;
        tied = subst (λ (z : PlainInside). AreTied g z.spots (spots_by g goes flats (suc m) c)) (sym it) made.0.tied;
        count_is =
            ap (λ (z : PlainInside). z.count) it
            ∙ (made.1
            ∙ (ap (λ (n : ℕ). n + length (pieces (inner_nets goes flats) given.calls)) (sym (indexed_long own_net given.nets))
            ∙ (sym (length-append (indexed own_net given.nets) (pieces (inner_nets goes flats) given.calls))
            ∙ ap (λ (z : FlatCircuit). length z.nets) (sym (flat.each c given is)))));
      }

  more_known : (known : List PlainInside) (x : PlainInside) (d m : ℕ) → Knows known d m → Knows (known ++ x ∷ []) d m
  more_known known x d m k = record { inside = k.inside; at = get_left known (x ∷ []) d k.inside k.at; tied = k.tied; count_is = k.count_is }

  pub all_known : (xs : List Circuit) (c : ℕ) (known : List PlainInside) → length known ≡ c → ((i : ℕ) (x : Circuit) → slice_get xs i ≡ Some x → IsCircuit g (c + i) x) → KnowsBelow known c
      → KnowsBelow (all_inside goes_list known c xs) (c + length xs)
  all_known [] c known long at below = λ d m low lower. below d m (omega arith) lower
  all_known (x ∷ xs) c known long at below =
      let is : IsCircuit g c x = subst (λ (n : ℕ). IsCircuit g n x) (let e : c + 0 ≡ c = omega arith in e) (at 0 x refl) in
      let new : PlainInside = inside_of goes_list known c x in
      let rest = all_known xs (c + 1) (known ++ new ∷ []) (let l = length-append known (new ∷ []) in omega arith)
      (λ i y e. subst (λ (n : ℕ). IsCircuit g n y) (let s : c + suc i ≡ (c + 1) + i = omega arith in s) (at (suc i) y e))
      (λ d m low lower. elim (ℕ_discrete d c) [
        | yes same_c ↦ subst (λ (n : ℕ). Knows (known ++ new ∷ []) n m) (sym same_c) (one_known known c m x (sym (given_is g c x is)) (there g c x is) long below (omega arith))
        | no not ↦ more_known known new d m (below d m (omega (arith, not)) lower)
      ]) in
      λ d m low lower. rest d m (omega arith) lower

  pub known_all : KnowsBelow (all_inside goes_list [] 0 g.circuits) (length g.circuits)
  known_all = λ d m low lower. all_known g.circuits 0 [] refl (λ i x e. subst (λ (n : ℕ). IsCircuit g n x) (let s : i ≡ 0 + i = omega arith in s) e) (λ d m l k. absurd (omega arith)) d m (omega arith) lower
