-- The spots that the code makes are those of the definition.
use Rattle.std.proofs.Common.{◌≡◌, inl, inr, ℕ, zero, suc, ◌+◌, ◌-◌, ◌<◌, Bool, true, false, cond, List, [], ◌∷◌, ◌++◌, length, map, Option, Some, None, slice_get, slice_index, refl, sym, ◌∙◌, ap, ap₂, subst, arith, length-append, append-nil, append_assoc}
use Rattle.base_laws.proofs.Items.{get_left, map_to, map_from}
use Rattle.std.proofs.Math.Path.{fun_ext}
use Rattle.std.proofs.lemmas.List.{length-map}
use Rattle.std.proofs.lemmas.Option.{slice_get_within}
use Rattle.std.specs.Prelude.{slice_index_or}
use Rattle.plain_netlist.specs.Netlist.{CallRow, Netlist}
use Rattle.align_laws.specs.Lists.{NetAt, FlatCircuit, over, pieces, joined_place, past, net_at_pin, net_below, given_of}
use Rattle.align_laws.proofs.Pieces.{append_right, append_cases}
use Rattle.part_origins.specs.Inside.{PlainSpot, PlainInside, moved_by, moved_spot, laid, laid_there, laid_if, all_laid}
use Rattle.part_origins.specs.declared.inside.Part.{Part}
use Rattle.part_origins.proofs.Spots.{Stood, below_spot}

pub over_is : {A : Type 0} (xs : List A) (j : ℕ) → over xs j ≡ length xs + j
over_is [] j = omega arith
over_is (x ∷ xs) j = let e = over_is xs j in omega arith

past_long : {B : Type 0} (xs : List ℕ) (ys : List B) → length (past xs ys) ≡ length ys - length xs
past_long [] ys = omega arith
past_long (x ∷ xs) [] = omega arith
past_long (x ∷ xs) (y ∷ ys) = let e = past_long xs ys in omega arith

index_map : (f : ℕ → ℕ) (xs : List ℕ) (n : ℕ) → n < length xs → slice_index (map f xs) n ≡ f (slice_index xs n)
index_map f [] n low = absurd (omega arith)
index_map f (x ∷ xs) zero low = refl
index_map f (x ∷ xs) (suc n) low = index_map f xs n (omega arith)

-- the path of a spot is that of the earlier spot that calls it, and the call
abbrev pub IsBy : List Stood → ℕ → Option Part → List ℕ → Type 0
IsBy S i None path = path ≡ []
IsBy S i (Some p) path = (up : Stood) × (slice_get S p.spot ≡ Some up) × (p.spot < i) × (up.path ++ p.number ∷ [] ≡ path)

pub record IsTied (g : Netlist) (S : List Stood) (i : ℕ) (s : PlainSpot) (t : Stood) : Type 0 where
  pub circuit : s.circuit ≡ t.circuit
  pub count : length s.nets ≡ length (given_of g t.circuit).nets
  pub nets : (n : ℕ) → n < length s.nets → slice_index s.nets n ≡ t.net n
  pub by : IsBy S i s.by t.path

pub record AreTied (g : Netlist) (spots : List PlainSpot) (S : List Stood) : Type 0 where
  pub long : length spots ≡ length S
  pub each : (i : ℕ) (s : PlainSpot) (t : Stood) → slice_get spots i ≡ Some s → slice_get S i ≡ Some t → IsTied g S i s t

-- the first is the circuit itself
pub record Head (S : List Stood) : Type 0 where
  pub first : Stood
  pub at : slice_get S 0 ≡ Some first
  pub empty : first.path ≡ []

head_more : (S T : List Stood) → Head S → Head (S ++ T)
head_more S T h = record { first = h.first; at = get_left S T 0 h.first h.at; empty = h.empty }

by_more : (S T : List Stood) (i : ℕ) (b : Option Part) (path : List ℕ) → IsBy S i b path → IsBy (S ++ T) i b path
by_more S T i None path h = h
by_more S T i (Some p) path h = (h.0, get_left S T p.spot h.0 h.1, h.2, h.3)

-- behind base spots, brought by call k
by_moved : (S T : List Stood) (base k i : ℕ) (to : ℕ → ℕ) (b : Option Part) (path : List ℕ) → Head S → length S ≡ base → 1 < suc base + i → IsBy T i b path
    → IsBy (S ++ map (below_spot k to) T) (base + i) (Some (moved_by k base b)) (k ∷ path)
by_moved S T base k i to None path h e low is =
    let at = slice_get_within S 0 h.first h.at in
    (h.first, get_left S (map (below_spot k to) T) 0 h.first h.at, omega arith, ap₂ (λ (p q : List ℕ). p ++ k ∷ q) h.empty (sym is))
by_moved S T base k i to (Some p) path h e low is =
    let o = over_is S p.spot in
    let place : over S p.spot ≡ base + p.spot = omega arith in
    let at = append_right S (map (below_spot k to) T) p.spot (below_spot k to is.0) (map_to (below_spot k to) T p.spot is.0 is.1) in
    let lower = is.2 in
    (below_spot k to is.0, subst (λ (n : ℕ). slice_get (S ++ map (below_spot k to) T) n ≡ Some (below_spot k to is.0)) place at, omega arith, ap (λ (q : List ℕ). k ∷ q) is.3)

module _ (g : Netlist) where
  tied_moved : (S T : List Stood) (base k i : ℕ) (to : ℕ → ℕ) (s : PlainSpot) (t : Stood) → Head S → length S ≡ base → IsTied g T i s t
      → IsTied g (S ++ map (below_spot k to) T) (base + i) (moved_spot k base to s) (below_spot k to t)
  tied_moved S T base k i to s t h e is =
      let at = slice_get_within S 0 h.first h.at in
      record {
        circuit = is.circuit;
        count = length-map s.nets to ∙ is.count;
        nets = λ n low. let l = length-map s.nets to in let lower : n < length s.nets = omega arith in index_map to s.nets n lower ∙ ap to (is.nets n lower);
        by = by_moved S T base k i to s.by t.path h e (omega arith) is.by;
      }

  pub tied_both : (xs ys : List PlainSpot) (S T : List Stood) (k : ℕ) (to : ℕ → ℕ) → Head S → AreTied g xs S → AreTied g ys T
      → AreTied g (xs ++ map (moved_spot k (length xs) to) ys) (S ++ map (below_spot k to) T)
  tied_both xs ys S T k to h a b = record {
    long =
        let p = length-append xs (map (moved_spot k (length xs) to) ys) in
        let q = length-append S (map (below_spot k to) T) in
        let m = length-map ys (moved_spot k (length xs) to) in
        let n = length-map T (below_spot k to) in
        let c = a.long in let d = b.long in omega arith;
    each = λ i s t p q. elim (append_cases xs (map (moved_spot k (length xs) to) ys) i s p) [
      | inl l ↦ elim (append_cases S (map (below_spot k to) T) i t q) [
        | inl r ↦
            let e = a.each i s t l r in
            record { circuit = e.circuit; count = e.count; nets = e.nets; by = by_more S (map (below_spot k to) T) i s.by t.path e.by }
        | inr r ↦ absurd (let low = slice_get_within xs i s l in let o = over_is S r.0 in let e = r.2 in let long = a.long in omega arith)
      ]
      | inr l ↦ elim (append_cases S (map (below_spot k to) T) i t q) [
        | inl r ↦ absurd (let low = slice_get_within S i t r in let o = over_is xs l.0 in let e = l.2 in let long = a.long in omega arith)
        | inr r ↦
            let u = map_from (moved_spot k (length xs) to) ys l.0 s l.1 in
            let w = map_from (below_spot k to) T r.0 t r.1 in
            let o = over_is xs l.0 in
            let z = over_is S r.0 in
            let same : r.0 ≡ l.0 = let e = l.2 in let d = r.2 in let long = a.long in omega arith in
            let place : length xs + l.0 ≡ i = let e = l.2 in omega arith in
            let there : slice_get T l.0 ≡ Some w.0 = subst (λ (n : ℕ). slice_get T n ≡ Some w.0) same w.1 in
            let one = tied_moved S T (length xs) k l.0 to u.0 w.0 h (sym a.long) (b.each l.0 u.0 w.0 u.1 there) in
            subst (λ (n : ℕ). IsTied g (S ++ map (below_spot k to) T) n s t) place
            (subst (λ (y : PlainSpot). IsTied g (S ++ map (below_spot k to) T) (length xs + l.0) y t) u.2
            (subst (λ (y : Stood). IsTied g (S ++ map (below_spot k to) T) (length xs + l.0) (moved_spot k (length xs) to u.0) y) w.2 one))
      ]
    ];
  }

-- what the table has for a circuit
pub record IsKnown (g : Netlist) (known : List PlainInside) (d : ℕ) (T : List Stood) (count : ℕ) : Type 0 where
  pub inside : PlainInside
  pub at : slice_get known d ≡ Some inside
  pub tied : AreTied g inside.spots T
  pub count_is : inside.count ≡ count

module _ (g : Netlist) (goes_list : List Bool) (goes : ℕ → Bool) (same : (c : ℕ) → slice_index_or goes_list c false ≡ goes c) (flats : ℕ → FlatCircuit) (far : ℕ → ℕ → ℕ)
    (known : List PlainInside) (S : ℕ → List Stood) where
  abbrev nets_at : (ℕ → ℕ) → ℕ → CallRow → List NetAt
  nets_at p i r = cond (goes r.circuit) (map (net_below (p i)) (past r.nets (flats r.circuit).nets)) []

  abbrev spots_at : (ℕ → ℕ) → ℕ → CallRow → List Stood
  spots_at p i r = cond (goes r.circuit) (map (below_spot (p i) (net_at_pin r.nets (far (p i)))) (S r.circuit)) []

  pub record IsLaid (acc : PlainInside) (T : List Stood) : Type 0 where
    pub tied : AreTied g acc.spots T
    pub head : Head T

  abbrev HasKnown : CallRow → Type 0
  HasKnown r = goes r.circuit ≡ true → IsKnown g known r.circuit (S r.circuit) (length (flats r.circuit).nets)

  record Next (p : ℕ → ℕ) (k : ℕ) (r : CallRow) (acc : PlainInside) (T : List Stood) (b : Bool) : Type 0 where
    laid : IsLaid (cond b (laid_there k r.nets (slice_get known r.circuit) acc) acc) (T ++ cond b (map (below_spot (p 0) (net_at_pin r.nets (far (p 0)))) (S r.circuit)) [])
    count : (cond b (laid_there k r.nets (slice_get known r.circuit) acc) acc).count ≡ acc.count + length (cond b (map (net_below (p 0)) (past r.nets (flats r.circuit).nets)) [])

  next : (p : ℕ → ℕ) (k : ℕ) (r : CallRow) (acc : PlainInside) (T : List Stood) → p 0 ≡ k → ((m : ℕ) → far (p 0) m ≡ acc.count + m) → IsLaid acc T → (b : Bool) → (b ≡ true → IsKnown g known r.circuit (S r.circuit) (length (flats r.circuit).nets))
      → Next p k r acc T b
  next p k r acc T e h is false has = record {
    laid = subst (λ (U : List Stood). IsLaid acc U) (sym (append-nil T)) is;
    count = omega arith;
  }
  next p k r acc T e h is true has =
      let n = has refl in
      let to : ℕ → ℕ = net_at_pin r.nets (far (p 0)) in
      let put : to ≡ net_at_pin r.nets (λ i. acc.count + i) = ap (λ (away : ℕ → ℕ). net_at_pin r.nets away) (fun_ext h) in
      let made : PlainInside = laid k r.nets n.inside acc in
      let there : made ≡ laid_there k r.nets (slice_get known r.circuit) acc = ap (λ (o : Option PlainInside). laid_there k r.nets o acc) (sym n.at) in
      let both = tied_both g acc.spots n.inside.spots T (S r.circuit) k (net_at_pin r.nets (λ i. acc.count + i)) is.head is.tied n.tied in
      let spots : T ++ map (below_spot k (net_at_pin r.nets (λ i. acc.count + i))) (S r.circuit) ≡ T ++ map (below_spot (p 0) to) (S r.circuit)
      = ap₂ (λ (q : ℕ) (f : ℕ → ℕ). T ++ map (below_spot q f) (S r.circuit)) (sym e) (sym put) in
      record {
        laid = subst (λ (x : PlainInside). IsLaid x (T ++ map (below_spot (p 0) to) (S r.circuit))) there
            (record { tied = subst (λ (U : List Stood). AreTied g made.spots U) spots both; head = head_more T (map (below_spot (p 0) to) (S r.circuit)) is.head });
        count =
            let c : (laid_there k r.nets (slice_get known r.circuit) acc).count ≡ acc.count + (n.inside.count - length r.nets) = ap (λ (x : PlainInside). x.count) (sym there) in
            let d = n.count_is in
            let l = length-map (past r.nets (flats r.circuit).nets) (net_below (p 0)) in
            let q = past_long r.nets (flats r.circuit).nets in
            c ∙ (let z : acc.count + (n.inside.count - length r.nets) ≡ acc.count + length (map (net_below (p 0)) (past r.nets (flats r.circuit).nets)) = omega arith in z);
      }

  pub all_tied : (rs : List CallRow) (p : ℕ → ℕ) (k : ℕ) (acc : PlainInside) (T : List Stood) → ((i : ℕ) → p i ≡ k + i) → ((i m : ℕ) → far (p i) m ≡ acc.count + joined_place (nets_at p) rs i m)
      → IsLaid acc T → ((i : ℕ) (r : CallRow) → slice_get rs i ≡ Some r → goes r.circuit ≡ true → IsKnown g known r.circuit (S r.circuit) (length (flats r.circuit).nets))
      → IsLaid (all_laid goes_list known k rs acc) (T ++ pieces (spots_at p) rs) × ((all_laid goes_list known k rs acc).count ≡ acc.count + length (pieces (nets_at p) rs))
  all_tied [] p k acc T at h is has = (subst (λ (U : List Stood). IsLaid acc U) (sym (append-nil T)) is, let e : acc.count ≡ acc.count + 0 = omega arith in e)
  all_tied (r ∷ rs) p k acc T at h is has =
      let first : p 0 ≡ k = let e = at 0 in omega arith in
      let n : Next p k r acc T (goes r.circuit) = next p k r acc T first (λ m. h 0 m) is (goes r.circuit) (has 0 r refl) in
      let step : laid_if goes_list known k r acc ≡ cond (goes r.circuit) (laid_there k r.nets (slice_get known r.circuit) acc) acc
      = ap (λ (b : Bool). cond b (laid_there k r.nets (slice_get known r.circuit) acc) acc) (same r.circuit) in
      let now : PlainInside = cond (goes r.circuit) (laid_there k r.nets (slice_get known r.circuit) acc) acc in
      let rest = all_tied rs (λ i. p (suc i)) (k + 1) now (T ++ spots_at p 0 r) (λ i. let e = at (suc i) in omega arith)
      (λ i m. let e = h (suc i) m in let o = over_is (nets_at p 0 r) (joined_place (nets_at (λ j. p (suc j))) rs i m) in let c = n.count in omega arith)
      n.laid (λ i q e. has (suc i) q e) in
      let spots : (T ++ spots_at p 0 r) ++ pieces (spots_at (λ i. p (suc i))) rs ≡ T ++ pieces (spots_at p) (r ∷ rs) = append_assoc T (spots_at p 0 r) (pieces (spots_at (λ i. p (suc i))) rs) in
      let long : now.count + length (pieces (nets_at (λ i. p (suc i))) rs) ≡ acc.count + length (pieces (nets_at p) (r ∷ rs))
      = let c = n.count in let l = length-append (nets_at p 0 r) (pieces (nets_at (λ i. p (suc i))) rs) in omega arith in (
        subst (λ (x : PlainInside). IsLaid (all_laid goes_list known (k + 1) rs x) (T ++ pieces (spots_at p) (r ∷ rs))) (sym step) (subst (λ (U : List Stood). IsLaid (all_laid goes_list known (k + 1) rs now) U) spots rest.0),
        ap (λ (x : PlainInside). (all_laid goes_list known (k + 1) rs x).count) step ∙ (rest.1 ∙ long),
      )
