-- Tables of numbers, and which circuits of a netlist an aligned one has.
use Rattle.std.proofs.Common.{◌≡◌, ◌⊎◌, ◌↔◌, inl, inr, ℕ, zero, suc, ◌+◌, ◌<◌, ◌≤◌, ◌==◌, ◌&&◌, ◌||◌, not, Bool, true, false, cond, List, [], ◌∷◌, ◌++◌, length, map, Option, Some, None, slice_get, get_or, refl, sym, ◌∙◌, ap, subst, arith, length-append}
use Rattle.base_laws.proofs.Items.{get_left, map_to, map_from}
use Rattle.std.proofs.lemmas.Bool.{cases_Bool}
use Rattle.std.specs.Prelude.{slice_index_or, slice_set, replicate}
use Rattle.std.specs.List.{list_any}
use Rattle.std.specs.Str.{bytes_eq}
use Rattle.std.proofs.Math.Decide.{ℕ_discrete}
use Rattle.std.proofs.lemmas.Bool.Decides.{eqb_tells}
use Rattle.std.proofs.lemmas.List.{get_or-set_same, get_or-set_other, length-set, get_or-replicate}
use Rattle.std.proofs.lemmas.List.Sums.{position_or_len_is}
use Rattle.std.proofs.lemmas.Option.{none-some, same_Some, slice_get_within, slice_get-get_or}
use Rattle.std.proofs.lemmas.Slice.Eq.{bytes_eq-Decides}
use Rattle.plain_netlist.specs.Lists.{IsListed}
use Rattle.plain_netlist.specs.Netlist.{DeviceRow, CallRow, Circuit, Netlist, IsCircuit, IsCall, HasDevice}
use Rattle.plain_netlist.specs.Sound.{IsGood, HasDevices}
use Rattle.text_table.specs.Texts.{has_text, place_of, with_text}
use Rattle.part_origins.specs.Kept.{texts_from, set_all, is_kept, holds, holding, going}
use Rattle.part_origins.specs.Origins.{AreNamedApart}
use Rattle.part_origins.proofs.Tied.{over_is}

pub has_listed : (n : ℕ) (ns : List ℕ) → IsListed n ns → list_any (λ (x : ℕ). n == x) ns ≡ true
has_listed n [] h = absurd h
has_listed n (x ∷ xs) (inl e) = elim (eqb_tells n x) [ inl k ↦ rw k.0 refl | inr k ↦ absurd (k.1 e) ]
has_listed n (x ∷ xs) (inr h) = elim (eqb_tells n x) [ inl k ↦ rw k.0 refl | inr k ↦ rw k.0 (has_listed n xs h) ]

pub among : (n : ℕ) (ns : List ℕ) → list_any (λ (x : ℕ). n == x) ns ≡ true → IsListed n ns
among n [] h = absurd cc
among n (x ∷ xs) h = elim (eqb_tells n x) [
  | inl k ↦ inl k.1
  | inr k ↦ inr (among n xs (let g : list_any (λ (y : ℕ). n == y) (x ∷ xs) ≡ true = h in rw k.0 at g))
]

-- a list that isn't empty
not_none : (n : ℕ) → not (suc n == 0) ≡ true
not_none n = elim (eqb_tells (suc n) 0) [ inl k ↦ absurd (let e = k.1 in omega arith) | inr k ↦ ap not k.0 ]

-- a table with values set
pub long_set : (ns values : List ℕ) (table : List (Option ℕ)) (i : ℕ) → length (set_all table i ns values) ≡ length table
long_set [] values table i = refl
long_set (n ∷ ns) values table i = long_set ns values (slice_set table n (Some (slice_index_or values i 0))) (i + 1) ∙ length-set table n (Some (slice_index_or values i 0))

pub past_end : (table : List (Option ℕ)) (n : ℕ) → length table ≤ n → slice_index_or table n None ≡ None
past_end [] n low = refl
past_end (x ∷ xs) zero low = absurd (omega arith)
past_end (x ∷ xs) (suc n) low = past_end xs n (omega arith)

set_one : (table : List (Option ℕ)) (x n v : ℕ) (f : ℕ → ℕ) → n < length table → v ≡ f x → slice_index_or (slice_set table x (Some v)) n None ≡ cond (n == x) (Some (f n)) (slice_index_or table n None)
set_one table x n v f low e = elim (eqb_tells n x) [
  | inl k ↦
      let is : n ≡ x = k.1 in
      let low_x : x < length table = omega arith in
      let at : slice_index_or (slice_set table x (Some v)) x None ≡ Some v = get_or-set_same table x (Some v) None low_x in
      ap (λ (m : ℕ). slice_index_or (slice_set table x (Some v)) m None) is ∙ (at ∙ (ap Some (e ∙ ap f (sym is)) ∙ ap (λ (b : Bool). cond b (Some (f n)) (slice_index_or table n None)) (sym k.0)))
  | inr k ↦ get_or-set_other table x n (Some v) None k.1 ∙ ap (λ (b : Bool). cond b (Some (f n)) (slice_index_or table n None)) (sym k.0)
]

pub set_at : (ns values : List ℕ) (table : List (Option ℕ)) (i n : ℕ) (f : ℕ → ℕ) → n < length table → ((j m : ℕ) → slice_get ns j ≡ Some m → slice_index_or values (i + j) 0 ≡ f m)
    → slice_index_or (set_all table i ns values) n None ≡ cond (list_any (λ (x : ℕ). n == x) ns) (Some (f n)) (slice_index_or table n None)
set_at [] values table i n f low h = refl
set_at (x ∷ xs) values table i n f low h =
    let v = slice_index_or values i 0 in
    let first : v ≡ f x = ap (λ (k : ℕ). slice_index_or values k 0) (let e : i ≡ i + 0 = omega arith in e) ∙ h 0 x refl in
    let next = slice_set table x (Some v) in
    let long = length-set table x (Some v) in
    let rest = set_at xs values next (i + 1) n f (omega arith) (λ j m e. ap (λ (k : ℕ). slice_index_or values k 0) (let s : (i + 1) + j ≡ i + suc j = omega arith in s) ∙ h (suc j) m e) in
    rest ∙ (ap (λ (o : Option ℕ). cond (list_any (λ (y : ℕ). n == y) xs) (Some (f n)) o) (set_one table x n v f low first) ∙ either (n == x) (list_any (λ (y : ℕ). n == y) xs))
  where
    either : (b d : Bool) → cond d (Some (f n)) (cond b (Some (f n)) (slice_index_or table n None)) ≡ cond (b || d) (Some (f n)) (slice_index_or table n None)
    either true true = refl
    either true false = refl
    either false true = refl
    either false false = refl

-- so in a table of nothing
pub set_in_none : (ns values : List ℕ) (count n : ℕ) (f : ℕ → ℕ) → n < count → ((j m : ℕ) → slice_get ns j ≡ Some m → slice_index_or values j 0 ≡ f m)
    → slice_index_or (set_all (replicate count None) 0 ns values) n None ≡ cond (list_any (λ (x : ℕ). n == x) ns) (Some (f n)) None
set_in_none ns values count n f low h =
    let table : List (Option ℕ) = replicate count None in
    let long = length-replicate-none count in
    set_at ns values table 0 n f (omega arith) (λ j m e. ap (λ (k : ℕ). slice_index_or values k 0) (let s : 0 + j ≡ j = omega arith in s) ∙ h j m e)
    ∙ ap (λ (o : Option ℕ). cond (list_any (λ (x : ℕ). n == x) ns) (Some (f n)) o) (get_or-replicate count n None None low)
  where
    length-replicate-none : (count : ℕ) → length (let t : List (Option ℕ) = replicate count None in t) ≡ count
    length-replicate-none zero = refl
    length-replicate-none (suc k) = let e = length-replicate-none k in omega arith

pub long_none : (count : ℕ) → length (let t : List (Option ℕ) = replicate count None in t) ≡ count
long_none zero = refl
long_none (suc k) = let e = long_none k in omega arith

-- names
abbrev name_of : Circuit → List ℕ
name_of c = c.name

missing : (q : List ℕ) (names : List (List ℕ)) → ((i : ℕ) → slice_get names i ≡ Some q → ⊥) → has_text names q ≡ false
missing q [] none = refl
missing q (x ∷ xs) none = elim (cases_Bool (bytes_eq q x)) [
  | inl t ↦ let same : q ≡ x = (bytes_eq-Decides q x).0 t in absurd (none 0 (ap Some (sym same)))
  | inr e ↦ rw e (missing q xs (λ i e. none (suc i) e))
]

abbrev pub AreOnce : List (List ℕ) → Type 0
AreOnce names = (i j : ℕ) (name : List ℕ) → slice_get names i ≡ Some name → slice_get names j ≡ Some name → i ≡ j

pub all_texts : (cs : List Circuit) (before all : List (List ℕ)) → before ++ map name_of cs ≡ all → AreOnce all → texts_from before cs ≡ all
all_texts [] before all e once = sym (append-nil-at before) ∙ e
  where
    append-nil-at : (xs : List (List ℕ)) → xs ++ [] ≡ xs
    append-nil-at [] = refl
    append-nil-at (x ∷ xs) = ap (λ (t : List (List ℕ)). x ∷ t) (append-nil-at xs)
all_texts (c ∷ cs) before all e once =
    let fresh : has_text before c.name ≡ false = missing c.name before (λ i h.
    let here : slice_get all i ≡ Some c.name = subst (λ (t : List (List ℕ)). slice_get t i ≡ Some c.name) e (get_left before (c.name ∷ map name_of cs) i c.name h) in
    let place = over_is before 0 in
    let there : slice_get all (length before) ≡ Some c.name = subst (λ (t : List (List ℕ)). slice_get t (length before) ≡ Some c.name) e (at_end before c.name (map name_of cs)) in
    let same = once i (length before) c.name here there in
    let low = slice_get_within before i c.name h in
    absurd (omega arith)) in
    let step : with_text before c.name ≡ before ++ c.name ∷ [] = rw fresh refl in
    ap (λ (t : List (List ℕ)). texts_from t cs) step ∙ all_texts cs (before ++ c.name ∷ []) all (joined before c.name (map name_of cs) ∙ e) once
  where
    at_end : (xs : List (List ℕ)) (x : List ℕ) (ys : List (List ℕ)) → slice_get (xs ++ x ∷ ys) (length xs) ≡ Some x
    at_end [] x ys = refl
    at_end (y ∷ xs) x ys = at_end xs x ys

    joined : (xs : List (List ℕ)) (x : List ℕ) (ys : List (List ℕ)) → (xs ++ x ∷ []) ++ ys ≡ xs ++ x ∷ ys
    joined [] x ys = refl
    joined (y ∷ xs) x ys = ap (λ (t : List (List ℕ)). y ∷ t) (joined xs x ys)

pub place_once : (names : List (List ℕ)) (i : ℕ) (name : List ℕ) → AreOnce names → slice_get names i ≡ Some name → place_of names name ≡ i
place_once names i name once h =
    let low = slice_get_within names i name h in
    position_or_len_is (bytes_eq name) names i [] (omega arith)
    (λ k lower. elim (cases_Bool (bytes_eq name (get_or names k []))) [
      | inl t ↦
          let same : name ≡ get_or names k [] = (bytes_eq-Decides name (get_or names k [])).0 t in
          let at : slice_get names k ≡ Some (get_or names k []) = slice_get-get_or names k [] (omega arith) in
          let e = once k i name (at ∙ ap Some (sym same)) h in
          absurd (omega arith)
      | inr e ↦ e
    ])
    (λ lower. (bytes_eq-Decides name (get_or names i [])).1 (same_Some _ _ (sym h ∙ slice_get-get_or names i [] low)))

pub place_is : (g : Netlist) (c : ℕ) (x : Circuit) → AreNamedApart g → IsCircuit g c x → place_of (texts_from [] g.circuits) x.name ≡ c
place_is g c x apart is =
    let names = map name_of g.circuits in
    let once : AreOnce names = λ i j name p q.
    let u = map_from name_of g.circuits i name p in
    let v = map_from name_of g.circuits j name q in
    apart i j u.0 v.0 u.1 v.1 (u.2 ∙ sym v.2) in
    ap (λ (t : List (List ℕ)). place_of t x.name) (all_texts g.circuits [] names refl once) ∙ place_once names c x.name once (map_to name_of g.circuits c x is)

-- devices below
module _ (g : Netlist) (good : IsGood g (λ k. k)) where
  abbrev Tells : List Bool → ℕ → Type 0
  Tells marks c = (d : ℕ) → d < c → (slice_index_or marks d false ≡ true) ↔ HasDevices g d

  not_empty : (ds : List DeviceRow) → not (length ds == 0) ≡ true → (d : DeviceRow) × (slice_get ds 0 ≡ Some d)
  not_empty [] h = absurd cc
  not_empty (d ∷ ds) h = (d, refl)

  some_call : (marks : List Bool) (rs : List CallRow) → list_any (λ (r : CallRow). slice_index_or marks r.circuit false) rs ≡ true
      → (k : ℕ) × (r : CallRow) × (slice_get rs k ≡ Some r) × (slice_index_or marks r.circuit false ≡ true)
  some_call marks [] h = absurd cc
  some_call marks (r ∷ rs) h = elim (cases_Bool (slice_index_or marks r.circuit false)) [
    | inl t ↦ (0, r, refl, t)
    | inr e ↦ let q = some_call marks rs (let z : list_any (λ (s : CallRow). slice_index_or marks s.circuit false) (r ∷ rs) ≡ true = h in rw e at z) in (suc q.0, q.1, q.2, q.3)
  ]

  call_some : (marks : List Bool) (rs : List CallRow) (k : ℕ) (r : CallRow) → slice_get rs k ≡ Some r → slice_index_or marks r.circuit false ≡ true → list_any (λ (s : CallRow). slice_index_or marks s.circuit false) rs ≡ true
  call_some marks [] k r at t = absurd (none-some r at)
  call_some marks (s ∷ rs) zero r at t = let e : s ≡ r = same_Some _ _ at in let u : slice_index_or marks s.circuit false ≡ true = ap (λ (z : CallRow). slice_index_or marks z.circuit false) e ∙ t in rw u refl
  call_some marks (s ∷ rs) (suc k) r at t = elim (cases_Bool (slice_index_or marks s.circuit false)) [ inl u ↦ rw u refl | inr u ↦ rw u (call_some marks rs k r at t) ]

  either_true : (a b : Bool) → (a || b) ≡ true → (a ≡ true) ⊎ (b ≡ true)
  either_true true b h = inl refl
  either_true false b h = inr h

  right_true : (a b : Bool) → b ≡ true → (a || b) ≡ true
  right_true true b h = refl
  right_true false b h = h

  left_true : (a b : Bool) → a ≡ true → (a || b) ≡ true
  left_true true b h = refl
  left_true false b h = absurd cc

  one_call : (c k : ℕ) (x : Circuit) (row : CallRow) → IsCircuit g c x → IsCall g c k row → slice_get x.calls k ≡ Some row
  one_call c k x row is (y, is', at) = let e : y ≡ x = same_Some _ _ (sym is' ∙ is) in subst (λ (z : Circuit). slice_get z.calls k ≡ Some row) e at

  tells_one : (marks : List Bool) (c : ℕ) (x : Circuit) → IsCircuit g c x → Tells marks c → (holds marks x ≡ true) ↔ HasDevices g c
  tells_one marks c x is tells = (
    (λ h. elim (either_true (not (length x.devices == 0)) (list_any (λ (r : CallRow). slice_index_or marks r.circuit false) x.calls) h) [
      | inl t ↦ let d = not_empty x.devices t in ([], 0, d.0, (x, is, d.1))
      | inr t ↦
          let q = some_call marks x.calls t in
          let call : IsCall g c q.0 q.1 = (x, is, q.2) in
          let below = (tells q.1.circuit (good.lower c q.0 q.1 call)).0 q.3 in
          (q.0 ∷ below.0, below.1, below.2, (q.1, call, below.3))
    ]),
    (λ h. back h.0 h.1 h.2 h.3),
  )
    where
      some : (ds : List DeviceRow) (j : ℕ) (row : DeviceRow) → slice_get ds j ≡ Some row → not (length ds == 0) ≡ true
      some [] j row h = absurd (none-some row h)
      some (d ∷ ds) j row h = not_none (length ds)

      back : (path : List ℕ) (j : ℕ) (row : DeviceRow) → HasDevice g c path j row → holds marks x ≡ true
      back [] j row (y, is', at) =
          let e : y ≡ x = same_Some _ _ (sym is' ∙ is) in
          left_true (not (length x.devices == 0)) (list_any (λ (r : CallRow). slice_index_or marks r.circuit false) x.calls) (some x.devices j row (subst (λ (z : Circuit). slice_get z.devices j ≡ Some row) e at))
      back (k ∷ ks) j row (call, is_call, h) =
          let at = one_call c k x call is is_call in
          let t = (tells call.circuit (good.lower c k call is_call)).1 (ks, j, row, h) in
          right_true (not (length x.devices == 0)) (list_any (λ (r : CallRow). slice_index_or marks r.circuit false) x.calls) (call_some marks x.calls k call at t)

  index_left : (xs ys : List Bool) (d : ℕ) → d < length xs → slice_index_or (xs ++ ys) d false ≡ slice_index_or xs d false
  index_left [] ys d low = absurd (omega arith)
  index_left (x ∷ xs) ys zero low = refl
  index_left (x ∷ xs) ys (suc d) low = index_left xs ys d (omega arith)

  index_end : (xs : List Bool) (y : Bool) → slice_index_or (xs ++ y ∷ []) (length xs) false ≡ y
  index_end [] y = refl
  index_end (x ∷ xs) y = index_end xs y

  all_tell : (xs : List Circuit) (c : ℕ) (marks : List Bool) → length marks ≡ c → ((i : ℕ) (x : Circuit) → slice_get xs i ≡ Some x → IsCircuit g (c + i) x) → Tells marks c
      → Tells (holding marks xs) (c + length xs) × (length (holding marks xs) ≡ c + length xs)
  all_tell [] c marks long at tells = ((λ d low. tells d (omega arith)), omega arith)
  all_tell (x ∷ xs) c marks long at tells =
      let is : IsCircuit g c x = subst (λ (n : ℕ). IsCircuit g n x) (let e : c + 0 ≡ c = omega arith in e) (at 0 x refl) in
      let mark : Bool = holds marks x in
      let more = marks ++ mark ∷ [] in
      let one = tells_one marks c x is tells in
      let now : Tells more (c + 1) = λ d low. elim (ℕ_discrete d c) [
        | yes e ↦
            let at_c : slice_index_or more d false ≡ mark = ap (λ (n : ℕ). slice_index_or more n false) (e ∙ sym long) ∙ index_end marks mark in
            ((λ h. subst (λ (n : ℕ). HasDevices g n) (sym e) (one.0 (sym at_c ∙ h))), (λ h. at_c ∙ one.1 (subst (λ (n : ℕ). HasDevices g n) e h)))
        | no not_c ↦
            let lower : d < c = omega (arith, not_c) in
            let same = index_left marks (mark ∷ []) d (omega arith) in
            let t = tells d lower in
            ((λ h. t.0 (sym same ∙ h)), (λ h. same ∙ t.1 h))
      ] in
      let rest = all_tell xs (c + 1) more (let l = length-append marks (mark ∷ []) in omega arith)
      (λ i y e. subst (λ (n : ℕ). IsCircuit g n y) (let s : c + suc i ≡ (c + 1) + i = omega arith in s) (at (suc i) y e)) now in
      ((λ d low. rest.0 d (omega arith)), let e = rest.1 in omega arith)

  pub holding_tells : (d : ℕ) → d < length g.circuits → (slice_index_or (holding [] g.circuits) d false ≡ true) ↔ HasDevices g d
  holding_tells d low = (all_tell g.circuits 0 [] refl (λ i x e. subst (λ (n : ℕ). IsCircuit g n x) (let s : i ≡ 0 + i = omega arith in s) e) (λ k l. absurd (omega arith))).0 d (omega arith)

  pub holding_long : length (holding [] g.circuits) ≡ length g.circuits
  holding_long = let e = (all_tell g.circuits 0 [] refl (λ i x e. subst (λ (n : ℕ). IsCircuit g n x) (let s : i ≡ 0 + i = omega arith in s) e) (λ k l. absurd (omega arith))).1 in omega arith

pub going_at : (numbers : List (Option ℕ)) (marks : List Bool) (c d : ℕ) → slice_index_or (going numbers c marks) d false ≡ (not (is_kept numbers (c + d)) && slice_index_or marks d false)
going_at numbers [] c d = both_false (not (is_kept numbers (c + d)))
  where
    both_false : (b : Bool) → false ≡ (b && false)
    both_false true = refl
    both_false false = refl
going_at numbers (m ∷ ms) c zero = ap (λ (n : ℕ). not (is_kept numbers n) && m) (let e : c ≡ c + 0 = omega arith in e)
going_at numbers (m ∷ ms) c (suc d) = going_at numbers ms (c + 1) d ∙ ap (λ (n : ℕ). not (is_kept numbers n) && slice_index_or ms d false) (let e : (c + 1) + d ≡ c + suc d = omega arith in e)
