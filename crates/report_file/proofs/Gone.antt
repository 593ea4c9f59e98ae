-- The names of circuits that go.
use Rattle.std.proofs.Common.{◌≡◌, inl, inr, ℕ, zero, suc, ◌<◌, ◌≤◌, Bool, true, false, cond, List, [], ◌∷◌, ◌++◌, length, map, Some, slice_get, refl, sym, ap, subst, ◌∙◌, arith, true≢false}
use Rattle.std.proofs.lemmas.Bool.{or_left, or_right}
use Rattle.std.specs.Prelude.{◌||◌}
use Rattle.std.specs.List.{filter, list_any}
use Rattle.std.specs.Str.{bytes_eq}
use Rattle.std.proofs.lemmas.List.{map-append}
use Rattle.std.proofs.lemmas.List.Folds.{list_any-append}
use Rattle.net_names.specs.Folding.{folded_bytes}
use Rattle.plain_netlist.specs.Lists.{AreApart, IsListed}
use Rattle.plain_netlist.specs.Netlist.{Circuit}
use Rattle.pair_turns.specs.Alone.{gone_names, has_name}
use Rattle.pair_turns.proofs.Lists.{apart_join, found, of_map, on_map}

-- a circuit that goes has this name
pub record IsGone (goes : List Bool) (cs : List Circuit) (name : List ℕ) : Type 0 where
  pub place : ℕ
  pub circuit : Circuit
  pub there : slice_get cs place ≡ Some circuit
  pub goes_so : slice_get goes place ≡ Some true
  pub is : name ≡ circuit.name

pub gone : (goes : List Bool) (cs : List Circuit) (name : List ℕ) → IsListed name (gone_names goes cs) → IsGone goes cs name
gone [] cs name h = absurd h
gone (g ∷ gs) [] name h = absurd h
gone (true ∷ gs) (c ∷ cs) name (inl e) = record { place = 0; circuit = c; there = refl; goes_so = refl; is = e }
gone (true ∷ gs) (c ∷ cs) name (inr h) = let r = gone gs cs name h in record { place = suc r.place; circuit = r.circuit; there = r.there; goes_so = r.goes_so; is = r.is }
gone (false ∷ gs) (c ∷ cs) name h = let r = gone gs cs name h in record { place = suc r.place; circuit = r.circuit; there = r.there; goes_so = r.goes_so; is = r.is }

pub gone_there : (goes : List Bool) (cs : List Circuit) (k : ℕ) (c : Circuit) → slice_get goes k ≡ Some true → slice_get cs k ≡ Some c → IsListed c.name (gone_names goes cs)
gone_there [] cs k c e f = absurd cc
gone_there (g ∷ gs) [] k c e f = absurd cc
gone_there (true ∷ gs) (x ∷ cs) zero c e f = let s : x ≡ c = cc in inl (ap (λ (y : Circuit). y.name) (sym s))
gone_there (false ∷ gs) (x ∷ cs) zero c e f = absurd cc
gone_there (true ∷ gs) (x ∷ cs) (suc k) c e f = inr (gone_there gs cs k c e f)
gone_there (false ∷ gs) (x ∷ cs) (suc k) c e f = gone_there gs cs k c e f

-- no two circuits of the list have one name
abbrev pub AreNamed : List Circuit → Type 0
AreNamed cs = (j k : ℕ) (c d : Circuit) → slice_get cs j ≡ Some c → slice_get cs k ≡ Some d → folded_bytes c.name ≡ folded_bytes d.name → j ≡ k

more_named : (x : Circuit) (cs : List Circuit) → AreNamed (x ∷ cs) → AreNamed cs
more_named x cs h j k c d e f s = let r = h (suc j) (suc k) c d e f s in omega arith

pub gone_apart : (goes : List Bool) (cs : List Circuit) → AreNamed cs → AreApart (map folded_bytes (gone_names goes cs))
gone_apart [] cs h = tt
gone_apart (g ∷ gs) [] h = tt
gone_apart (false ∷ gs) (c ∷ cs) h = gone_apart gs cs (more_named c cs h)
gone_apart (true ∷ gs) (c ∷ cs) h = (
  (λ l.
      let r = of_map folded_bytes (gone_names gs cs) (folded_bytes c.name) l in
      let s = gone gs cs r.item r.there in
      let e = h 0 (suc s.place) c s.circuit refl s.there (r.is ∙ ap folded_bytes s.is) in absurd (omega arith)),
  gone_apart gs cs (more_named c cs h),
)

-- names to which others are put that are not among them
pub both_apart : (names : List (List ℕ)) (goes : List Bool) (cs : List Circuit) → AreApart (map folded_bytes names) → AreNamed cs
    → ((k : ℕ) (c : Circuit) → slice_get cs k ≡ Some c → has_name names c.name ≡ true → ⊥) → AreApart (map folded_bytes (names ++ gone_names goes cs))
both_apart names goes cs apart named free =
    subst AreApart (sym (map-append folded_bytes names (gone_names goes cs)))
    (apart_join (map folded_bytes names) (map folded_bytes (gone_names goes cs)) apart (gone_apart goes cs named)
    (λ q h l.
    let r = of_map folded_bytes (gone_names goes cs) q l in
    let s = gone goes cs r.item r.there in
    let same : q ≡ folded_bytes s.circuit.name = r.is ∙ ap folded_bytes s.is in
    free s.place s.circuit s.there (subst (λ (x : List ℕ). list_any (bytes_eq x) (map folded_bytes names) ≡ true) same (found q (map folded_bytes names) h))))

-- a name stays among them, and a circuit that goes comes to them
has_more : (names more : List (List ℕ)) (name : List ℕ) → has_name (names ++ more) name ≡ (has_name names name || has_name more name)
has_more names more name =
    ap (λ (all : List (List ℕ)). list_any (bytes_eq (folded_bytes name)) all) (map-append folded_bytes names more) ∙ list_any-append (bytes_eq (folded_bytes name)) (map folded_bytes names) (map folded_bytes more)

pub stays : (names more : List (List ℕ)) (name : List ℕ) → has_name names name ≡ true → has_name (names ++ more) name ≡ true
stays names more name h = has_more names more name ∙ or_left (has_name names name) (has_name more name) h

pub comes : (names more : List (List ℕ)) (name : List ℕ) → IsListed name more → has_name (names ++ more) name ≡ true
comes names more name h = has_more names more name ∙ or_right (has_name names name) (has_name more name) (found (folded_bytes name) (map folded_bytes more) (on_map folded_bytes more name h))

-- fewer pass a test that is harder, and that one fails which passed
pub fewer : (p q : Circuit → Bool) (xs : List Circuit) → ((c : Circuit) → q c ≡ true → p c ≡ true) → length (filter q xs) ≤ length (filter p xs)
fewer p q [] h = omega arith
fewer p q (x ∷ xs) h = step (q x) (p x) refl refl (fewer p q xs h)
  where
    step : (s t : Bool) → q x ≡ s → p x ≡ t → length (filter q xs) ≤ length (filter p xs) → length (cond s (x ∷ filter q xs) (filter q xs)) ≤ length (cond t (x ∷ filter p xs) (filter p xs))
    step true true e f more = omega arith
    step true false e f more = absurd (let k = h x e in true≢false (sym k ∙ f))
    step false true e f more = omega arith
    step false false e f more = more

pub one_fewer : (p q : Circuit → Bool) (xs : List Circuit) → ((c : Circuit) → q c ≡ true → p c ≡ true) → (k : ℕ) (c : Circuit) → slice_get xs k ≡ Some c → p c ≡ true → q c ≡ false → length (filter q xs) < length (filter p xs)
one_fewer p q [] h k c at passes fails = absurd cc
one_fewer p q (x ∷ xs) h zero c at passes fails =
    let s : x ≡ c = cc in
    step (ap p s ∙ passes) (ap q s ∙ fails) (fewer p q xs h)
  where
    step : p x ≡ true → q x ≡ false → length (filter q xs) ≤ length (filter p xs) → length (filter q (x ∷ xs)) < length (filter p (x ∷ xs))
    step e f more = rw (e, f) (omega arith)
one_fewer p q (x ∷ xs) h (suc k) c at passes fails = step (q x) (p x) refl refl (one_fewer p q xs h k c at passes fails)
  where
    step : (s t : Bool) → q x ≡ s → p x ≡ t → length (filter q xs) < length (filter p xs) → length (cond s (x ∷ filter q xs) (filter q xs)) < length (cond t (x ∷ filter p xs) (filter p xs))
    step true true e f more = omega arith
    step true false e f more = absurd (let k = h x e in true≢false (sym k ∙ f))
    step false true e f more = omega arith
    step false false e f more = more

-- some pair goes
pub some_goes : (goes : List Bool) → list_any (λ (g : Bool). g) goes ≡ true → (k : ℕ) × (slice_get goes k ≡ Some true)
some_goes [] e = absurd cc
some_goes (true ∷ gs) e = (0, refl)
some_goes (false ∷ gs) e = let r = some_goes gs e in (suc r.0, r.1)
