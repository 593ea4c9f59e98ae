-- Selections by depth: each reads layers before its own alone.
use Rattle.std.proofs.Common.{◌≡◌, ◌⊎◌, inl, inr, ℕ, zero, suc, ◌+◌, ◌<◌, ◌≤◌, Bool, true, false, cond, List, [], ◌∷◌, ◌++◌, map, Some, refl, sym, ap, ◌∙◌, subst, arith, get_or, slice_get}
use Rattle.std.specs.Prelude.{◌==◌}
use Rattle.std.proofs.Math.Nat.{le-max_left, le-max_right, le_trans}
use Rattle.std.specs.List.{filter}
use Rattle.std.proofs.Math.Decide.{ℕ_discrete}
use Rattle.std.proofs.lemmas.List.{map-append}
use Rattle.std.proofs.lemmas.Option.{same_Some}
use Rattle.plain_netlist.proofs.Listing.{rising_at}
use Rattle.flat_layout.specs.Layout.{Some_of}
use Rattle.geo_base.specs.declared.layer.LayerKey.{LayerKey}
use Rattle.rule_text.specs.declared.rules.SelectRule.{SelectRule}
use Rattle.rule_text.specs.Rules.{Rules, select_key}
use Rattle.rule_text.specs.Sound.{IsFormed, IsNamedBefore}
use Rattle.rule_layers.specs.Formulas.{greatest}
use Rattle.rule_stages.specs.Depths.{depths, deepest}
use Rattle.rule_stages.specs.Stages.{stage_of, at_depth, from_depth, AreSelectsOf, InTurnLaw, EachStageLaw, FreeLaw}
use Rattle.select_laws.specs.Staged.{Stage, IsKeyOf, Reads, IsBefore, AreInTurn}
use Rattle.rule_stages.proofs.Knowing.{IsAmong, reads_deeper, selected_depth}

-- P holds of each
abbrev pub Each : (SelectRule → Type 0) → List SelectRule → Type 0
Each P [] = Unit {0}
Each P (x ∷ xs) = P x × Each P xs

each_as : (P Q : SelectRule → Type 0) (xs : List SelectRule) → ((x : SelectRule) → P x → Q x) → Each P xs → Each Q xs
each_as P Q [] f h = tt
each_as P Q (x ∷ xs) f h = (f x h.0, each_as P Q xs f h.1)

each_both : (P : SelectRule → Type 0) (xs ys : List SelectRule) → Each P xs → Each P ys → Each P (xs ++ ys)
each_both P [] ys h g = g
each_both P (x ∷ xs) ys h g = (h.0, each_both P xs ys h.1 g)

each_at : (P : SelectRule → Type 0) (xs : List SelectRule) → ((k : ℕ) (x : SelectRule) → slice_get xs k ≡ Some x → P x) → Each P xs
each_at P [] h = tt
each_at P (x ∷ xs) h = (h 0 x refl, each_at P xs (λ k y e. h (suc k) y e))

pub at_each : (P : SelectRule → Type 0) (xs : List SelectRule) (k : ℕ) (x : SelectRule) → Each P xs → slice_get xs k ≡ Some x → P x
at_each P [] k x h e = absurd (let w : ⊥ = cc in w)
at_each P (y ∷ xs) zero x h e = subst P (same_Some y x e) h.0
at_each P (y ∷ xs) (suc k) x h e = at_each P xs k x h.1 e

-- what passes a test

kept_by : (b : Bool) (P : SelectRule → Type 0) (x : SelectRule) (ys : List SelectRule) → (b ≡ true → P x) → Each P ys → Each P (cond b (x ∷ ys) ys)
kept_by true P x ys first rest = (first refl, rest)
kept_by false P x ys first rest = rest

each_kept : (p : SelectRule → Bool) (P : SelectRule → Type 0) (xs : List SelectRule) → Each (λ x. p x ≡ true → P x) xs → Each P (filter p xs)
each_kept p P [] h = tt
each_kept p P (x ∷ xs) h = kept_by (p x) P x (filter p xs) h.0 (each_kept p P xs h.1)

-- in turn

record IsAt (r : Rules) (least most : ℕ) (s : SelectRule) : Type 0 where
  pub among : IsAmong r.selects s
  pub low : least ≤ get_or (depths r) s.name 0
  pub high : get_or (depths r) s.name 0 ≤ most

record IsAfter (r : Rules) (s t : SelectRule) : Type 0 where
  pub depth : get_or (depths r) s.name 0 ≤ get_or (depths r) t.name 0
  pub apart : s.name ≡ t.name → ⊥

abbrev AreTurned : Rules → List SelectRule → Type 0
AreTurned r [] = Unit {0}
AreTurned r (s ∷ ss) = IsAmong r.selects s × Each (IsAfter r s) ss × AreTurned r ss

turned_both : (r : Rules) (xs ys : List SelectRule) → AreTurned r xs → AreTurned r ys → Each (λ x. Each (IsAfter r x) ys) xs → AreTurned r (xs ++ ys)
turned_both r [] ys h g after = g
turned_both r (x ∷ xs) ys h g after = (h.0, each_both (IsAfter r x) xs ys h.1 after.0, turned_both r xs ys h.2 g after.1)

key_at : (r : Rules) (P : SelectRule → Type 0) (xs : List SelectRule) (key : LayerKey) → Each P xs → IsKeyOf (map (stage_of r) xs) key → (t : SelectRule) × P t × (select_key t.name ≡ key)
key_at r P [] key h e = absurd e
key_at r P (x ∷ xs) key h (inl e) = (x, h.0, e)
key_at r P (x ∷ xs) key h (inr e) = key_at r P xs key h.1 e

is_before : (r : Rules) → IsFormed r → (s : SelectRule) (ss : List SelectRule) → IsAmong r.selects s → Each (IsAfter r s) ss → IsBefore (stage_of r s) (map (stage_of r) ss)
is_before r h s ss a after = record {
  own = λ reads. let lt = reads_deeper r h s s a reads in omega (arith, lt);
  unread = λ key is reads.
      let o = key_at r (IsAfter r s) ss key after is in
      let lt = reads_deeper r h s o.0 a (subst (Reads (stage_of r s)) (sym o.2) reads) in
      let le = o.1.depth in omega (arith, lt, le);
  apart = λ is.
      let o = key_at r (IsAfter r s) ss (select_key s.name) after is in
      o.1.apart (ap (λ (key : LayerKey). key.datatype) (sym o.2));
}

turned_in : (r : Rules) → IsFormed r → (xs : List SelectRule) → AreTurned r xs → AreInTurn (map (stage_of r) xs)
turned_in r h [] t = tt
turned_in r h (x ∷ xs) t = (is_before r h x xs t.0 t.1, turned_in r h xs t.2)

-- those of one depth

same_number : (m n : ℕ) → (m == n) ≡ true → m ≡ n
same_number m n e = grind (arith, e)

number_same : (m n : ℕ) → m ≡ n → (m == n) ≡ true
number_same m n e = grind (arith, e)

abbrev IsOf : Rules → ℕ → SelectRule → Bool
IsOf r depth s = get_or (depths r) s.name 0 == depth

of_kept : (b : Bool) (r : Rules) (x : SelectRule) (ys : List SelectRule) → (b ≡ true → IsAmong r.selects x × Each (IsAfter r x) ys) → AreTurned r ys → AreTurned r (cond b (x ∷ ys) ys)
of_kept true r x ys first rest = ((first refl).0, (first refl).1, rest)
of_kept false r x ys first rest = rest

turned_at : (r : Rules) (depth : ℕ) (xs : List SelectRule) → Each (IsAmong r.selects) xs → ((i j : ℕ) (s t : SelectRule) → i < j → slice_get xs i ≡ Some s → slice_get xs j ≡ Some t → s.name < t.name)
    → AreTurned r (filter (IsOf r depth) xs)
turned_at r depth [] all up = tt
turned_at r depth (x ∷ xs) all up = of_kept (IsOf r depth x) r x (filter (IsOf r depth) xs)
    (λ is. (
      all.0,
      each_kept (IsOf r depth) (IsAfter r x) xs (each_at (λ t. IsOf r depth t ≡ true → IsAfter r x t) xs (λ k t e too. record {
        depth = let a = same_number (get_or (depths r) x.name 0) depth is in let b = same_number (get_or (depths r) t.name 0) depth too in omega (arith, a, b);
        apart = λ same. let lt = up 0 (suc k) x t (omega arith) refl e in omega (arith, same, lt);
      })),
    ))
    (turned_at r depth xs all.1 (λ i j s t lt e f. up (suc i) (suc j) s t (omega (arith, lt)) e f))

at_one : (r : Rules) (depth : ℕ) → Each (IsAt r depth depth) (at_depth r depth)
at_one r depth = each_kept (IsOf r depth) (IsAt r depth depth) r.selects (each_at (λ s. IsOf r depth s ≡ true → IsAt r depth depth s) r.selects (λ k s e is.
    let same = same_number (get_or (depths r) s.name 0) depth is in
    record { among = record { at = k; there = e }; low = omega (arith, same); high = omega (arith, same) }))

turned_one : (r : Rules) (depth : ℕ) → IsFormed r → AreTurned r (at_depth r depth)
turned_one r depth h = turned_at r depth r.selects (each_at (IsAmong r.selects) r.selects (λ k s e. record { at = k; there = e })) (λ i j s t lt e f. rising_at IsNamedBefore r.selects i j s t h.ascending lt e f)

at_from : (r : Rules) (depth count : ℕ) → Each (λ s. depth ≤ get_or (depths r) s.name 0) (from_depth r depth count)
at_from r depth zero = tt
at_from r depth (suc count) = each_both (λ s. depth ≤ get_or (depths r) s.name 0) (at_depth r depth) (from_depth r (suc depth) count)
    (each_as (IsAt r depth depth) (λ s. depth ≤ get_or (depths r) s.name 0) (at_depth r depth) (λ s h. h.low) (at_one r depth))
    (each_as (λ s. suc depth ≤ get_or (depths r) s.name 0) (λ s. depth ≤ get_or (depths r) s.name 0) (from_depth r (suc depth) count) (λ s h. omega (arith, h)) (at_from r (suc depth) count))

turned_from : (r : Rules) (depth count : ℕ) → IsFormed r → AreTurned r (from_depth r depth count)
turned_from r depth zero h = tt
turned_from r depth (suc count) h = turned_both r (at_depth r depth) (from_depth r (suc depth) count) (turned_one r depth h) (turned_from r (suc depth) count h)
    (each_as (IsAt r depth depth) (λ x. Each (IsAfter r x) (from_depth r (suc depth) count)) (at_depth r depth) (λ x a.
    each_as (λ s. suc depth ≤ get_or (depths r) s.name 0) (IsAfter r x) (from_depth r (suc depth) count) (λ t b. record {
      depth = let up = a.high in omega (arith, up, b);
      apart = λ same. let up = a.high in let e = ap (λ k. get_or (depths r) k 0) same in omega (arith, up, b, e);
    }) (at_from r (suc depth) count)) (at_one r depth))

pub in_turn : InTurnLaw
in_turn r sound = turned_in r sound.formed (from_depth r 1 (deepest r)) (turned_from r 1 (deepest r) sound.formed)

-- each is there

pub greatest_in : (ns : List ℕ) (k : ℕ) → get_or ns k 0 ≤ greatest ns
greatest_in [] k = omega arith
greatest_in (n ∷ ns) zero = le-max_left n (greatest ns)
greatest_in (n ∷ ns) (suc k) = le_trans (greatest_in ns k) (le-max_right n (greatest ns))

some_front : (P : Stage → Type 0) (xs ys : List Stage) → Some_of P xs → Some_of P (xs ++ ys)
some_front P [] ys h = absurd h
some_front P (x ∷ xs) ys (inl h) = inl h
some_front P (x ∷ xs) ys (inr h) = inr (some_front P xs ys h)

some_back : (P : Stage → Type 0) (xs ys : List Stage) → Some_of P ys → Some_of P (xs ++ ys)
some_back P [] ys h = h
some_back P (x ∷ xs) ys h = inr (some_back P xs ys h)

abbrev IsStaged : Rules → SelectRule → List SelectRule → Type 0
IsStaged r s xs = Some_of (λ t. t ≡ stage_of r s) (map (stage_of r) xs)

staged_kept : (b : Bool) (r : Rules) (x s : SelectRule) (ys : List SelectRule) → ((b ≡ true) × (x ≡ s)) ⊎ IsStaged r s ys → IsStaged r s (cond b (x ∷ ys) ys)
staged_kept true r x s ys (inl h) = inl (ap (stage_of r) h.1)
staged_kept true r x s ys (inr h) = inr h
staged_kept false r x s ys (inl h) = absurd (let e = h.0 in let w : ⊥ = cc in w)
staged_kept false r x s ys (inr h) = h

staged_at : (r : Rules) (depth : ℕ) (xs : List SelectRule) (k : ℕ) (s : SelectRule) → slice_get xs k ≡ Some s → get_or (depths r) s.name 0 ≡ depth → IsStaged r s (filter (IsOf r depth) xs)
staged_at r depth [] k s e is = absurd (let w : ⊥ = cc in w)
staged_at r depth (x ∷ xs) zero s e is =
    let same : x ≡ s = same_Some x s e in
    staged_kept (IsOf r depth x) r x s (filter (IsOf r depth) xs) (inl (number_same (get_or (depths r) x.name 0) depth (ap (λ (y : SelectRule). get_or (depths r) y.name 0) same ∙ is), same))
staged_at r depth (x ∷ xs) (suc k) s e is = staged_kept (IsOf r depth x) r x s (filter (IsOf r depth) xs) (inr (staged_at r depth xs k s e is))

staged_from : (r : Rules) (depth count k : ℕ) (s : SelectRule) → slice_get r.selects k ≡ Some s → depth ≤ get_or (depths r) s.name 0 → get_or (depths r) s.name 0 < depth + count → IsStaged r s (from_depth r depth count)
staged_from r depth zero k s e low high = absurd (let w : ⊥ = omega (arith, low, high) in w)
staged_from r depth (suc count) k s e low high =
    let both = map-append (stage_of r) (at_depth r depth) (from_depth r (suc depth) count) in
    subst (λ (l : List Stage). Some_of (λ t. t ≡ stage_of r s) l) (sym both) (elim (ℕ_discrete (get_or (depths r) s.name 0) depth) [
      | yes is ↦ some_front (λ t. t ≡ stage_of r s) (map (stage_of r) (at_depth r depth)) (map (stage_of r) (from_depth r (suc depth) count)) (staged_at r depth r.selects k s e is)
      | no not ↦ some_back (λ t. t ≡ stage_of r s) (map (stage_of r) (at_depth r depth)) (map (stage_of r) (from_depth r (suc depth) count)) (staged_from r (suc depth) count k s e (omega (arith, low, not)) (omega (arith, high)))
    ])

pub each_stage : EachStageLaw
each_stage r k s sound e =
    let least = selected_depth r sound.formed s (record { at = k; there = e }) in
    let most : get_or (depths r) s.name 0 ≤ deepest r = greatest_in (depths r) s.name in
    staged_from r 1 (deepest r) k s e (omega (arith, least)) (omega (arith, most))

-- none of a depth reads another

pub at_depth_known : (r : Rules) (depth k : ℕ) (s : SelectRule) → slice_get (at_depth r depth) k ≡ Some s → IsAmong r.selects s × (get_or (depths r) s.name 0 ≡ depth)
at_depth_known r depth k s e = let a = at_each (IsAt r depth depth) (at_depth r depth) k s (at_one r depth) e in (a.among, (let low = a.low in let high = a.high in omega (arith, low, high)))

pub free : FreeLaw
free r depth j k s t sound e f reads =
    let a = at_depth_known r depth j s e in
    let b = at_depth_known r depth k t f in
    let lt = reads_deeper r sound.formed s t a.0 reads in
    let one = a.1 in let other = b.1 in omega (arith, lt, one, other)

pub selects_of : (r : Rules) (depth : ℕ) → AreSelectsOf r (at_depth r depth)
selects_of r depth k s e = let a = (at_depth_known r depth k s e).0 in (a.at, a.there)
