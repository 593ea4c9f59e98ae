-- What lines join.
use Rattle.std.proofs.Common.{◌≡◌, ◌↔◌, ◌⊎◌, inl, inr, ℕ, suc, ◌+◌, ◌<◌, ◌||◌, Bool, true, false, cond, if◌then◌else◌, List, [], ◌∷◌, ◌++◌, zero, map, get_or, length, take, refl, sym, ◌∙◌, ap, subst, arith}
use Rattle.std.specs.List.{Contains, flat_map, list_any, position_or_len}
use Rattle.std.specs.List.Sorted.{IsPermutation}
use Rattle.std.proofs.lemmas.List.Elements.{Contains-append_left, Contains-push, Contains-push_cases}
use Rattle.std.proofs.lemmas.List.Sorted.{Contains-permutation, IsPermutation-sym}
use Rattle.std.specs.Prelude.{not}
use Rattle.std.specs.Str.{bytes_eq}
use Rattle.std.proofs.lemmas.Slice.Eq.{bytes_eq-Decides}
use Rattle.text_table.specs.Texts.{with_text}
use Rattle.std.proofs.Math.Seq.{take-length}
use Rattle.std.proofs.lemmas.List.{take_more}
use Rattle.flat_layout.specs.Layout.{Some_of}
use Rattle.flat_layout.specs.Regions.{Line, IsGrounded, IsJoined, Wiring}
use Rattle.rule_layers.specs.Meaning.{conductor_formulas, globals_behind, globals_of, grounds_of, line, wiring_of}
use Rattle.rule_layers.specs.Formulas.{formula_by, formulas, formulas_behind}
use Rattle.rule_text.specs.Rules.{Rules}
use Rattle.rule_text.specs.declared.rules.LayerRule.{LayerRule}
use Rattle.flat_layout.specs.Layers.{Formula}
use Rattle.touching_pieces.specs.Pairs.{AreJoined}
use Rattle.touching_pieces.specs.declared.conductors.Joined.{Joined}
use Rattle.net_walk.specs.Globals.{IsGroundedBy}
use Rattle.net_walk.specs.declared.globals.Grounded.{Grounded}
use Rattle.net_phase.specs.Wires.{ground_line, join_line, joined_by}

-- a list seen through a map
some_map : {A B : Type 0} (P : B → Type 0) (f : A → B) (xs : List A) → Some_of (λ x. P (f x)) xs ↔ Some_of P (map f xs)
some_map P f [] = ((λ h. h), (λ h. h))
some_map P f (x ∷ xs) =
    let rest = some_map P f xs in
    ((λ h. elim h [ inl a ↦ inl a | inr b ↦ inr (rest.0 b) ]), (λ h. elim h [ inl a ↦ inl a | inr b ↦ inr (rest.1 b) ]))

pub same_grounds : (w : Wiring) (lines : List Grounded) → map ground_line lines ≡ w.grounds → (c g : ℕ) → IsGroundedBy lines c g ↔ IsGrounded w c g
same_grounds w lines same c g =
    let both = some_map (λ (l : Line). (l.first ≡ c) × (l.second ≡ g)) ground_line lines in (
      (λ h. subst (λ (ls : List Line). Some_of (λ l. (l.first ≡ c) × (l.second ≡ g)) ls) same (both.0 h)),
      (λ h. both.1 (subst (λ (ls : List Line). Some_of (λ l. (l.first ≡ c) × (l.second ≡ g)) ls) (sym same) h)),
    )

-- as many conductors as names
formulas_long : (before : List Formula) (names : List LayerRule) → length (formulas_behind before names) ≡ length before + length names
formulas_long before [] = omega arith
formulas_long before (n ∷ names) =
    let h = formulas_long (before ++ formula_by before n.form ∷ []) names in
    let g = one_more before (formula_by before n.form) in
    omega (arith, h, g)
  where
    one_more : (xs : List Formula) (x : Formula) → length (xs ++ x ∷ []) ≡ length xs + 1
    one_more [] x = refl
    one_more (y ∷ xs) x = let h = one_more xs x in omega (arith, h)

conductors_long : (r : Rules) (k : ℕ) (xs : List Formula) → length (conductor_formulas r k xs) ≡ length xs
conductors_long r k [] = refl
conductors_long r k (x ∷ xs) = let h = conductors_long r (suc k) xs in omega (arith, h)

pub trees_long : (r : Rules) → length (formulas r.names) ≡ length r.names
trees_long r = let h = formulas_long [] r.names in omega (arith, h)

pub names_long : (r : Rules) → length r.names ≡ length (wiring_of r).conductors
names_long r =
    let h = formulas_long [] r.names in
    let g = conductors_long r 0 (formulas r.names) in
    omega (arith, h, g)

-- joined by the first lines

lines_nothing : (ls : List Line) → ls ++ [] ≡ ls
lines_nothing [] = refl
lines_nothing (l ∷ ls) = ap (λ m. l ∷ m) (lines_nothing ls)

lines_behind : (a b c : List Line) → (a ++ b) ++ c ≡ a ++ (b ++ c)
lines_behind [] b c = refl
lines_behind (l ∷ a) b c = ap (λ m. l ∷ m) (lines_behind a b c)

flat_last : (f : ℕ × ℕ → List Line) (xs : List (ℕ × ℕ)) (x : ℕ × ℕ) → flat_map f (xs ++ x ∷ []) ≡ flat_map f xs ++ f x
flat_last f [] x = lines_nothing (f x)
flat_last f (y ∷ xs) x = ap (λ (l : List Line). f y ++ l) (flat_last f xs x) ∙ sym (lines_behind (f y) (flat_map f xs) (f x))

pub joins_more : (r : Rules) (lines : List (ℕ × ℕ)) (n : ℕ) (o : ℕ × ℕ) (old : List Line) → n < length lines → old ≡ flat_map (joined_by r) (take n lines) → old ++ joined_by r (get_or lines n o) ≡ flat_map (joined_by r) (take (n + 1) lines)
joins_more r lines n o old lt e =
    ap (λ (l : List Line). l ++ joined_by r (get_or lines n o)) e ∙ sym (ap (λ (l : List (ℕ × ℕ)). flat_map (joined_by r) l) (take_more lines n o lt) ∙ flat_last (joined_by r) (take n lines) (get_or lines n o))

pub joins_all : (r : Rules) (n : ℕ) (lines : List (ℕ × ℕ)) → n ≡ length lines → flat_map (joined_by r) (take n lines) ≡ flat_map (joined_by r) lines
joins_all r n lines e = ap (λ l. flat_map (joined_by r) l) (ap (λ i. take i lines) e ∙ take-length lines)

-- globals by first line

position_left : (p : List ℕ → Bool) (xs ys : List (List ℕ)) → list_any p xs ≡ true → position_or_len p (xs ++ ys) ≡ position_or_len p xs
position_left p [] ys h = absurd (let f : false ≡ true = h in let z : ⊥ = cc in z)
position_left p (x ∷ xs) ys h = by (p x) h (position_left p xs ys)
  where
    by : (b : Bool) → (b || list_any p xs) ≡ true → (list_any p xs ≡ true → position_or_len p (xs ++ ys) ≡ position_or_len p xs) → cond (not b) (1 + position_or_len p (xs ++ ys)) 0 ≡ cond (not b) (1 + position_or_len p xs) 0
    by true e rest = refl
    by false e rest = ap (λ n. 1 + n) (rest e)

position_none : (p : List ℕ → Bool) (xs : List (List ℕ)) (y : List ℕ) → list_any p xs ≡ false → p y ≡ true → position_or_len p (xs ++ y ∷ []) ≡ position_or_len p xs
position_none p [] y h is = ap (λ b. cond (not b) 1 0) is
position_none p (x ∷ xs) y h is = by (p x) h (λ e. position_none p xs y e is)
  where
    by : (b : Bool) → (b || list_any p xs) ≡ false → (list_any p xs ≡ false → position_or_len p (xs ++ y ∷ []) ≡ position_or_len p xs) → cond (not b) (1 + position_or_len p (xs ++ y ∷ [])) 0 ≡ cond (not b) (1 + position_or_len p xs) 0
    by true e rest = absurd (let f : true ≡ false = e in let z : ⊥ = cc in z)
    by false e rest = ap (λ n. 1 + n) (rest e)

any_left : (p : List ℕ → Bool) (xs ys : List (List ℕ)) → list_any p xs ≡ true → list_any p (xs ++ ys) ≡ true
any_left p [] ys h = absurd (let f : false ≡ true = h in let z : ⊥ = cc in z)
any_left p (x ∷ xs) ys h = by (p x) h (any_left p xs ys)
  where
    by : (b : Bool) → (b || list_any p xs) ≡ true → (list_any p xs ≡ true → list_any p (xs ++ ys) ≡ true) → (b || list_any p (xs ++ ys)) ≡ true
    by true e rest = refl
    by false e rest = rest e

any_last : (p : List ℕ → Bool) (xs : List (List ℕ)) (y : List ℕ) → p y ≡ true → list_any p (xs ++ y ∷ []) ≡ true
any_last p [] y is = ap (λ b. b || false) is
any_last p (x ∷ xs) y is = ap (λ b. p x || b) (any_last p xs y is) ∙ or_true (p x)
  where
    or_true : (b : Bool) → (b || true) ≡ true
    or_true true = refl
    or_true false = refl

own_text : (b : List ℕ) → bytes_eq b b ≡ true
own_text b = (bytes_eq-Decides b b).1 refl

-- each line's name is among these
abbrev AreSeen : List (List ℕ) → List (ℕ × List ℕ) → Type 0
AreSeen names [] = Unit {0}
AreSeen names (g ∷ gs) = (list_any (bytes_eq g.1) names ≡ true) × AreSeen names gs

abbrev lines_by : List (List ℕ) → List (ℕ × List ℕ) → List Line
lines_by names gs = map (λ g. line g.0 (position_or_len (bytes_eq g.1) names)) gs

same_lines : (names more : List (List ℕ)) (gs : List (ℕ × List ℕ)) → AreSeen names gs → lines_by (names ++ more) gs ≡ lines_by names gs
same_lines names more [] h = refl
same_lines names more (g ∷ gs) h =
    ap (λ n. line g.0 n ∷ lines_by (names ++ more) gs) (position_left (bytes_eq g.1) names more h.0) ∙ ap (λ (l : List Line). line g.0 (position_or_len (bytes_eq g.1) names) ∷ l) (same_lines names more gs h.1)

still_seen : (names more : List (List ℕ)) (gs : List (ℕ × List ℕ)) → AreSeen names gs → AreSeen (names ++ more) gs
still_seen names more [] h = tt
still_seen names more (g ∷ gs) h = (any_left (bytes_eq g.1) names more h.0, still_seen names more gs h.1)

seen_last : (names : List (List ℕ)) (gs : List (ℕ × List ℕ)) (g : ℕ × List ℕ) → AreSeen names gs → list_any (bytes_eq g.1) names ≡ true → AreSeen names (gs ++ g ∷ [])
seen_last names [] g h is = (is, tt)
seen_last names (x ∷ gs) g h is = (h.0, seen_last names gs g h.1 is)

lines_last : (names : List (List ℕ)) (gs : List (ℕ × List ℕ)) (g : ℕ × List ℕ) → lines_by names (gs ++ g ∷ []) ≡ lines_by names gs ++ line g.0 (position_or_len (bytes_eq g.1) names) ∷ []
lines_last names [] g = refl
lines_last names (x ∷ gs) g = ap (λ (l : List Line). line x.0 (position_or_len (bytes_eq x.1) names) ∷ l) (lines_last names gs g)

globals_last : (seen : List (List ℕ)) (gs : List (ℕ × List ℕ)) (g : ℕ × List ℕ) → globals_behind seen (gs ++ g ∷ []) ≡ with_text (globals_behind seen gs) g.1
globals_last seen [] g = refl
globals_last seen (x ∷ gs) g = globals_last (if list_any (bytes_eq x.1) seen then seen else seen ++ x.1 ∷ []) gs g

-- after the first lines
pub record AreGrounds (gs : List (ℕ × List ℕ)) (names : List (List ℕ)) (lines : List Line) : Type 0 where
  pub made : names ≡ globals_behind [] gs
  pub are : lines ≡ lines_by names gs
  pub seen : AreSeen names gs

pub no_lines : AreGrounds [] [] []
no_lines = record { made = refl; are = refl; seen = tt }

step : (gs : List (ℕ × List ℕ)) (g : ℕ × List ℕ) (names : List (List ℕ)) (lines : List Line) → AreGrounds gs names lines → AreGrounds (gs ++ g ∷ []) (with_text names g.1) (lines ++ line g.0 (position_or_len (bytes_eq g.1) names) ∷ [])
step gs g names lines h = by (list_any (bytes_eq g.1) names) refl
  where
    made : with_text names g.1 ≡ globals_behind [] (gs ++ g ∷ [])
    made = ap (λ l. with_text l g.1) h.made ∙ sym (globals_last [] gs g)

    by : (b : Bool) → list_any (bytes_eq g.1) names ≡ b → AreGrounds (gs ++ g ∷ []) (with_text names g.1) (lines ++ line g.0 (position_or_len (bytes_eq g.1) names) ∷ [])
    by true e =
        let same : with_text names g.1 ≡ names = ap (λ b. if b then names else names ++ g.1 ∷ []) e in record {
          made = made;
          are = ap (λ (l : List Line). l ++ line g.0 (position_or_len (bytes_eq g.1) names) ∷ []) h.are ∙ sym (lines_last names gs g) ∙ ap (λ l. lines_by l (gs ++ g ∷ [])) (sym same);
          seen = subst (λ l. AreSeen l (gs ++ g ∷ [])) (sym same) (seen_last names gs g h.seen e);
        }
    by false e =
        let same : with_text names g.1 ≡ names ++ g.1 ∷ [] = ap (λ b. if b then names else names ++ g.1 ∷ []) e in
        let more = names ++ g.1 ∷ [] in
        let at : position_or_len (bytes_eq g.1) more ≡ position_or_len (bytes_eq g.1) names = position_none (bytes_eq g.1) names g.1 e (own_text g.1) in
        record {
          made = made;
          are = ap (λ (l : List Line). l ++ line g.0 (position_or_len (bytes_eq g.1) names) ∷ []) (h.are ∙ sym (same_lines names (g.1 ∷ []) gs h.seen))
              ∙ ap (λ n. lines_by more gs ++ line g.0 n ∷ []) (sym at) ∙ sym (lines_last more gs g) ∙ ap (λ l. lines_by l (gs ++ g ∷ [])) (sym same);
          seen = subst (λ l. AreSeen l (gs ++ g ∷ [])) (sym same) (seen_last more gs g (still_seen names (g.1 ∷ []) gs h.seen) (any_last (bytes_eq g.1) names g.1 (own_text g.1)));
        }

pub grounds_more : (gs : List (ℕ × List ℕ)) (n at : ℕ) (o : ℕ × List ℕ) (names new : List (List ℕ)) (lines : List Line) → n < length gs → AreGrounds (take n gs) names lines → at ≡ position_or_len (bytes_eq (get_or gs n o).1) names → new ≡ with_text names (get_or gs n o).1
    → AreGrounds (take (n + 1) gs) new (lines ++ line (get_or gs n o).0 at ∷ [])
grounds_more gs n at o names new lines lt h e f =
    let g = get_or gs n o in
    let s = step (take n gs) g names lines h in
    subst (λ (l : List (ℕ × List ℕ)). AreGrounds l new (lines ++ line g.0 at ∷ [])) (sym (take_more gs n o lt))
    (subst (λ l. AreGrounds (take n gs ++ g ∷ []) l (lines ++ line g.0 at ∷ [])) (sym f) (subst (λ i. AreGrounds (take n gs ++ g ∷ []) (with_text names g.1) (lines ++ line g.0 i ∷ [])) (sym e) s))

pub grounds_all : (r : Rules) (n : ℕ) (names : List (List ℕ)) (lines : List Line) → n ≡ length r.globals → AreGrounds (take n r.globals) names lines → (lines ≡ grounds_of r) × (length names ≡ length (globals_of r))
grounds_all r n names lines e h =
    let whole : AreGrounds r.globals names lines = subst (λ l. AreGrounds l names lines) (ap (λ i. take i r.globals) e ∙ take-length r.globals) h in
    (whole.are ∙ ap (λ l. lines_by l r.globals) whole.made, ap (λ (l : List (List ℕ)). length l) whole.made)

-- lines, each once

some_append : (P : Line → Type 0) (xs ys : List Line) → Some_of P (xs ++ ys) → Some_of P xs ⊎ Some_of P ys
some_append P [] ys h = inr h
some_append P (x ∷ xs) ys (inl h) = inl (inl h)
some_append P (x ∷ xs) ys (inr h) = elim (some_append P xs ys h) [ inl a ↦ inl (inr a) | inr b ↦ inr b ]

some_left : (P : Line → Type 0) (xs ys : List Line) → Some_of P xs → Some_of P (xs ++ ys)
some_left P [] ys h = absurd h
some_left P (x ∷ xs) ys (inl h) = inl h
some_left P (x ∷ xs) ys (inr h) = inr (some_left P xs ys h)

some_right : (P : Line → Type 0) (xs ys : List Line) → Some_of P ys → Some_of P (xs ++ ys)
some_right P [] ys h = h
some_right P (x ∷ xs) ys h = inr (some_right P xs ys h)

some_by : (P : Line → Type 0) (f : ℕ × ℕ → List Line) (xs : List (ℕ × ℕ)) → Some_of P (flat_map f xs) → (x : ℕ × ℕ) × Contains xs x × Some_of P (f x)
some_by P f [] h = absurd h
some_by P f (y ∷ xs) h = elim (some_append P (f y) (flat_map f xs) h) [
  | inl a ↦ (y, (0, omega arith, refl), a)
  | inr b ↦ let r = some_by P f xs b in let lt = r.1.1 in (r.0, (suc r.1.0, omega (arith, lt), r.1.2), r.2)
]

some_of_one : (P : Line → Type 0) (f : ℕ × ℕ → List Line) (xs : List (ℕ × ℕ)) (k : ℕ) (x : ℕ × ℕ) → k < length xs → get_or xs k x ≡ x → Some_of P (f x) → Some_of P (flat_map f xs)
some_of_one P f [] k x lt e h = absurd (let z : ⊥ = omega arith in z)
some_of_one P f (y ∷ xs) zero x lt e h = some_left P (f y) (flat_map f xs) (subst (λ z. Some_of P (f z)) (sym e) h)
some_of_one P f (y ∷ xs) (suc k) x lt e h = some_right P (f y) (flat_map f xs) (some_of_one P f xs k x (omega arith) e h)

some_same : (P : Line → Type 0) (f : ℕ × ℕ → List Line) (xs ys : List (ℕ × ℕ)) → ((x : ℕ × ℕ) → Contains xs x → Contains ys x) → Some_of P (flat_map f xs) → Some_of P (flat_map f ys)
some_same P f xs ys same h = let r = some_by P f xs h in let there = same r.0 r.1 in some_of_one P f ys there.0 r.0 there.1 there.2 r.2

pub once_joins : (r : Rules) (joins : List Joined) (once : List (ℕ × ℕ)) → map join_line joins ≡ flat_map (joined_by r) once → ((x : ℕ × ℕ) → Contains once x ↔ Contains r.connects x) → (c e : ℕ) → AreJoined joins c e ↔ IsJoined (wiring_of r) c e
once_joins r joins once are same c e =
    let both = some_map (λ (l : Line). ((l.first ≡ c) × (l.second ≡ e)) ⊎ ((l.first ≡ e) × (l.second ≡ c))) join_line joins in (
      (λ h. elim h [
        | inl a ↦ inl a
        | inr b ↦ inr (some_same (λ (l : Line). ((l.first ≡ c) × (l.second ≡ e)) ⊎ ((l.first ≡ e) × (l.second ≡ c))) (joined_by r) once r.connects (λ x. (same x).0)
            (subst (λ (ls : List Line). Some_of (λ l. ((l.first ≡ c) × (l.second ≡ e)) ⊎ ((l.first ≡ e) × (l.second ≡ c))) ls) are (both.0 b)))
      ]),
      (λ h. elim h [
        | inl a ↦ inl a
        | inr b ↦ inr (both.1 (subst (λ (ls : List Line). Some_of (λ l. ((l.first ≡ c) × (l.second ≡ e)) ⊎ ((l.first ≡ e) × (l.second ≡ c))) ls) (sym are)
            (some_same (λ (l : Line). ((l.first ≡ c) × (l.second ≡ e)) ⊎ ((l.first ≡ e) × (l.second ≡ c))) (joined_by r) r.connects once (λ x. (same x).1) b)))
      ]),
    )

pub same_pair : (x y : ℕ × ℕ) → y.0 ≡ x.0 → y.1 ≡ x.1 → y ≡ x
same_pair x y a b = ap (λ (n : ℕ). let p : ℕ × ℕ = (n, y.1) in p) a ∙ ap (λ (n : ℕ). let p : ℕ × ℕ = (x.0, n) in p) b

pub push_one : (old : List (ℕ × ℕ)) (line x : ℕ × ℕ) → Contains (old ++ line ∷ []) x ↔ (Contains old x ⊎ (line ≡ x))
push_one old line x = (
  (λ h. Contains-push_cases old line x h),
  (λ h. elim h [ inl a ↦ Contains-append_left old (line ∷ []) x a | inr e ↦ subst (Contains (old ++ line ∷ [])) e (Contains-push old line) ]),
)

-- the first lines, each once
pub once_more : (xs old new : List (ℕ × ℕ)) (n : ℕ) (o : ℕ × ℕ) → n < length xs → ((x : ℕ × ℕ) → Contains old x ↔ Contains (take n xs) x) → ((x : ℕ × ℕ) → Contains new x ↔ (Contains old x ⊎ (get_or xs n o ≡ x))) → (x : ℕ × ℕ) → Contains new x ↔ Contains (take (n + 1) xs) x
once_more xs old new n o lt h g x =
    let p = push_one (take n xs) (get_or xs n o) x in
    let e = take_more xs n o lt in (
      (λ c. subst (λ l. Contains l x) (sym e) (p.1 (elim ((g x).0 c) [ inl a ↦ inl ((h x).0 a) | inr b ↦ inr b ]))),
      (λ c. (g x).1 (elim (p.0 (subst (λ l. Contains l x) e c)) [ inl a ↦ inl ((h x).1 a) | inr b ↦ inr b ])),
    )

pub once_all : (xs new : List (ℕ × ℕ)) (n : ℕ) → n ≡ length xs → ((x : ℕ × ℕ) → Contains new x ↔ Contains (take n xs) x) → (x : ℕ × ℕ) → Contains new x ↔ Contains xs x
once_all xs new n e h x = subst (λ l. Contains new x ↔ Contains l x) (ap (λ k. take k xs) e ∙ take-length xs) (h x)

pub once_sorted : (xs ys new : List (ℕ × ℕ)) → IsPermutation ys xs → ((x : ℕ × ℕ) → Contains new x ↔ Contains xs x) → (x : ℕ × ℕ) → Contains new x ↔ Contains ys x
once_sorted xs ys new moved h x = ((λ c. Contains-permutation xs ys x (IsPermutation-sym ys xs moved) ((h x).0 c)), (λ c. (h x).1 (Contains-permutation ys xs x moved c)))
