-- Lines, one after the other.
use Rattle.std.proofs.Common.{◌≡◌, ◌∙◌, ◌-◌, ◌+◌, ◌≤◌, ℕ, zero, suc, Bool, true, false, List, [], ◌∷◌, ◌++◌, Some, drop, get_or, take, length, map, nat_eq, slice_get, refl, sym, subst, ap, arith, append_assoc}
use Rattle.std.proofs.lemmas.Bool.Decides.{nat_tests}
use Rattle.std.proofs.lemmas.List.{length-drop, take_all}
use Rattle.std.proofs.lemmas.Option.{none-some, same_Some}
use Rattle.match_laws.specs.Answer.{Answer}
use Rattle.plain_netlist.specs.Netlist.{Circuit}
use Rattle.view_labels.specs.Logs.{pair_log, pair_logs}

-- one more of so many
pub more_taken : (out new : List (List ℕ)) (n : ℕ) (line : List ℕ) (rest whole all : List (List ℕ)) → all ≡ line ∷ rest → new ≡ out ++ line ∷ [] → (n ≡ 0 → ⊥) → out ++ take n all ≡ whole
    → new ++ take (n - 1) rest ≡ whole
more_taken out new zero line rest whole all e f not h = absurd (not refl)
more_taken out new (suc n) line rest whole all e f not h =
    let m : suc n - 1 ≡ n = omega arith in
    rw m (ap (λ (l : List (List ℕ)). l ++ take n rest) f ∙ (append_assoc out (line ∷ []) (take n rest) ∙ (ap (λ (l : List (List ℕ)). out ++ take (suc n) l) (sym e) ∙ h)))

-- the first of a list, and those behind it
pub front : {A B : Type 0} (f : A → B) (xs : List A) (x : A) → 1 ≤ length xs → x ≡ get_or xs 0 x → map f xs ≡ f x ∷ map f (take (length xs - 1) (drop 1 xs))
front f [] x some e = absurd (omega arith)
front {A} f (y ∷ ys) x some e =
    let rest : take (length (y ∷ ys) - 1) ys ≡ ys = take_all (length (y ∷ ys) - 1) ys (omega arith) in
    ap (λ (z : A). f z ∷ map f ys) (sym e) ∙ ap (λ (zs : List A). f x ∷ map f zs) (sym rest)

pub whole_drop : {A : Type 0} (xs : List A) (n : ℕ) → take (length xs - n) (drop n xs) ≡ drop n xs
whole_drop xs n = let e = length-drop n xs in take_all (length xs - n) (drop n xs) (omega (arith, e))

-- one more behind those before
pub push_on : {A : Type 0} (out new : List A) (x : A) (rest more whole : List A) → new ≡ out ++ x ∷ [] → rest ≡ x ∷ more → out ++ rest ≡ whole → new ++ more ≡ whole
push_on {A} out new x rest more whole e f h =
    ap (λ (l : List A). l ++ more) e ∙ (append_assoc out (x ∷ []) more ∙ (ap (λ (l : List A). out ++ l) (sym f) ∙ h))

-- the log of the k-th pair, of which is known whether it is the last
pub log_at : (lefts : List Circuit) (gates : List (List ℕ)) (xs : List Answer) (k : ℕ) (a : Answer) (last : Bool) → slice_get xs k ≡ Some a → (last ≡ true → suc k ≡ length xs) → (last ≡ false → suc k ≡ length xs → ⊥)
    → pair_logs lefts gates (drop k xs) ≡ pair_log lefts gates last a ∷ pair_logs lefts gates (drop (suc k) xs)
log_at lefts gates [] k a last e is not = absurd (none-some a e)
log_at lefts gates (x ∷ []) zero a true e is not = ap (λ (y : Answer). pair_log lefts gates true y ∷ []) (same_Some _ _ e)
log_at lefts gates (x ∷ []) zero a false e is not = absurd (not refl refl)
log_at lefts gates (x ∷ y ∷ ys) zero a true e is not = let f = is refl in absurd (omega (arith, f))
log_at lefts gates (x ∷ y ∷ ys) zero a false e is not = ap (λ (z : Answer). pair_log lefts gates false z ∷ pair_logs lefts gates (y ∷ ys)) (same_Some _ _ e)
log_at lefts gates (x ∷ xs) (suc k) a last e is not = log_at lefts gates xs k a last e (λ t. let f = is t in omega (arith, f)) (λ t f. not t (omega (arith, f)))

-- the same, the next place being one more
pub log_here : (lefts : List Circuit) (gates : List (List ℕ)) (xs : List Answer) (k n : ℕ) (a : Answer) → slice_get xs k ≡ Some a → n ≡ length xs
    → pair_logs lefts gates (drop k xs) ≡ pair_log lefts gates (nat_eq (k + 1) n) a ∷ pair_logs lefts gates (drop (k + 1) xs)
log_here lefts gates xs k n a e f =
    let next : suc k ≡ k + 1 = omega arith in
    subst (λ (m : ℕ). pair_logs lefts gates (drop k xs) ≡ pair_log lefts gates (nat_eq (k + 1) n) a ∷ pair_logs lefts gates (drop m xs)) next
    (log_at lefts gates xs k a (nat_eq (k + 1) n) e (λ t. let g = eq_true (k + 1) n t in omega (arith, f, g)) (λ t g. eq_false (k + 1) n t (omega (arith, f, g))))
  where
    eq_true : (x y : ℕ) → nat_eq x y ≡ true → x ≡ y
    eq_true x y t = grind (arith, nat_tests)

    eq_false : (x y : ℕ) → nat_eq x y ≡ false → x ≡ y → ⊥
    eq_false x y t g = grind (arith, nat_tests)
