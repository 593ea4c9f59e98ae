-- A name more.
use Rattle.std.proofs.Common.{◌≡◌, ℕ, true, false, not, List, [], ◌∷◌, ◌++◌, Option, Some, None, Ok, Err, refl, ap, ◌∙◌, append_assoc}
use Rattle.std.specs.List.{list_any}
use Rattle.spice_cards.specs.Parts.{Param}
use Rattle.spice_rows.specs.Names.{name_onto}
use Rattle.spice_rows.specs.Rows.{Call, before_last, last, call_row}
use Rattle.spice_rows.specs.Params.{is_one}
use Rattle.spice_rows.specs.declared.fault.SpiceFault.TheVariants.{ParameterRefused}

abbrev pub after : List (List ℕ) → Option (List (List ℕ)) → Option (List (List ℕ))
after ns None = None
after ns (Some ms) = Some (ns ++ ms)

pub after_one : (ns : List (List ℕ)) (n : List ℕ) (o : Option (List (List ℕ))) → after (ns ++ n ∷ []) o ≡ after ns (name_onto (Some n) o)
after_one ns n None = refl
after_one ns n (Some ms) = ap (λ (xs : List (List ℕ)). Some xs) (append_assoc ns (n ∷ []) ms)

-- ---- the last name

pub front_is : (ns : List (List ℕ)) (n : List ℕ) → before_last (ns ++ n ∷ []) ≡ ns
front_is [] n = refl
front_is (m ∷ []) n = refl
front_is (m ∷ k ∷ ns) n = ap (λ (xs : List (List ℕ)). m ∷ xs) (front_is (k ∷ ns) n)

pub last_is : (ns : List (List ℕ)) (n : List ℕ) → last (ns ++ n ∷ []) ≡ n
last_is [] n = refl
last_is (m ∷ []) n = refl
last_is (m ∷ k ∷ ns) n = last_is (k ∷ ns) n

by_some : (line : ℕ) (ns : List (List ℕ)) (n : List ℕ) (ps : List Param) → list_any (λ p. not (is_one p)) ps ≡ false
    → call_row line (Some (ns ++ n ∷ [])) ps ≡ Ok (Call (record { line = line; nets = before_last (ns ++ n ∷ []); circuit = last (ns ++ n ∷ []) }))
by_some line [] n ps e = rw e refl
by_some line (m ∷ ns) n ps e = rw e refl

pub call_is : (line : ℕ) (o : Option (List (List ℕ))) (all front : List (List ℕ)) (n : List ℕ) (ps : List Param) → o ≡ Some all → all ≡ front ++ n ∷ []
    → list_any (λ p. not (is_one p)) ps ≡ false → call_row line o ps ≡ Ok (Call (record { line = line; nets = front; circuit = n }))
call_is line o all front n ps eo ea e = rw (eo, ea) (by_some line front n ps e ∙ rw (front_is front n, last_is front n) refl)

refused_some : (line : ℕ) (ns : List (List ℕ)) (n : List ℕ) (ps : List Param) → list_any (λ p. not (is_one p)) ps ≡ true → call_row line (Some (ns ++ n ∷ [])) ps ≡ Err (ParameterRefused line)
refused_some line [] n ps e = rw e refl
refused_some line (m ∷ ns) n ps e = rw e refl

pub refused_is : (line : ℕ) (o : Option (List (List ℕ))) (all front : List (List ℕ)) (n : List ℕ) (ps : List Param) → o ≡ Some all → all ≡ front ++ n ∷ []
    → list_any (λ p. not (is_one p)) ps ≡ true → call_row line o ps ≡ Err (ParameterRefused line)
refused_is line o all front n ps eo ea e = rw (eo, ea) (refused_some line front n ps e)
