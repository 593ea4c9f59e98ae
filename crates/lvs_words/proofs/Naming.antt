-- The top's name.
use Rattle.std.proofs.Common.{◌≡◌, ◌↔◌, ℕ, true, false, List, [], Option, Some, None, refl, Result, Ok, Err, IfOk, IfSome, IsNone, sym, ap, subst, ◌∙◌}
use Rattle.lvs_words.specs.Items.{is_value}

-- a value is never empty, so it is a name
pub named_so : {E : Type 0} (r : Result (Option (List ℕ)) E) (o : Option (List ℕ)) (v bytes : List ℕ) → o ≡ Some v → is_value v ≡ true → bytes ≡ v
    → IfOk r (λ f. IsNone f ↔ (bytes ≡ [])) → IfOk r (λ f. IfSome f (λ n. n ≡ bytes)) → IfOk r (λ f. f ≡ o)
named_so (Ok None) o v bytes e h same none some =
    let empty : [] ≡ v = sym (none.0 refl) ∙ same in
    let no : is_value [] ≡ true = subst (λ (w : List ℕ). is_value w ≡ true) (sym empty) h in
    let f : false ≡ true = no in cc
named_so (Ok (Some n)) o v bytes e h same none some = ap (λ (w : List ℕ). Some w) (some ∙ same) ∙ sym e
named_so (Err f) o v bytes e h same none some = tt
