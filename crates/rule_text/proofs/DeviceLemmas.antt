-- An entry more.
use Rattle.std.proofs.Common.{◌≡◌, ℕ, zero, suc, List, [], ◌∷◌, drop, refl, ap, Bool, false}
use Rattle.std.specs.Prelude.{◌&&◌, ◌||◌}
use Rattle.rule_lines.specs.Tokens.{Token}
use Rattle.rule_text.specs.Devices.{entries_behind, are_entries, is_entry_at, is_last_at, is_comma_at}

pub behind_entries : (keys : List (List ℕ)) (n : ℕ) (ts : List Token) → entries_behind keys n ts ≡ are_entries keys (drop n ts)
behind_entries keys zero ts = refl
behind_entries keys (suc n) [] = refl
behind_entries keys (suc n) (t ∷ ts) = behind_entries keys n ts

none_at : (keys : List (List ℕ)) → false ≡ (is_entry_at keys [] && (is_last_at [] || (is_comma_at [] && false)))
unfolding is_entry_at
none_at keys = refl

pub entries_more : (keys : List (List ℕ)) (ts : List Token) → are_entries keys ts ≡ (is_entry_at keys ts && (is_last_at ts || (is_comma_at ts && are_entries keys (drop 4 ts))))
entries_more keys [] = none_at keys
entries_more keys (t ∷ ts) = ap (λ (b : Bool). is_entry_at keys (t ∷ ts) && (is_last_at (t ∷ ts) || (is_comma_at (t ∷ ts) && b))) (behind_entries keys 3 ts)
