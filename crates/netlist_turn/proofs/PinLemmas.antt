-- Lengths and fronts of lists of words, parameters and pins.
use Rattle.std.proofs.Common.{◌≡◌, ◌-◌, ℕ, zero, suc, List, [], ◌∷◌, length, take, refl, sym, ap, ◌∙◌, Bor}
use Rattle.std.specs.Global.{Vec}
use Rattle.spice_cards.specs.Seen.{params_seen, words_seen}
use Rattle.spice_cards.specs.declared.parts.Param.{Param}
use Rattle.netlist_turn.specs.PinsSeen.{pins_seen}
use Rattle.netlist_turn.proofs.DeviceLemmas.{words_long}

words_front : (n : ℕ) (ws : List (Bor (List ℕ))) → words_seen (take n ws) ≡ take n (words_seen ws)
words_front zero ws = refl
words_front (suc n) [] = refl
words_front (suc n) (w ∷ ws) = ap (λ (xs : List (List ℕ)). w.now ∷ xs) (words_front n ws)

pub words_before : (ws : List (Bor (List ℕ))) → words_seen (take (length ws - 1) ws) ≡ take (length (words_seen ws) - 1) (words_seen ws)
words_before ws = words_front (length ws - 1) ws ∙ ap (λ (n : ℕ). take (n - 1) (words_seen ws)) (let e : length ws ≡ length (words_seen ws) = sym (words_long ws) in e)

pub pins_long : (ps : List (Vec ℕ)) → length (pins_seen ps) ≡ length ps
pins_long [] = refl
pins_long (p ∷ ps) = ap suc (pins_long ps)

pub params_long : (ps : List Param) → length (params_seen ps) ≡ length ps
params_long [] = refl
params_long (p ∷ ps) = ap suc (params_long ps)
