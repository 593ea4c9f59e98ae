-- A token more.
use Rattle.std.proofs.Common.{◌≡◌, ℕ, zero, suc, ◌+◌, ◌-◌, ◌≤◌, ◌<◌, Bool, List, [], ◌∷◌, ◌++◌, length, take, drop, refl, sym, ap, ◌∙◌, append_assoc, arith, length-drop}
use Rattle.std.proofs.lemmas.List.{take_all}
use Rattle.script_lexis.specs.Tokens.{Token, Placed, piece, placed_behind, placed_from, placed_of, with_place, is_spacing}

pub behind : (at n : ℕ) (spaced : Bool) (bytes : List ℕ) → placed_behind at spaced n bytes ≡ placed_from (at + n) spaced (drop n bytes)
behind at zero spaced bytes = let e : at + 0 ≡ at = omega arith in rw e refl
behind at (suc n) spaced [] = refl
behind at (suc n) spaced (c ∷ cs) =
    let e : (at + 1) + n ≡ at + suc n = omega arith in
    behind (at + 1) n spaced cs ∙ ap (λ (k : ℕ). placed_from k spaced (drop n cs)) e

drop_one : (n c : ℕ) (cs : List ℕ) → 0 < n → drop (n - 1) cs ≡ drop n (c ∷ cs)
drop_one zero c cs h = absurd (omega arith)
drop_one (suc n) c cs h = let e : suc n - 1 ≡ n = omega arith in ap (λ (k : ℕ). drop k cs) e

pub token_more : (at : ℕ) (spaced : Bool) (bytes : List ℕ) → 0 < length bytes → 0 < (piece bytes).width
    → placed_from at spaced bytes ≡ with_place at spaced (piece bytes).tokens
    ++ placed_from (at + (piece bytes).width) (is_spacing (piece bytes).tokens) (drop (piece bytes).width bytes)
token_more at spaced [] h w = absurd (omega arith)
token_more at spaced (c ∷ cs) h w =
    let next = is_spacing (piece (c ∷ cs)).tokens in
    let e : (at + 1) + ((piece (c ∷ cs)).width - 1) ≡ at + (piece (c ∷ cs)).width = omega arith in
    ap (λ (ts : List Placed). with_place at spaced (piece (c ∷ cs)).tokens ++ ts)
    (behind (at + 1) ((piece (c ∷ cs)).width - 1) next cs
    ∙ ap (λ (k : ℕ). placed_from k next (drop ((piece (c ∷ cs)).width - 1) cs)) e
    ∙ ap (λ (bs : List ℕ). placed_from (at + (piece (c ∷ cs)).width) next bs) (drop_one (piece (c ∷ cs)).width c cs w))

-- one turn of the loop: the tokens so far and those of the piece
pub turn : (at : ℕ) (spaced next : Bool) (front out total : List Placed) (bytes : List ℕ) (width : ℕ)
    → 0 < length bytes → 0 < width → width ≤ length bytes
    → out ≡ front ++ with_place at spaced (piece bytes).tokens → width ≡ (piece bytes).width
    → next ≡ is_spacing (piece bytes).tokens → front ++ placed_from at spaced bytes ≡ total
    → out ++ placed_from (at + width) next (take (length bytes - width) (drop width bytes)) ≡ total
turn at spaced next front out total bytes width h w le o e n so_far =
    let whole : take (length bytes - width) (drop width bytes) ≡ drop width bytes = take_all _ _ (omega (arith, length-drop width bytes)) in
    let some : 0 < (piece bytes).width = rw (sym e) w in
    rw (whole, o, e, n) (append_assoc front (with_place at spaced (piece bytes).tokens) (placed_from (at + (piece bytes).width) (is_spacing (piece bytes).tokens) (drop (piece bytes).width bytes)) ∙ ap (λ (ts : List Placed). front ++ ts) (sym (token_more at spaced bytes h some)) ∙ so_far)

-- and the offset goes on with it
pub length_kept : (at width total : ℕ) (bytes : List ℕ) → width ≤ length bytes → at + length bytes ≡ total
    → (at + width) + length (take (length bytes - width) (drop width bytes)) ≡ total
length_kept at width total bytes le e =
    let whole : take (length bytes - width) (drop width bytes) ≡ drop width bytes = take_all _ _ (omega (arith, length-drop width bytes)) in
    rw whole (omega (arith, length-drop width bytes))
