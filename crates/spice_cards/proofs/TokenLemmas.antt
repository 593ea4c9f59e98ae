-- A token more.
use Rattle.std.proofs.Common.{◌≡◌, ℕ, zero, suc, ◌-◌, ◌≤◌, ◌<◌, List, [], ◌∷◌, ◌++◌, length, take, drop, refl, sym, ap, ◌∙◌, append_assoc, arith, length-drop}
use Rattle.std.proofs.lemmas.List.{take_all}
use Rattle.spice_cards.specs.Tokens.{Token, piece, tokens_behind, tokens_of}

pub behind : (n : ℕ) (bytes : List ℕ) → tokens_behind n bytes ≡ tokens_of (drop n bytes)
behind zero bytes = refl
behind (suc n) [] = refl
behind (suc n) (c ∷ cs) = behind n cs

drop_one : (n c : ℕ) (cs : List ℕ) → 0 < n → drop (n - 1) cs ≡ drop n (c ∷ cs)
drop_one zero c cs h = absurd (omega arith)
drop_one (suc n) c cs h = let e : suc n - 1 ≡ n = omega arith in ap (λ (k : ℕ). drop k cs) e

pub token_more : (bytes : List ℕ) → 0 < length bytes → 0 < (piece bytes).width → tokens_of bytes ≡ (piece bytes).tokens ++ tokens_of (drop (piece bytes).width bytes)
token_more [] h w = absurd (omega arith)
token_more (c ∷ cs) h w =
    ap (λ (ts : List Token). (piece (c ∷ cs)).tokens ++ ts) (behind _ cs ∙ ap (λ (bs : List ℕ). tokens_of bs) (drop_one (piece (c ∷ cs)).width c cs w))

-- one turn of the loop: the tokens so far and those of the piece
pub goes_on : (front next total : List Token) (bytes : List ℕ) (width : ℕ) → 0 < length bytes → 0 < width → width ≤ length bytes
    → next ≡ (piece bytes).tokens → width ≡ (piece bytes).width → front ++ tokens_of bytes ≡ total
    → (front ++ next) ++ tokens_of (take (length bytes - width) (drop width bytes)) ≡ total
goes_on front next total bytes width h w le tokens e so_far =
    let whole : take (length bytes - width) (drop width bytes) ≡ drop width bytes = take_all _ _ (omega (arith, length-drop width bytes)) in
    let some : 0 < (piece bytes).width = rw (sym e) w in
    rw (whole, tokens, e) (append_assoc front (piece bytes).tokens (tokens_of (drop (piece bytes).width bytes)) ∙ ap (λ (ts : List Token). front ++ ts) (sym (token_more bytes h some)) ∙ so_far)

pub turn : (front out total : List Token) (bytes : List ℕ) (width : ℕ) → 0 < length bytes → 0 < width → width ≤ length bytes
    → out ≡ front ++ (piece bytes).tokens → width ≡ (piece bytes).width → front ++ tokens_of bytes ≡ total
    → out ++ tokens_of (take (length bytes - width) (drop width bytes)) ≡ total
turn front out total bytes width h w le o e so_far =
    rw o (goes_on front (piece bytes).tokens total bytes width h w le refl e so_far)
