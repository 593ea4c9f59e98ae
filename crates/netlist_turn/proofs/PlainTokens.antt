-- The words of a text without a backslash, and the tokens of its cards.
use Rattle.std.proofs.Common.{◌≡◌, ℕ, zero, suc, ◌+◌, ◌-◌, ◌==◌, Bool, true, false, List, [], ◌∷◌, ◌++◌, length, take, drop, refl, sym, ap, subst, ◌∙◌, arith}
use Rattle.std.specs.Prelude.{not, ◌&&◌, ◌||◌, if◌then◌else◌}
use Rattle.rule_lines.specs.Lines.{begins, lines_of, onto_first}
use Rattle.rule_lines.proofs.LineLemmas.{Lacks}
use Rattle.spice_cards.specs.Tokens.{Piece, Token, Word, Equals, goes_on, is_blank, piece, run, tokens_behind, tokens_of, word_len}
use Rattle.spice_cards.specs.Cards.{Card, Cut, cut, is_more, is_passed}
use Rattle.netlist_turn.specs.CardLaw.{IsWord}
use Rattle.netlist_turn.specs.Words.{has_escape}

-- neither the end of a line nor a backslash
abbrev pub IsPlain : List ℕ → Type 0
IsPlain [] = Unit {0}
IsPlain (b ∷ bytes) = ((b == 0x0A) ≡ false) × ((b == 0x5C) ≡ false) × IsPlain bytes

abbrev pub AreOk : List Token → Type 0
AreOk [] = Unit {0}
AreOk (Equals ∷ ts) = AreOk ts
AreOk (Word w ∷ ts) = IsWord w × IsPlain w × AreOk ts

abbrev pub AreOkCards : List Card → Type 0
AreOkCards [] = Unit {0}
AreOkCards (c ∷ cs) = AreOk c.tokens × AreOkCards cs

abbrev pub ArePlainLines : List (List ℕ) → Type 0
ArePlainLines [] = Unit {0}
ArePlainLines (l ∷ ls) = IsPlain l × ArePlainLines ls

pub plain_lacks : (w : List ℕ) → IsPlain w → Lacks w
plain_lacks [] h = tt
plain_lacks (b ∷ w) h = (h.0, plain_lacks w h.2)

plain_take : (n : ℕ) (w : List ℕ) → IsPlain w → IsPlain (take n w)
plain_take zero [] h = tt
plain_take zero (b ∷ w) h = tt
plain_take (suc n) [] h = tt
plain_take (suc n) (b ∷ w) h = (h.0, h.1, plain_take n w h.2)

plain_drop : (w : List ℕ) → IsPlain w → IsPlain (drop 1 w)
plain_drop [] h = tt
plain_drop (b ∷ w) h = h.2

ok_append : (xs ys : List Token) → AreOk xs → AreOk ys → AreOk (xs ++ ys)
ok_append [] ys h g = g
ok_append (Equals ∷ xs) ys h g = ok_append xs ys h g
ok_append (Word w ∷ xs) ys h g = (h.0, h.1, ok_append xs ys h.2 g)

-- ---- words

run_by : (e : Bool) (b : ℕ) (bytes : List ℕ) (g : Bool) → goes_on e b ≡ g
    → (let f : Bool = not e && b == 0x5C in run f (take (run f bytes) bytes) ≡ length (take (run f bytes) bytes))
    → (let n : ℕ = if g then run (not e && b == 0x5C) bytes + 1 else 0 in run e (take n (b ∷ bytes)) ≡ length (take n (b ∷ bytes)))
run_by e b bytes false g h = refl
run_by e b bytes true g h =
    let n : ℕ = run (not e && b == 0x5C) bytes in
    let more : suc n ≡ n + 1 = omega arith in
    let P : ℕ → Type 0 = λ k. run e (take k (b ∷ bytes)) ≡ length (take k (b ∷ bytes)) in
    let on : run e (b ∷ take n bytes) ≡ run (not e && b == 0x5C) (take n bytes) + 1 = ap (λ (t : Bool). if t then run (not e && b == 0x5C) (take n bytes) + 1 else 0) g in
    let here : run e (b ∷ take n bytes) ≡ suc (length (take n bytes)) = omega (arith, on, h) in
    subst P more here

run_taken : (e : Bool) (bytes : List ℕ) → run e (take (run e bytes) bytes) ≡ length (take (run e bytes) bytes)
run_taken e [] = refl
run_taken e (b ∷ bytes) = run_by e b bytes (goes_on e b) refl (run_taken (not e && b == 0x5C) bytes)

-- the word at the front is one
word_is : (b : ℕ) (bytes : List ℕ) → is_blank b ≡ false → (b == 0x3D) ≡ false → IsWord (take (word_len (b ∷ bytes)) (b ∷ bytes))
word_is b bytes blank equals =
    let n : ℕ = run (b == 0x5C) bytes in
    let on : word_len (b ∷ bytes) ≡ n + 1 = ap (λ (t : Bool). if (not t && (false || not (b == 0x3D))) then n + 1 else 0) blank ∙ ap (λ (t : Bool). if (true && (false || not t)) then n + 1 else 0) equals in
    let long : word_len (b ∷ bytes) ≡ suc n = omega (arith, on) in
    let whole : word_len (take (suc n) (b ∷ bytes)) ≡ length (take (suc n) (b ∷ bytes)) =
    subst (λ (k : ℕ). word_len (take k (b ∷ bytes)) ≡ length (take k (b ∷ bytes))) long (run_taken false (b ∷ bytes)) in
    subst (λ (k : ℕ). IsWord (take k (b ∷ bytes))) (sym long) whole

piece_by : (p q : Bool) (b : ℕ) (bytes : List ℕ) → IsPlain (b ∷ bytes) → is_blank b ≡ p → (b == 0x3D) ≡ q
    → AreOk (if p then [] else if q then Equals ∷ [] else Word (take (word_len (b ∷ bytes)) (b ∷ bytes)) ∷ [])
piece_by true q b bytes h blank equals = tt
piece_by false true b bytes h blank equals = tt
piece_by false false b bytes h blank equals = (word_is b bytes blank equals, plain_take (word_len (b ∷ bytes)) (b ∷ bytes) h, tt)

piece_tokens : (p q : Bool) (w : List ℕ) (n : ℕ)
    → (if p then [] else if q then Equals ∷ [] else Word w ∷ [])
    ≡ (let x : Piece = (if p then record { tokens = []; width = 1 } else if q then record { tokens = Equals ∷ []; width = 1 } else record { tokens = Word w ∷ []; width = n }) in x).tokens
piece_tokens true q w n = refl
piece_tokens false true w n = refl
piece_tokens false false w n = refl

piece_ok : (b : ℕ) (bytes : List ℕ) → IsPlain (b ∷ bytes) → AreOk (piece (b ∷ bytes)).tokens
piece_ok b bytes h =
    subst AreOk (piece_tokens (is_blank b) (b == 0x3D) (take (word_len (b ∷ bytes)) (b ∷ bytes)) (word_len (b ∷ bytes)))
    (piece_by (is_blank b) (b == 0x3D) b bytes h refl refl)

behind_ok : (n : ℕ) (bytes : List ℕ) → IsPlain bytes → AreOk (tokens_behind n bytes)
behind_ok zero [] h = tt
behind_ok (suc n) [] h = tt
behind_ok zero (b ∷ bytes) h = ok_append (piece (b ∷ bytes)).tokens (tokens_behind ((piece (b ∷ bytes)).width - 1) bytes) (piece_ok b bytes h) (behind_ok ((piece (b ∷ bytes)).width - 1) bytes h.2)
behind_ok (suc n) (b ∷ bytes) h = behind_ok n bytes h.2

-- ---- lines

or_none : (a b : Bool) → (a || b) ≡ false → (a ≡ false) × (b ≡ false)
or_none false b h = (refl, h)
or_none true b h = let f : true ≡ false = h in absurd (let z : ⊥ = cc in z)

onto_plain : (c : ℕ) (ls : List (List ℕ)) → (c == 0x0A) ≡ false → (c == 0x5C) ≡ false → ArePlainLines ls → ArePlainLines (onto_first c ls)
onto_plain c [] e f h = ((e, f, tt), tt)
onto_plain c (l ∷ ls) e f h = ((e, f, h.0), h.1)

lines_by : (p q : Bool) (c : ℕ) (ls : List (List ℕ)) → (c == 0x0A) ≡ p → (c == 0x5C) ≡ false → ArePlainLines ls
    → ArePlainLines (if p then [] ∷ ls else if q then ls else onto_first c ls)
lines_by true q c ls e f h = (tt, h)
lines_by false true c ls e f h = h
lines_by false false c ls e f h = onto_plain c ls e f h

lines_plain : (text : List ℕ) → has_escape text ≡ false → ArePlainLines (lines_of text)
lines_plain [] h = tt
lines_plain (c ∷ cs) h =
    let parts = or_none (c == 0x5C) (has_escape cs) h in
    lines_by (c == 0x0A) (c == 0x0D && begins 0x0A cs) c (lines_of cs) refl parts.0 (lines_plain cs parts.1)

-- ---- cards

abbrev IsOkCut : Cut → Type 0
IsOkCut k = AreOk k.more × AreOkCards k.cards

before_by : (p q : Bool) (n : ℕ) (line : List ℕ) (k : Cut) → IsPlain line → IsOkCut k
    → IsOkCut (if p then k else if q then record { more = tokens_of (drop 1 line) ++ k.more; cards = k.cards }
    else record { more = []; cards = record { line = n; tokens = tokens_of line ++ k.more } ∷ k.cards })
before_by true q n line k h g = g
before_by false true n line k h g = (ok_append (tokens_of (drop 1 line)) k.more (behind_ok 0 (drop 1 line) (plain_drop line h)) g.0, g.1)
before_by false false n line k h g = (tt, (ok_append (tokens_of line) k.more (behind_ok 0 line h) g.0, g.1))

cut_ok : (n : ℕ) (ls : List (List ℕ)) → ArePlainLines ls → IsOkCut (cut n ls)
cut_ok n [] h = (tt, tt)
cut_ok n (l ∷ ls) h = before_by (is_passed l) (is_more l) n l (cut (n + 1) ls) h.0 (cut_ok (n + 1) ls h.1)

-- the words of a text without a backslash have none, and are words
pub cards_ok : (text : List ℕ) → has_escape text ≡ false → AreOkCards (cut 1 (lines_of text)).cards
cards_ok text h = let ok = cut_ok 1 (lines_of text) (lines_plain text h) in ok.1
