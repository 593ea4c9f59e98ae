-- The cards of lines that are written one a card.
use Rattle.std.proofs.Common.{◌≡◌, ◌⊎◌, inl, inr, ℕ, ◌+◌, ◌-◌, ◌==◌, Bool, true, false, List, [], ◌∷◌, ◌++◌, length, map, Option, Some, None, refl, sym, ap, subst, ◌∙◌, append_assoc, length-append, arith}
use Rattle.std.specs.Prelude.{flat_map, slice_index, take, drop, ◌&&◌, ◌||◌, if◌then◌else◌}
use Rattle.std.specs.List.{All, list_all}
use Rattle.std.proofs.lemmas.List.{append-nil}
use Rattle.std.proofs.lemmas.List.Elements.{All-cons}
use Rattle.rule_lines.specs.Lines.{chopped, lines_of}
use Rattle.rule_lines.proofs.LineLemmas.{Lacks, ended}
use Rattle.spice_cards.specs.Tokens.{Token, Word, Equals, goes_on, is_blank, run, tokens_of, word_len}
use Rattle.spice_cards.specs.Parts.{Param, begins_equals, behind_words, onto, params_of, words_of}
use Rattle.spice_cards.specs.Cards.{Cut, cut, early_more, early_more_in, is_more, is_passed}
use Rattle.netlist_turn.specs.CardLaw.{IsPair, IsWord, param_tokens, params_text, words_text}
use Rattle.netlist_turn.specs.KeptLaw.{tokens_in}
use Rattle.netlist_turn.proofs.CardText.{card_tokens_is, first_byte, on_by}
use Rattle.netlist_turn.proofs.PlainTokens.{AreOk, IsPlain, plain_lacks}

-- ---- a card's tokens are its words and parameters

some_is : {A : Type 0} (x y : A) → Some x ≡ Some y → x ≡ y
some_is x y h = cc

params_on : (o : Option (List Param)) (k v : List ℕ) (ts : List Token) (ps : List Param) → params_of ts ≡ o → onto (let p : Param = record { key = k; value = v } in p) o ≡ Some ps
    → ((qs : List Param) → params_of ts ≡ Some qs → flat_map param_tokens qs ≡ ts)
    → flat_map param_tokens ps ≡ Word k ∷ Equals ∷ Word v ∷ ts
params_on None k v ts ps e h back = let f : None ≡ Some ps = h in absurd (let z : ⊥ = cc in z)
params_on (Some qs) k v ts ps e h back =
    let p : Param = record { key = k; value = v } in
    ap (λ (xs : List Param). flat_map param_tokens xs) (sym (some_is (p ∷ qs) ps h)) ∙ ap (λ (xs : List Token). Word k ∷ Equals ∷ Word v ∷ xs) (back qs e)

params_back : (ts : List Token) (ps : List Param) → params_of ts ≡ Some ps → flat_map param_tokens ps ≡ ts
params_back [] ps h = ap (λ (xs : List Param). flat_map param_tokens xs) (sym (some_is [] ps h))
params_back (Equals ∷ ts) ps h = let f : None ≡ Some ps = h in absurd (let z : ⊥ = cc in z)
params_back (Word k ∷ []) ps h = let f : None ≡ Some ps = h in absurd (let z : ⊥ = cc in z)
params_back (Word k ∷ Word v ∷ ts) ps h = let f : None ≡ Some ps = h in absurd (let z : ⊥ = cc in z)
params_back (Word k ∷ Equals ∷ []) ps h = let f : None ≡ Some ps = h in absurd (let z : ⊥ = cc in z)
params_back (Word k ∷ Equals ∷ Equals ∷ ts) ps h = let f : None ≡ Some ps = h in absurd (let z : ⊥ = cc in z)
params_back (Word k ∷ Equals ∷ Word v ∷ ts) ps h = params_on (params_of ts) k v ts ps refl h (λ qs e. params_back ts qs e)

parted_by : (b : Bool) (w : List ℕ) (ts : List Token) (ps : List Param) → params_of (if b then Word w ∷ ts else behind_words ts) ≡ Some ps
    → (params_of (behind_words ts) ≡ Some ps → map Word (words_of ts) ++ flat_map param_tokens ps ≡ ts)
    → map Word (if b then [] else w ∷ words_of ts) ++ flat_map param_tokens ps ≡ Word w ∷ ts
parted_by true w ts ps h more = params_back (Word w ∷ ts) ps h
parted_by false w ts ps h more = ap (λ (xs : List Token). Word w ∷ xs) (more h)

pub parted : (ts : List Token) (ps : List Param) → params_of (behind_words ts) ≡ Some ps → map Word (words_of ts) ++ flat_map param_tokens ps ≡ ts
parted [] ps h = params_back [] ps h
parted (Equals ∷ ts) ps h = params_back (Equals ∷ ts) ps h
parted (Word w ∷ ts) ps h = parted_by (begins_equals ts) w ts ps h (λ e. parted ts ps e)

-- ---- words and pairs without a backslash

abbrev ArePlainWords : List (List ℕ) → Type 0
ArePlainWords [] = Unit {0}
ArePlainWords (w ∷ ws) = IsWord w × IsPlain w × ArePlainWords ws

abbrev ArePlainPairs : List Param → Type 0
ArePlainPairs [] = Unit {0}
ArePlainPairs (p ∷ ps) = IsWord p.key × IsPlain p.key × IsWord p.value × IsPlain p.value × ArePlainPairs ps

words_plain : (ws : List (List ℕ)) (ts : List Token) → AreOk (map Word ws ++ ts) → ArePlainWords ws × AreOk ts
words_plain [] ts h = (tt, h)
words_plain (w ∷ ws) ts h = let more = words_plain ws ts h.2 in ((h.0, h.1, more.0), more.1)

pairs_plain : (ps : List Param) → AreOk (flat_map param_tokens ps) → ArePlainPairs ps
pairs_plain [] h = tt
pairs_plain (p ∷ ps) h = let v = h.2 in (h.0, h.1, v.0, v.1, pairs_plain ps v.2)

ends_plain : (w : List ℕ) → IsPlain w → run false w ≡ length w → run false (w ++ 0x3D ∷ []) ≡ length w
ends_plain [] h r = refl
ends_plain (b ∷ w) h r =
    on_by (goes_on false b) (run (b == 0x5C) w) (run (b == 0x5C) (w ++ 0x3D ∷ [])) (length w)
    (λ g. ap (λ (e : Bool). run e (w ++ 0x3D ∷ [])) h.1 ∙ ends_plain w h.2 (ap (λ (e : Bool). run e w) (sym h.1) ∙ g)) r

key_ends : (k : List ℕ) → IsWord k → IsPlain k → word_len (k ++ 0x3D ∷ []) ≡ length k
key_ends [] h g = absurd h
key_ends (b ∷ k) h g = ends_plain (b ∷ k) g h

pair_of : (p : Param) → IsWord p.key → IsPlain p.key → IsWord p.value → IsPair p
pair_of p word plain value = record { key = word; value = value; ends = key_ends p.key word plain }

all_none : {A : Type 0} (P : A → Type 0) → All P []
all_none P k x lt = absurd (let z : ⊥ = omega arith in z)

all_words : (ws : List (List ℕ)) → ArePlainWords ws → All IsWord ws
all_words [] h = all_none IsWord
all_words (w ∷ ws) h = All-cons IsWord w ws h.0 (all_words ws h.2)

all_pairs : (ps : List Param) → ArePlainPairs ps → All IsPair ps
all_pairs [] h = all_none IsPair
all_pairs (p ∷ ps) h = All-cons IsPair p ps (pair_of p h.0 h.1 h.2) (all_pairs ps h.4)

-- ---- a line

-- a line that is a card of these tokens
pub record IsCardLine (line : List ℕ) (ts : List Token) : Type 0 where
  pub lacks : Lacks line
  pub whole : chopped line ≡ line
  pub shown : is_passed line ≡ false
  pub begins : is_more line ≡ false
  pub tokens : tokens_of line ≡ ts

lacks_append : (a b : List ℕ) → Lacks a → Lacks b → Lacks (a ++ b)
lacks_append [] b h g = g
lacks_append (c ∷ a) b h g = (h.0, lacks_append a b h.1 g)

lacks_words : (ws : List (List ℕ)) → ArePlainWords ws → Lacks (words_text ws)
lacks_words [] h = tt
lacks_words (w ∷ ws) h = lacks_append w (0x20 ∷ words_text ws) (plain_lacks w h.1) (refl, lacks_words ws h.2)

lacks_params : (ps : List Param) → ArePlainPairs ps → Lacks (params_text ps)
lacks_params [] h = tt
lacks_params (p ∷ ps) h =
    lacks_append p.key (0x3D ∷ (p.value ++ (0x20 ∷ params_text ps))) (plain_lacks p.key h.1)
    (refl, lacks_append p.value (0x20 ∷ params_text ps) (plain_lacks p.value h.3) (refl, lacks_params ps h.4))

-- a text that is empty, or ends in a blank
abbrev EndsBlank : List ℕ → Type 0
EndsBlank t = (t ≡ []) ⊎ ((k : List ℕ) × (t ≡ k ++ 0x20 ∷ []))

blank_end : (a t : List ℕ) → EndsBlank t → (k : List ℕ) × (a ++ (0x20 ∷ t) ≡ k ++ 0x20 ∷ [])
blank_end a t (inl e) = (a, ap (λ (x : List ℕ). a ++ (0x20 ∷ x)) e)
blank_end a t (inr (k, e)) = (a ++ (0x20 ∷ k), ap (λ (x : List ℕ). a ++ (0x20 ∷ x)) e ∙ sym (append_assoc a (0x20 ∷ k) (0x20 ∷ [])))

params_end : (ps : List Param) → EndsBlank (params_text ps)
params_end [] = inl refl
params_end (p ∷ ps) =
    let last = blank_end (p.key ++ (0x3D ∷ p.value)) (params_text ps) (params_end ps) in
    inr (last.0, sym (append_assoc p.key (0x3D ∷ p.value) (0x20 ∷ params_text ps)) ∙ last.1)

words_end : (ws : List (List ℕ)) (ps : List Param) → EndsBlank (words_text ws ++ params_text ps)
words_end [] ps = params_end ps
words_end (w ∷ ws) ps =
    let last = blank_end w (words_text ws ++ params_text ps) (words_end ws ps) in
    inr (last.0, append_assoc w (0x20 ∷ words_text ws) (params_text ps) ∙ last.1)

last_at : (k : List ℕ) (x : ℕ) → slice_index (k ++ x ∷ []) (length k) ≡ x
last_at [] x = refl
last_at (c ∷ k) x = last_at k x

chopped_blank : (k : List ℕ) → chopped (k ++ 0x20 ∷ []) ≡ k ++ 0x20 ∷ []
chopped_blank k =
    let t : List ℕ = k ++ 0x20 ∷ [] in
    let at : length t - 1 ≡ length k = omega (arith, length-append k (0x20 ∷ [])) in
    let byte : slice_index t (length t - 1) ≡ 0x20 = ap (λ (n : ℕ). slice_index t n) at ∙ last_at k 0x20 in
    ap (λ (b : ℕ). if b == 0x0D then take (length t - 1) t else t) byte

chopped_end : (t : List ℕ) → EndsBlank t → chopped t ≡ t
chopped_end t (inl e) = subst (λ (x : List ℕ). chopped x ≡ x) (sym e) refl
chopped_end t (inr (k, e)) = subst (λ (x : List ℕ). chopped x ≡ x) (sym e) (chopped_blank k)

passed_by : (p q r : Bool) → p ≡ false → q ≡ false → (p || (q && r)) ≡ false
passed_by p q r e f = rw (e, f) refl

-- what is written of a card is one, if its first byte begins neither a comment nor a line that goes on
pub card_line : (b : ℕ) (w : List ℕ) (ws : List (List ℕ)) (ps : List Param) → (b == 0x2A) ≡ false → (b == 0x2B) ≡ false
    → AreOk (map Word ((b ∷ w) ∷ ws) ++ flat_map param_tokens ps)
    → IsCardLine (words_text ((b ∷ w) ∷ ws) ++ params_text ps) (map Word ((b ∷ w) ∷ ws) ++ flat_map param_tokens ps)
card_line b w ws ps star plus ok =
    let words = words_plain ((b ∷ w) ∷ ws) (flat_map param_tokens ps) ok in
    let pairs = pairs_plain ps words.1 in
    let first = words.0 in
    let starts = first_byte (is_blank b) (b == 0x3D) (run (b == 0x5C) w) (length w) first.0 in
    record {
      lacks = lacks_append (words_text ((b ∷ w) ∷ ws)) (params_text ps) (lacks_words ((b ∷ w) ∷ ws) words.0) (lacks_params ps pairs);
      whole = chopped_end (words_text ((b ∷ w) ∷ ws) ++ params_text ps) (words_end ((b ∷ w) ∷ ws) ps);
      shown = passed_by (b == 0x2A) (is_blank b) (list_all is_blank ((w ++ (0x20 ∷ words_text ws)) ++ params_text ps)) star starts.0;
      begins = plus;
      tokens = card_tokens_is ((b ∷ w) ∷ ws) ps (all_words ((b ∷ w) ∷ ws) words.0) (all_pairs ps pairs);
    }

-- ---- lines

-- a text of such lines
abbrev pub AreCardLines : List ℕ → List (List Token) → Type 0
AreCardLines text [] = text ≡ []
AreCardLines text (ts ∷ tss) = (line : List ℕ) × IsCardLine line ts × (rest : List ℕ) × AreCardLines rest tss × (text ≡ line ++ (0x0A ∷ rest))

before_it : (p q : Bool) (n : ℕ) (line : List ℕ) (k : Cut) → p ≡ false → q ≡ false
    → (if p then k else if q then record { more = tokens_of (drop 1 line) ++ k.more; cards = k.cards }
    else record { more = []; cards = record { line = n; tokens = tokens_of line ++ k.more } ∷ k.cards })
    ≡ (let c : Cut = record { more = []; cards = record { line = n; tokens = tokens_of line ++ k.more } ∷ k.cards } in c)
before_it p q n line k e f = rw (e, f) refl

pub lines_cards : (n : ℕ) (text : List ℕ) (tss : List (List Token)) → AreCardLines text tss
    → ((cut n (lines_of text)).more ≡ []) × (tokens_in (cut n (lines_of text)).cards ≡ tss)
lines_cards n text [] h = (ap (λ (t : List ℕ). (cut n (lines_of t)).more) h, ap (λ (t : List ℕ). tokens_in (cut n (lines_of t)).cards) h)
lines_cards n text (ts ∷ tss) (line, is, rest, more, e) =
    let behind = lines_cards (n + 1) rest tss more in
    let k : Cut = cut (n + 1) (lines_of rest) in
    let split : lines_of text ≡ line ∷ lines_of rest = ap (λ (t : List ℕ). lines_of t) e ∙ ended line rest is.lacks ∙ ap (λ (l : List ℕ). l ∷ lines_of rest) is.whole in
    let here : cut n (lines_of text) ≡ (let c : Cut = record { more = []; cards = record { line = n; tokens = tokens_of line ++ k.more } ∷ k.cards } in c) =
    ap (λ (ls : List (List ℕ)). cut n ls) split ∙ before_it (is_passed line) (is_more line) n line k is.shown is.begins in (
      ap (λ (c : Cut). c.more) here,
      ap (λ (c : Cut). tokens_in c.cards) here
          ∙ ap (λ (xs : List Token). (tokens_of line ++ xs) ∷ tokens_in k.cards) behind.0
          ∙ ap (λ (xs : List Token). xs ∷ tokens_in k.cards) (append-nil (tokens_of line) ∙ is.tokens)
          ∙ ap (λ (xs : List (List Token)). ts ∷ xs) behind.1,
    )

start_by : (p q : Bool) (o : Option ℕ) (n : ℕ) → p ≡ false → q ≡ false → (if p then o else if q then (let x : Option ℕ = Some n in x) else None) ≡ None
start_by p q o n e f = rw (e, f) refl

-- the first of them begins a card
pub lines_start : (text : List ℕ) (tss : List (List Token)) → AreCardLines text tss → early_more text ≡ None
lines_start text [] h = ap (λ (t : List ℕ). early_more t) h
lines_start text (ts ∷ tss) (line, is, rest, more, e) =
    let split : lines_of text ≡ line ∷ lines_of rest = ap (λ (t : List ℕ). lines_of t) e ∙ ended line rest is.lacks ∙ ap (λ (l : List ℕ). l ∷ lines_of rest) is.whole in
    ap (λ (ls : List (List ℕ)). early_more_in 1 ls) split ∙ start_by (is_passed line) (is_more line) (early_more_in 2 (lines_of rest)) 1 is.shown is.begins
