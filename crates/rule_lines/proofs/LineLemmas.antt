-- The first line of a text.
use Rattle.std.proofs.Common.{◌≡◌, ℕ, suc, ◌+◌, ◌-◌, ◌≤◌, ◌<◌, List, [], ◌∷◌, ◌++◌, length, take, drop, get_or, refl, sym, ap, subst, ◌∙◌, arith, Bool, true, false, cond, length-drop}
use Rattle.std.specs.Prelude.{◌==◌, ◌&&◌, not}
use Rattle.std.specs.List.{position_or_len}
use Rattle.std.proofs.lemmas.List.Sums.{split_at_first, prefix_len_stops}
use Rattle.std.proofs.lemmas.Bool.{eqb-true, and_right, not-false}
use Rattle.std.proofs.lemmas.List.{take_all}
use Rattle.rule_lines.specs.Lines.{onto_first, lines_of, chopped}

abbrev pub is_end : ℕ → Bool
is_end b = b == 0x0A

abbrev pub Lacks : List ℕ → Type 0
Lacks [] = Unit {0}
Lacks (c ∷ cs) = (is_end c ≡ false) × Lacks cs

lacks_one : (b : Bool) (c n : ℕ) (cs : List ℕ) → is_end c ≡ b → Lacks (take n cs) → Lacks (take (cond (not b) (1 + n) 0) (c ∷ cs))
lacks_one true c n cs e h = tt
lacks_one false c n cs e h = let f : 1 + n ≡ suc n = omega arith in subst (λ (k : ℕ). Lacks (take k (c ∷ cs))) (sym f) (e, h)

pub lacks_before : (bytes : List ℕ) → Lacks (take (position_or_len is_end bytes) bytes)
lacks_before [] = tt
lacks_before (c ∷ cs) = lacks_one (is_end c) c (position_or_len is_end cs) cs refl (lacks_before cs)

third : {X : Type 0} (a b : Bool) (x y z : X) → a ≡ false → b ≡ false → cond a x (cond b y z) ≡ z
third a b x y z e f = rw (e, f)

second : {X : Type 0} (a : Bool) (x y : X) → a ≡ false → cond a x y ≡ y
second a x y e = rw e

chopped_one : (b : Bool) (c : ℕ) (rest : List (List ℕ)) → cond (b && true) ([] ∷ rest) ((c ∷ []) ∷ rest) ≡ cond b [] (c ∷ []) ∷ rest
chopped_one true c rest = refl
chopped_one false c rest = refl

chopped_by : (b : Bool) (c : ℕ) (x y : List ℕ) → cond b (c ∷ x) (c ∷ y) ≡ c ∷ cond b x y
chopped_by true c x y = refl
chopped_by false c x y = refl

chopped_more : (c d : ℕ) (ds : List ℕ) → chopped (c ∷ d ∷ ds) ≡ c ∷ chopped (d ∷ ds)
chopped_more c d ds =
    let e : length (c ∷ d ∷ ds) - 1 ≡ suc (length (d ∷ ds) - 1) = omega arith in
    ap (λ (n : ℕ). cond (get_or (c ∷ d ∷ ds) n 0 == 0x0D) (take n (c ∷ d ∷ ds)) (c ∷ d ∷ ds)) e
    ∙ chopped_by (get_or (d ∷ ds) (length (d ∷ ds) - 1) 0 == 0x0D) c (take (length (d ∷ ds) - 1) (d ∷ ds)) (d ∷ ds)

-- a line that an LF ends
pub ended : (line rest : List ℕ) → Lacks line → lines_of (line ++ 0x0A ∷ rest) ≡ chopped line ∷ lines_of rest
ended [] rest h = refl
ended (c ∷ []) rest h =
    second (is_end c) _ _ h.0 ∙ chopped_one (c == 0x0D) c (lines_of rest)
ended (c ∷ d ∷ ds) rest h =
    third (is_end c) (c == 0x0D && is_end d) _ _ (onto_first c (lines_of ((d ∷ ds) ++ 0x0A ∷ rest))) h.0 (and_right (c == 0x0D) (is_end d) h.1.0)
    ∙ ap (λ (ls : List (List ℕ)). onto_first c ls) (ended (d ∷ ds) rest h.1)
    ∙ ap (λ (l : List ℕ). l ∷ lines_of rest) (sym (chopped_more c d ds))

-- the last line where no LF ends it
pub unended : (c : ℕ) (cs : List ℕ) → Lacks (c ∷ cs) → lines_of (c ∷ cs) ≡ (c ∷ cs) ∷ []
unended c [] h = third (is_end c) (c == 0x0D && false) _ _ ((c ∷ []) ∷ []) h.0 (and_right (c == 0x0D) false refl)
unended c (d ∷ ds) h =
    third (is_end c) (c == 0x0D && is_end d) _ _ (onto_first c (lines_of (d ∷ ds))) h.0 (and_right (c == 0x0D) (is_end d) h.1.0)
    ∙ ap (λ (ls : List (List ℕ)). onto_first c ls) (unended d ds h.1)

pub first_line : (bytes : List ℕ) (n : ℕ) → n ≡ position_or_len is_end bytes → n < length bytes
    → lines_of bytes ≡ chopped (take n bytes) ∷ lines_of (drop (n + 1) bytes)
first_line bytes n e h =
    let less : position_or_len is_end bytes < length bytes = rw (sym e) h in
    let stops = prefix_len_stops (λ b. not (is_end b)) bytes 0 less in
    let lf : get_or bytes (position_or_len is_end bytes) 0 ≡ 0x0A = eqb-true _ _ (not-false _ stops) in
    let parts = split_at_first is_end bytes 0 less in
    rw e (ap (λ (bs : List ℕ). lines_of bs) (parts ∙ ap (λ (b : ℕ). take (position_or_len is_end bytes) bytes ++ b ∷ drop (position_or_len is_end bytes + 1) bytes) lf)
    ∙ ended (take (position_or_len is_end bytes) bytes) (drop (position_or_len is_end bytes + 1) bytes) (lacks_before bytes))

pub last_line : (bytes : List ℕ) (n : ℕ) → n ≡ position_or_len is_end bytes → 0 < length bytes → length bytes ≤ n → lines_of bytes ≡ bytes ∷ []
last_line [] n e h le = absurd (omega arith)
last_line (c ∷ cs) n e h le =
    let all : take (position_or_len is_end (c ∷ cs)) (c ∷ cs) ≡ c ∷ cs = take_all _ _ (rw (sym e) le) in
    unended c cs (subst (λ (bs : List ℕ). Lacks bs) all (lacks_before (c ∷ cs)))

pub whole : (bytes : List ℕ) (n : ℕ) → take (length bytes - n) (drop n bytes) ≡ drop n bytes
whole bytes n = take_all _ _ (omega (arith, length-drop n bytes))

pub none_left : (bytes : List ℕ) → take (length bytes - length bytes) (drop (length bytes) bytes) ≡ []
none_left bytes = let e : length bytes - length bytes ≡ 0 = omega arith in rw e
