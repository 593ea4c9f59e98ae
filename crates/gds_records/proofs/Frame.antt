-- The front of a byte list as a record.
use Rattle.std.proofs.Common.{◌≡◌, ℕ, ◌+◌, ◌-◌, ◌%◌, ◌^◌, ◌<◌, ◌≤◌, Bool, true, false, cond, eq-eqb, List, [], ◌∷◌, ◌++◌, length, take, drop, Option, Some, None, refl, sym, ap, subst, ◌∙◌, arith, inl, inr}
use Rattle.std.specs.Prelude.{slice_index, slice_range, ◌||◌, not}
use Rattle.std.specs.Int.{w16, from_be_bytes, to_be_bytes}
use Rattle.std.proofs.lemmas.Bool.{le-ltb, cases_lt}
use Rattle.std.proofs.lemmas.List.Folds.{drop_split}
use Rattle.std.proofs.lemmas.List.{length-append, length-take, length-drop, get_or-drop, get_or-take, get_or_past, drop-drop}
use Rattle.std.proofs.lemmas.Nat.{be_bytes_2, from_be_bytes-to_be_bytes_2}
use Rattle.gds_records.specs.Records.{Rec, record_bytes, IsBytes, IsRecord, is_listed, declared_length, framing, IsNext}

pub record Frame (rest : List ℕ) (n kind form : ℕ) : Type 0 where
  pub head : 4 ≤ length rest
  pub low : 4 ≤ n
  pub even : n % 2 ≡ 0
  pub whole : n ≤ length rest
  pub len : n ≡ declared_length rest
  pub kind_is : kind ≡ slice_index rest 2
  pub form_is : form ≡ slice_index rest 3
  pub listed : is_listed kind ≡ true

abbrev pub front : List ℕ → ℕ → ℕ → ℕ → Rec
front rest n kind form = record { kind = kind; form = form; body = take (n - 4) (drop 4 rest) }

-- four bytes and the rest
four : (rest : List ℕ) → 4 ≤ length rest → rest ≡ take 2 rest ++ slice_index rest 2 ∷ slice_index rest 3 ∷ drop 4 rest
four [] h = absurd (omega arith)
four (a ∷ []) h = absurd (omega arith)
four (a ∷ b ∷ []) h = absurd (omega arith)
four (a ∷ b ∷ c ∷ []) h = absurd (omega arith)
four (a ∷ b ∷ c ∷ d ∷ xs) h = refl

len_below : (rest : List ℕ) → IsBytes rest → declared_length rest < 2 ^ 16
len_below rest h = omega (arith, h 0, h 1)

abbrev tested : Bool → Bool → Bool → Bool → Bool → Option ℕ
tested a b c d e = cond a (Some 1) (cond (b || not c) (Some 2) (cond d (Some 1) (cond e None (Some 3))))

tests : (a b c d e : Bool) → a ≡ false → b ≡ false → c ≡ true → d ≡ false → e ≡ true → tested a b c d e ≡ None
tests a b c d e p q r s t = rw (p, q, r, s, t) refl

pub framed : (rest : List ℕ) (n kind form : ℕ) → Frame rest n kind form → framing rest ≡ None
framed rest n kind form f =
    let len = f.len in
    let even : declared_length rest % 2 ≡ 0 = subst (λ (m : ℕ). m % 2 ≡ 0) len f.even in
    let whole : declared_length rest ≤ length rest = subst (λ (m : ℕ). m ≤ length rest) len f.whole in
    let low : 4 ≤ declared_length rest = subst (λ (m : ℕ). 4 ≤ m) len f.low in
    let listed : is_listed (slice_index rest 2) ≡ true = subst (λ (m : ℕ). is_listed m ≡ true) f.kind_is f.listed in
    tests _ _ _ _ _ (le-ltb _ _ f.head) (le-ltb _ _ low) (eq-eqb _ _ even) (le-ltb _ _ whole) listed

IsBytes-drop : (n : ℕ) (bytes : List ℕ) → IsBytes bytes → IsBytes (drop n bytes)
IsBytes-drop n bytes h i = rw get_or-drop (h (n + i))

IsBytes-take : (n : ℕ) (bytes : List ℕ) → IsBytes bytes → IsBytes (take n bytes)
IsBytes-take n bytes h i =
    elim (cases_lt i n) [
      | inl lt ↦ rw (get_or-take n bytes i 0 lt) (h i)
      | inr le ↦ rw (get_or_past (take n bytes) i 0 (omega (arith, length-take n bytes))) (omega arith)
    ]

first_two : (rest : List ℕ) → 4 ≤ length rest → declared_length rest ≡ from_be_bytes w16 (take 2 rest)
first_two [] h = absurd (omega arith)
first_two (a ∷ []) h = absurd (omega arith)
first_two (a ∷ b ∷ xs) h = refl

pub parts : (rest : List ℕ) (n kind form : ℕ) → IsBytes rest → Frame rest n kind form → rest ≡ record_bytes (front rest n kind form) ++ drop n rest
parts rest n kind form bytes f =
    let body = take (n - 4) (drop 4 rest) in
    let long : length body + 4 ≡ n = omega (arith, length-take (n - 4) (drop 4 rest), length-drop 4 rest, f.low, f.whole) in
    let head : to_be_bytes w16 (length body + 4) ≡ take 2 rest =
    be_bytes_2 (take 2 rest) (length body + 4) (omega (arith, length-take 2 rest, f.head)) (IsBytes-take 2 rest bytes) (long ∙ f.len ∙ first_two rest f.head) in
    let whole : rest ≡ take 2 rest ++ kind ∷ form ∷ (body ++ drop n rest) =
    four rest f.head ∙ rw (← f.kind_is, ← f.form_is) (ap (λ (xs : List ℕ). take 2 rest ++ kind ∷ form ∷ xs) (drop_split rest 4 n f.low)) in
    whole ∙ ap (λ (xs : List ℕ). xs ++ kind ∷ form ∷ (body ++ drop n rest)) (sym head)

even_less : (n : ℕ) → 4 ≤ n → n % 2 ≡ 0 → (n - 4) % 2 ≡ 0
even_less n h e = omega (arith, h, e)

pub proper : (rest : List ℕ) (n kind form : ℕ) → IsBytes rest → Frame rest n kind form → IsRecord (front rest n kind form)
proper rest n kind form bytes f =
    let body = take (n - 4) (drop 4 rest) in
    let long : length body ≡ n - 4 = omega (arith, length-take (n - 4) (drop 4 rest), length-drop 4 rest, f.low, f.whole) in
    record {
      kind = f.listed;
      form = subst (λ (x : ℕ). x < 256) (sym f.form_is) (bytes 3);
      even = subst (λ (x : ℕ). x % 2 ≡ 0) (sym long) (even_less n f.low f.even);
      short = omega (arith, len_below rest bytes, f.len, f.low);
      bytes = IsBytes-take (n - 4) (drop 4 rest) (IsBytes-drop 4 rest bytes);
    }

pub found : (bytes : List ℕ) (place n kind form : ℕ) → place ≤ length bytes → IsBytes bytes → Frame (drop place bytes) n kind form
    → IsNext bytes place record { kind = kind; form = form; start = place + 4; end = place + n }
found bytes place n kind form le fits f =
    let rest = drop place bytes in
    let range : slice_range bytes (place + 4) (place + n) ≡ take (n - 4) (drop 4 rest) = let m : (place + n) - (place + 4) ≡ n - 4 = omega arith in ap (λ (k : ℕ). take k (drop (place + 4) bytes)) m ∙ ap (λ (xs : List ℕ). take (n - 4) xs) (sym (drop-drop 4 place bytes)) in
    let tail : drop n rest ≡ drop (place + n) bytes = drop-drop n place bytes in
    let fits' = IsBytes-drop place bytes fits in
    record {
      sound = framed rest n kind form f;
      start = refl;
      end = omega (arith, length-drop place bytes, f.whole);
      order = omega (arith, f.low);
      first = rw (range, ← tail) (parts rest n kind form fits' f);
      proper = rw range (proper rest n kind form fits' f);
    }

-- what begins with a record passes the framing
pub record_framed : (r : Rec) (more : List ℕ) → IsRecord r → framing (record_bytes r ++ more) ≡ None
record_framed r more p =
    let n = length r.body + 4 in
    let even : n % 2 ≡ 0 = omega (arith, p.even) in
    framed (record_bytes r ++ more) n r.kind r.form record {
      head = omega arith;
      low = omega arith;
      even = even;
      whole = omega (arith, length-append r.body more);
      len = sym (from_be_bytes-to_be_bytes_2 n p.short);
      kind_is = refl;
      form_is = refl;
      listed = p.kind;
    }
