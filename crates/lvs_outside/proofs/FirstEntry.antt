-- The first entry with a path is its file.
use Rattle.std.proofs.Common.{◌≡◌, ◌≢◌, ◌<◌, ◌≤◌, ◌+◌, ℕ, zero, suc, List, [], ◌∷◌, ◌++◌, refl, sym, subst, ap, ◌∙◌, inl, inr, true, false, get_or, length, arith, drop, if◌then◌else◌, IsTrue, string_bytes, is_ok, Result, Ok, Err, OnOk, OnErr}
use Rattle.std.proofs.Math.ListN.{set}
use Rattle.std.proofs.Math.Seq.{drop-cons, drop-length}
use Rattle.std.specs.Bool.{Decides}
use Rattle.std.specs.Str.{bytes_eq}
use Rattle.std.proofs.lemmas.Slice.Eq.{bytes_eq-Decides}
use Rattle.lvs_outside.specs.Store.{Told, NoFile, Holds, NextBytes, appended, Closed as ClosedFile, Reading as ReadingFile, Writing as WritingFile}
use Rattle.lvs_outside.specs.Entries.{told, is_file_of, is_in_place, reaches, open_at, Goes, IsSet}
use Rattle.lvs_outside.specs.declared.entries.Entry.{Entry}
use Rattle.lvs_outside.specs.declared.entries.Place.{Place}
use Rattle.lvs_outside.specs.declared.entries.Place.TheVariants.{Reading, Writing}
use Rattle.std.proofs.lemmas.Bool.{leb-true, le-leb}
use Rattle.lvs_outside.proofs.Told.{same_or_not}

pub alike : (a b : List ℕ) → a ≡ b → bytes_eq a b ≡ true
alike a b e = (bytes_eq-Decides a b).1 e

pub unlike : (a b : List ℕ) → a ≢ b → bytes_eq a b ≡ false
unlike a b ne = elim (bytes_eq a b) as (λ t. Decides t (a ≡ b) → t ≡ false) [ true ↦ λ d. absurd (ne (d.0 refl)) | false ↦ λ d. refl ] (bytes_eq-Decides a b)

-- an entry that is a path's file is told
pub found : (es : List Entry) (p : List ℕ) (i : ℕ) (d : Entry) → is_file_of es p i ≡ true → (told es p ≡ Holds (get_or es i d).bytes.items) × (i < length es) × (string_bytes (get_or es i d).path ≡ p)
unfolding told is_file_of
found [] p i d h = cc
found (e ∷ es) p zero d h =
    (ap (λ b. if b then Holds e.bytes.items else told es p) h, omega arith, (bytes_eq-Decides (string_bytes e.path) p).0 h)
found (e ∷ es) p (suc i) d h =
    elim (bytes_eq (string_bytes e.path) p) as (λ b. (if b then false else is_file_of es p i) ≡ true → ((if b then Holds e.bytes.items else told es p) ≡ Holds (get_or es i d).bytes.items) × (suc i < length (e ∷ es)) × (string_bytes (get_or es i d).path ≡ p)) [
      | true ↦ λ g. cc
      | false ↦ λ g. let rest = found es p i d g in (rest.0, (let lt : i < length es = rest.1 in omega arith), rest.2)
    ] h

pub in_range : (es : List Entry) (p : List ℕ) (i : ℕ) → is_file_of es p i ≡ true → i < length es
unfolding is_file_of
in_range [] p i h = cc
in_range (e ∷ es) p i h = (found (e ∷ es) p i e h).1

-- the first i entries have other paths
pub record Skips (es : List Entry) (p : List ℕ) (i : ℕ) : Type 0 where
  pub none : told es p ≡ told (drop i es) p
  pub numbers : (k : ℕ) → is_file_of es p (i + k) ≡ is_file_of (drop i es) p k

pub skips_none : (es : List Entry) (p : List ℕ) → Skips es p 0
skips_none es p = record { none = refl; numbers = λ k. let e : 0 + k ≡ k = omega arith in ap (is_file_of es p) e }

pub skips_more : (es : List Entry) (p : List ℕ) (i : ℕ) (d : Entry) → i < length es → bytes_eq (string_bytes (get_or es i d).path) p ≡ false → Skips es p i → Skips es p (i + 1)
unfolding told is_file_of
skips_more es p i d lt other h =
    let cut : drop i es ≡ get_or es i d ∷ drop (suc i) es = drop-cons es i d lt in
    let at : suc i ≡ i + 1 = omega arith in
    let next : (n : ℕ) → suc i ≡ n → Skips es p n = λ n e. subst (λ n. Skips es p n) e record {
      none = h.none ∙ ap (λ xs. told xs p) cut ∙ ap (λ b. if b then Holds (get_or es i d).bytes.items else told (drop (suc i) es) p) other;
      numbers = λ k.
          let number : suc i + k ≡ i + suc k = omega arith in
          ap (is_file_of es p) number ∙ h.numbers (suc k) ∙ ap (λ xs. is_file_of xs p (suc k)) cut ∙ ap (λ b. if b then false else is_file_of (drop (suc i) es) p k) other;
    } in
    next (i + 1) at

pub skips_to : (es : List Entry) (p : List ℕ) (i : ℕ) (d : Entry) → i < length es → bytes_eq (string_bytes (get_or es i d).path) p ≡ true → Skips es p i → is_file_of es p i ≡ true
unfolding is_file_of
skips_to es p i d lt same h =
    let cut : drop i es ≡ get_or es i d ∷ drop (suc i) es = drop-cons es i d lt in
    let number : i ≡ i + 0 = omega arith in
    ap (is_file_of es p) number ∙ h.numbers 0 ∙ ap (λ xs. is_file_of xs p 0) cut ∙ same

pub skips_all : (es : List Entry) (p : List ℕ) → Skips es p (length es) → told es p ≡ NoFile
unfolding told
skips_all es p h = h.none ∙ ap (λ xs. told xs p) (drop-length es)

-- an entry with the same path takes the place of the old one
set_same : (es : List Entry) (p : List ℕ) (i : ℕ) (e : Entry) → is_file_of es p i ≡ true → string_bytes e.path ≡ p → told (set es i e) p ≡ Holds e.bytes.items
unfolding told is_file_of
set_same [] p i e h same = cc
set_same (x ∷ xs) p zero e h same = ap (λ b. if b then Holds e.bytes.items else told xs p) (alike (string_bytes e.path) p same)
set_same (x ∷ xs) p (suc i) e h same =
    elim (bytes_eq (string_bytes x.path) p) as (λ b. (if b then false else is_file_of xs p i) ≡ true → (if b then Holds x.bytes.items else told (set xs i e) p) ≡ Holds e.bytes.items) [
      | true ↦ λ g. cc
      | false ↦ λ g. set_same xs p i e g same
    ] h

set_other : (es : List Entry) (p q : List ℕ) (i : ℕ) (e : Entry) → is_file_of es p i ≡ true → string_bytes e.path ≡ p → q ≢ p → told (set es i e) q ≡ told es q
unfolding told is_file_of
set_other [] p q i e h same other = cc
set_other (x ∷ xs) p q zero e h same other =
    let here : bytes_eq (string_bytes e.path) q ≡ false = unlike (string_bytes e.path) q (λ k. other (sym k ∙ same)) in
    let there : bytes_eq (string_bytes x.path) q ≡ false = unlike (string_bytes x.path) q (λ k. other (sym k ∙ (bytes_eq-Decides (string_bytes x.path) p).0 h)) in
    ap (λ b. if b then Holds e.bytes.items else told xs q) here ∙ sym (ap (λ b. if b then Holds x.bytes.items else told xs q) there)
set_other (x ∷ xs) p q (suc i) e h same other =
    elim (bytes_eq (string_bytes x.path) p) as (λ b. (if b then false else is_file_of xs p i) ≡ true → told (x ∷ set xs i e) q ≡ told (x ∷ xs) q) [
      | true ↦ λ g. cc
      | false ↦ λ g. ap (λ t. if bytes_eq (string_bytes x.path) q then Holds x.bytes.items else t) (set_other xs p q i e g same other)
    ] h

pub first-set : (es : List Entry) (i : ℕ) (e d : Entry) → string_bytes e.path ≡ string_bytes (get_or es i d).path → (q : List ℕ) → is_file_of (set es i e) q i ≡ is_file_of es q i
unfolding is_file_of
first-set [] i e d same q = refl
first-set (x ∷ xs) zero e d same q = ap (λ path. bytes_eq path q) same
first-set (x ∷ xs) (suc i) e d same q = ap (λ b. if bytes_eq (string_bytes x.path) q then false else b) (first-set xs i e d same q)

set_alike : (es : List Entry) (i : ℕ) (e d : Entry) → string_bytes e.path ≡ string_bytes (get_or es i d).path → e.bytes.items ≡ (get_or es i d).bytes.items → (q : List ℕ) → told (set es i e) q ≡ told es q
unfolding told
set_alike [] i e d same held q = refl
set_alike (x ∷ xs) zero e d same held q = ap (λ path. if bytes_eq path q then Holds e.bytes.items else told xs q) same ∙ ap (λ bytes. if bytes_eq (string_bytes x.path) q then Holds bytes else told xs q) held
set_alike (x ∷ xs) (suc i) e d same held q = ap (λ t. if bytes_eq (string_bytes x.path) q then Holds x.bytes.items else t) (set_alike xs i e d same held q)

goes_by : (old new : List Entry) (p : List ℕ) (step : Told → Told → Type 0) → step (told old p) (told new p) → ((q : List ℕ) → q ≢ p → told new q ≡ told old q) → Goes old new p step
goes_by old new p step here there = record {
  each = λ q. elim (same_or_not q p) [ inl e ↦ inl (e, subst (λ r. step (told old r) (told new r)) (sym e) here) | inr ne ↦ inr (ne, there q ne) ];
}

-- the path's entry is replaced
pub is_set_there : (es : List Entry) (p : List ℕ) (i : ℕ) (e d : Entry) → is_file_of es p i ≡ true → string_bytes e.path ≡ string_bytes (get_or es i d).path → IsSet es (set es i e) p e.bytes.items i
is_set_there es p i e d h same =
    let path : string_bytes e.path ≡ p = same ∙ (found es p i d h).2 in
    record {
      first = first-set es i e d same p ∙ h;
      files = goes_by es (set es i e) p (λ t u. u ≡ Holds e.bytes.items) (set_same es p i e h path) (λ q ne. set_other es p q i e h path ne);
    }

push_same : (es : List Entry) (p : List ℕ) (e : Entry) → told es p ≡ NoFile → string_bytes e.path ≡ p → (told (es ++ e ∷ []) p ≡ Holds e.bytes.items) × (is_file_of (es ++ e ∷ []) p (length es) ≡ true)
unfolding told is_file_of
push_same [] p e none same = (ap (λ b. if b then Holds e.bytes.items else NoFile) (alike (string_bytes e.path) p same), alike (string_bytes e.path) p same)
push_same (x ∷ xs) p e none same =
    elim (bytes_eq (string_bytes x.path) p) as (λ b. (if b then Holds x.bytes.items else told xs p) ≡ NoFile → ((if b then Holds x.bytes.items else told (xs ++ e ∷ []) p) ≡ Holds e.bytes.items) × ((if b then false else is_file_of (xs ++ e ∷ []) p (length xs)) ≡ true)) [
      | true ↦ λ g. absurd (cc)
      | false ↦ λ g. push_same xs p e g same
    ] none

push_other : (es : List Entry) (q : List ℕ) (e : Entry) → string_bytes e.path ≢ q → told (es ++ e ∷ []) q ≡ told es q
unfolding told
push_other [] q e other = ap (λ b. if b then Holds e.bytes.items else NoFile) (unlike (string_bytes e.path) q other)
push_other (x ∷ xs) q e other = ap (λ t. if bytes_eq (string_bytes x.path) q then Holds x.bytes.items else t) (push_other xs q e other)

-- an entry is added for a path that had none
pub is_set_new : (es : List Entry) (p : List ℕ) (e : Entry) → told es p ≡ NoFile → string_bytes e.path ≡ p → IsSet es (es ++ e ∷ []) p e.bytes.items (length es)
is_set_new es p e none same =
    let here = push_same es p e none same in
    record {
      first = here.1;
      files = goes_by es (es ++ e ∷ []) p (λ t u. u ≡ Holds e.bytes.items) here.0 (λ q ne. push_other es q e (λ k. ne (sym k ∙ same)));
    }

-- a piece stands behind the path's bytes, or they are as they were
pub appends : {T E : Type 0} (es : List Entry) (p : List ℕ) (i : ℕ) (e d : Entry) (piece : List ℕ) (r : Result T E) → is_file_of es p i ≡ true → string_bytes e.path ≡ string_bytes (get_or es i d).path
    → e.bytes.items ≡ (if is_ok r then (get_or es i d).bytes.items ++ piece else (get_or es i d).bytes.items) → OnOk r (Goes es (set es i e) p (λ t u. u ≡ appended t piece))
appends es p i e d piece (Ok u) h same held =
    let there = found es p i d h in
    let path : string_bytes e.path ≡ p = same ∙ there.2 in
    goes_by es (set es i e) p (λ t u. u ≡ appended t piece) (set_same es p i e h path ∙ ap Holds held ∙ sym (ap (λ t. appended t piece) there.0)) (λ q ne. set_other es p q i e h path ne)
appends es p i e d piece (Err f) h same held = tt

pub keeps : {T E : Type 0} (es : List Entry) (i : ℕ) (e d : Entry) (piece : List ℕ) (r : Result T E) → string_bytes e.path ≡ string_bytes (get_or es i d).path
    → e.bytes.items ≡ (if is_ok r then (get_or es i d).bytes.items ++ piece else (get_or es i d).bytes.items) → OnErr r ((q : List ℕ) → told (set es i e) q ≡ told es q)
keeps es i e d piece (Ok u) same held = tt
keeps es i e d piece (Err f) same held = λ q. set_alike es i e d same held q

-- what is open for reading or writing is the path's file
pub first_read : (es : List Entry) (p : List ℕ) (o : Place) (i at : ℕ) → o ≡ Reading i at → IsTrue (is_in_place es p o) → is_file_of es p i ≡ true
first_read es p o i at e h =
    let stands : IsTrue (is_in_place es p (Reading i at)) = subst (λ (o : Place). IsTrue (is_in_place es p o)) e h in
    elim (is_file_of es p i) as (λ b. (if b then reaches (told es p) at else false) ≡ true → b ≡ true) [ true ↦ λ g. refl | false ↦ λ g. g ] stands

pub first_written : (es : List Entry) (p : List ℕ) (o : Place) (i : ℕ) → o ≡ Writing i → IsTrue (is_in_place es p o) → is_file_of es p i ≡ true
first_written es p o i e h = subst (λ (o : Place). IsTrue (is_in_place es p o)) e h

pub read_in_file : (es : List Entry) (p : List ℕ) (o : Place) (i at : ℕ) (d : Entry) → o ≡ Reading i at → IsTrue (is_in_place es p o) → at ≤ length (get_or es i d).bytes.items
read_in_file es p o i at d e h =
    let stands : IsTrue (is_in_place es p (Reading i at)) = subst (λ (o : Place). IsTrue (is_in_place es p o)) e h in
    let reached : reaches (told es p) at ≡ true = elim (is_file_of es p i) as (λ b. (if b then reaches (told es p) at else false) ≡ true → reaches (told es p) at ≡ true) [ true ↦ λ g. g | false ↦ λ g. absurd (cc) ] stands in
    let there = (found es p i d (first_read es p o i at e h)).0 in
    leb-true at (length (get_or es i d).bytes.items) (subst (λ (t : Told). reaches t at ≡ true) there reached)

-- the place after n more bytes were read
pub reads_on : (es : List Entry) (p : List ℕ) (i at n : ℕ) (d : Entry) → is_file_of es p i ≡ true → at + n ≤ length (get_or es i d).bytes.items → IsTrue (is_in_place es p (Reading i (at + n)))
reads_on es p i at n d h le =
    let there = (found es p i d h).0 in
    ap (λ b. if b then reaches (told es p) (at + n) else false) h ∙ ap (λ t. reaches t (at + n)) there ∙ le-leb (at + n) (length (get_or es i d).bytes.items) le

pub reads_next : (es : List Entry) (p : List ℕ) (o : Place) (i at w n : ℕ) (buf : List ℕ) (d : Entry) → o ≡ Reading i at → is_file_of es p i ≡ true → NextBytes (Holds (get_or es i d).bytes.items) at n buf
    → elim (open_at o p w) as (λ _. Type 0) [ ClosedFile ↦ ⊥ | ReadingFile q t ↦ NextBytes (told es q) t n buf | WritingFile q t ↦ ⊥ ]
reads_next es p o i at w n buf d e h next =
    let there : NextBytes (told es p) at n buf = subst (λ (t : Told). NextBytes t at n buf) (sym (found es p i d h).0) next in
    subst (λ (o : Place). elim (open_at o p w) as (λ _. Type 0) [ ClosedFile ↦ ⊥ | ReadingFile q t ↦ NextBytes (told es q) t n buf | WritingFile q t ↦ ⊥ ]) (sym e) there

-- an open file stands at its first byte
pub starts_read : (es : List Entry) (p q : List ℕ) (i : ℕ) → q ≡ p → is_file_of es p i ≡ true → IsTrue (is_in_place es q (Reading i 0))
unfolding is_file_of
starts_read [] p q i e h = absurd (cc)
starts_read (x ∷ xs) p q i e h =
    let there = (found (x ∷ xs) p i x h).0 in
    subst (λ (r : List ℕ). IsTrue (is_in_place (x ∷ xs) r (Reading i 0))) (sym e)
    (ap (λ b. if b then reaches (told (x ∷ xs) p) 0 else false) h ∙ ap (λ t. reaches t 0) there ∙ le-leb 0 (length (get_or (x ∷ xs) i x).bytes.items) (omega arith))
