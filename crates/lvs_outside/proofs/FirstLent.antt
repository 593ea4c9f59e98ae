-- The first entry with a path is the file that was lent for it.
use Rattle.std.proofs.Common.{◌≡◌, ◌≢◌, ◌<◌, ◌+◌, ℕ, zero, suc, List, [], ◌∷◌, ◌++◌, sym, subst, ap, ◌∙◌, true, false, get_or, length, arith, drop, if◌then◌else◌, Option, Some, None, MatchOption, inr}
use Rattle.std.specs.Borrow.{Bor}
use Rattle.std.proofs.Math.ListN.{set}
use Rattle.std.proofs.Math.Seq.{drop-cons, drop-length}
use Rattle.std.specs.Str.{bytes_eq}
use Rattle.std.proofs.lemmas.Slice.Eq.{bytes_eq-Decides}
use Rattle.lvs_outside.specs.Store.{Told, Holds}
use Rattle.lvs_outside.specs.LentFiles.{told_bytes, told_or, is_first, IsUnheld}
use Rattle.lvs_outside.specs.declared.lent.Lent.{Lent}
use Rattle.lvs_outside.proofs.FirstEntry.{alike, unlike}

abbrev pub no_lent : Lent
no_lent = record { path = record { ref_ptr = (0, 0); now = [] }; bytes = None }

-- an entry that is the first with a path is told
pub found : (es : List Lent) (p : List ℕ) (i : ℕ) (d : Lent) → is_first es p i ≡ true → ((other : Told) → told_or es other p ≡ told_bytes (get_or es i d).bytes) × (i < length es) × ((get_or es i d).path.now ≡ p)
unfolding told_or is_first
found [] p i d h = cc
found (e ∷ es) p zero d h =
    (λ other. ap (λ b. if b then told_bytes e.bytes else told_or es other p) h, omega arith, (bytes_eq-Decides e.path.now p).0 h)
found (e ∷ es) p (suc i) d h =
    elim (bytes_eq e.path.now p) as (λ b. (if b then false else is_first es p i) ≡ true → ((other : Told) → (if b then told_bytes e.bytes else told_or es other p) ≡ told_bytes (get_or es i d).bytes) × (suc i < length (e ∷ es)) × ((get_or es i d).path.now ≡ p)) [
      | true ↦ λ g. cc
      | false ↦ λ g. let rest = found es p i d g in (rest.0, (let lt : i < length es = rest.1 in omega arith), rest.2)
    ] h

pub in_range : (es : List Lent) (p : List ℕ) (i : ℕ) → is_first es p i ≡ true → i < length es
unfolding is_first
in_range [] p i h = cc
in_range (e ∷ es) p i h = (found (e ∷ es) p i e h).1

-- the path of its first entry stays in an entry that takes its place
pub path_there : (es : List Lent) (p : List ℕ) (i : ℕ) (d e : Lent) → is_first es p i ≡ true → e ≡ get_or es i d → e.path.now ≡ p
path_there es p i d e h same = ap (λ (e : Lent). e.path.now) same ∙ (found es p i d h).2

-- the path's bytes, where its first entry has them
pub lent_or_not : (es : List Lent) (other : Told) (p : List ℕ) (i : ℕ) → is_first es p i ≡ true → MatchOption (get_or es i no_lent).bytes (IsUnheld es other p) (λ b. told_or es other p ≡ Holds b.now)
lent_or_not es other p i h = told_as (get_or es i no_lent).bytes ((found es p i no_lent h).0 other)
  where
    told_as : (bytes : Option (Bor (List ℕ))) → told_or es other p ≡ told_bytes bytes → MatchOption bytes (IsUnheld es other p) (λ b. told_or es other p ≡ Holds b.now)
    told_as (Some b) e = e
    told_as None e = inr e

-- the first i entries have other paths
pub record Skips (es : List Lent) (p : List ℕ) (i : ℕ) : Type 0 where
  pub none : (other : Told) → told_or es other p ≡ told_or (drop i es) other p
  pub numbers : (k : ℕ) → is_first es p (i + k) ≡ is_first (drop i es) p k

pub skips_more : (es : List Lent) (p : List ℕ) (i : ℕ) (d : Lent) → i < length es → bytes_eq (get_or es i d).path.now p ≡ false → Skips es p i → Skips es p (i + 1)
unfolding told_or is_first
skips_more es p i d lt differs h =
    let cut : drop i es ≡ get_or es i d ∷ drop (suc i) es = drop-cons es i d lt in
    let at : suc i ≡ i + 1 = omega arith in
    subst (λ n. Skips es p n) at record {
      none = λ other. h.none other ∙ ap (λ xs. told_or xs other p) cut ∙ ap (λ b. if b then told_bytes (get_or es i d).bytes else told_or (drop (suc i) es) other p) differs;
      numbers = λ k.
          let number : suc i + k ≡ i + suc k = omega arith in
          ap (is_first es p) number ∙ h.numbers (suc k) ∙ ap (λ xs. is_first xs p (suc k)) cut ∙ ap (λ b. if b then false else is_first (drop (suc i) es) p k) differs;
    }

pub skips_to : (es : List Lent) (p : List ℕ) (i : ℕ) (d : Lent) → i < length es → bytes_eq (get_or es i d).path.now p ≡ true → Skips es p i → is_first es p i ≡ true
unfolding is_first
skips_to es p i d lt same h =
    let cut : drop i es ≡ get_or es i d ∷ drop (suc i) es = drop-cons es i d lt in
    let number : i ≡ i + 0 = omega arith in
    ap (is_first es p) number ∙ h.numbers 0 ∙ ap (λ xs. is_first xs p 0) cut ∙ same

pub skips_all : (es : List Lent) (p : List ℕ) → Skips es p (length es) → (other : Told) → told_or es other p ≡ other
unfolding told_or
skips_all es p h other = h.none other ∙ ap (λ xs. told_or xs other p) (drop-length es)

-- an entry with the same path takes the place of the old one
pub set_here : (es : List Lent) (p : List ℕ) (i : ℕ) (e : Lent) → is_first es p i ≡ true → e.path.now ≡ p → (other : Told) → told_or (set es i e) other p ≡ told_bytes e.bytes
unfolding told_or is_first
set_here [] p i e h same other = cc
set_here (x ∷ xs) p zero e h same other = ap (λ b. if b then told_bytes e.bytes else told_or xs other p) (alike e.path.now p same)
set_here (x ∷ xs) p (suc i) e h same other =
    elim (bytes_eq x.path.now p) as (λ b. (if b then false else is_first xs p i) ≡ true → (if b then told_bytes x.bytes else told_or (set xs i e) other p) ≡ told_bytes e.bytes) [
      | true ↦ λ g. cc
      | false ↦ λ g. set_here xs p i e g same other
    ] h

pub set_others : (es : List Lent) (p : List ℕ) (i : ℕ) (e : Lent) → is_first es p i ≡ true → e.path.now ≡ p → (other : Told) (q : List ℕ) → q ≢ p → told_or (set es i e) other q ≡ told_or es other q
unfolding told_or is_first
set_others [] p i e h same other q ne = cc
set_others (x ∷ xs) p zero e h same other q ne =
    let here : bytes_eq e.path.now q ≡ false = unlike e.path.now q (λ k. ne (sym k ∙ same)) in
    let there : bytes_eq x.path.now q ≡ false = unlike x.path.now q (λ k. ne (sym k ∙ (bytes_eq-Decides x.path.now p).0 h)) in
    ap (λ b. if b then told_bytes e.bytes else told_or xs other q) here ∙ sym (ap (λ b. if b then told_bytes x.bytes else told_or xs other q) there)
set_others (x ∷ xs) p (suc i) e h same other q ne =
    elim (bytes_eq x.path.now p) as (λ b. (if b then false else is_first xs p i) ≡ true → told_or (x ∷ set xs i e) other q ≡ told_or (x ∷ xs) other q) [
      | true ↦ λ g. cc
      | false ↦ λ g. ap (λ t. if bytes_eq x.path.now q then told_bytes x.bytes else t) (set_others xs p i e g same other q ne)
    ] h

-- an entry is added for a path that had none
pub pushed : (es : List Lent) (p : List ℕ) (e : Lent) → e.path.now ≡ p → (other : Told) → told_or (es ++ e ∷ []) other p ≡ told_or es (told_bytes e.bytes) p
unfolding told_or
pushed [] p e same other = ap (λ b. if b then told_bytes e.bytes else other) (alike e.path.now p same)
pushed (x ∷ xs) p e same other = ap (λ t. if bytes_eq x.path.now p then told_bytes x.bytes else t) (pushed xs p e same other)

pub push_others : (es : List Lent) (p : List ℕ) (e : Lent) → e.path.now ≡ p → (other : Told) (q : List ℕ) → q ≢ p → told_or (es ++ e ∷ []) other q ≡ told_or es other q
unfolding told_or
push_others [] p e same other q ne = ap (λ b. if b then told_bytes e.bytes else other) (unlike e.path.now q (λ k. ne (sym k ∙ same)))
push_others (x ∷ xs) p e same other q ne = ap (λ t. if bytes_eq x.path.now q then told_bytes x.bytes else t) (push_others xs p e same other q ne)
