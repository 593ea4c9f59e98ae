-- Bytes that were read one after another are the next bytes of the file.
use Rattle.std.proofs.Common.{◌≡◌, ◌+◌, ◌≤◌, Ok, ℕ, List, [], ◌++◌, refl, sym, subst, take, drop, length, arith, ap, ◌∙◌, length-append}
use Rattle.std.proofs.lemmas.List.{length-take-le, length-drop, drop-drop}
use Rattle.std.proofs.Math.Seq.{take-add, take-length}
use Rattle.lvs_outside.proofs.Empty.{forward_none}
use Rattle.lvs_outside.specs.Store.{Store, Told, Untold, NoFile, Holds, Open, Closed, Reading, Writing, NextBytes, Forward, SameRest, ReadBytes}
use Rattle.lvs_outside.specs.Loops.{IsNext, IsRest, Follows, ReadsRest, limit}

next_step : (t : Told) (at n : ℕ) (xs buf : List ℕ) → n ≤ length buf → IsNext xs t at → NextBytes t (at + length xs) n buf → IsNext (xs ++ take n buf) t at
next_step Untold at n xs buf le had next = tt
next_step NoFile at n xs buf le had next = tt
next_step (Holds all) at n xs buf le had next =
    let size : length (xs ++ take n buf) ≡ length xs + n = length-append xs (take n buf) ∙ ap (λ k. length xs + k) (length-take-le n buf le) in
    let cut : take n buf ≡ take n (drop (length xs) (drop at all)) = next.0 ∙ ap (take n) (sym (drop-drop (length xs) at all)) in
    let joined : xs ++ take n buf ≡ take (length xs + n) (drop at all) = ap (λ ys. ys ++ take n buf) had ∙ ap (λ ys. take (length xs) (drop at all) ++ ys) cut ∙ sym (take-add (length xs) n (drop at all)) in
    joined ∙ ap (λ k. take k (drop at all)) (sym size)

step_at : (o m : Open) (f g : List ℕ → Told) (n : ℕ) (xs buf : List ℕ) → ((p : List ℕ) → g p ≡ f p) → m ≡ Forward o (length xs) → n ≤ length buf
    → elim o as (λ _. Type 0) [ Closed ↦ Unit {0} | Reading p t ↦ IsNext xs (f p) t | Writing p t ↦ Unit {0} ]
    → elim m as (λ _. Type 0) [ Closed ↦ ⊥ | Reading p t ↦ NextBytes (g p) t n buf | Writing p t ↦ ⊥ ]
    → elim o as (λ _. Type 0) [ Closed ↦ Unit {0} | Reading p t ↦ IsNext (xs ++ take n buf) (f p) t | Writing p t ↦ Unit {0} ]
step_at Closed m f g n xs buf same e le had next = tt
step_at (Writing p t) m f g n xs buf same e le had next = tt
step_at (Reading p t) m f g n xs buf same e le had next =
    let moved = subst (λ (o : Open). elim o as (λ _. Type 0) [ Closed ↦ ⊥ | Reading p t ↦ NextBytes (g p) t n buf | Writing p t ↦ ⊥ ]) e next in
    next_step (f p) t n xs buf le had (subst (λ (u : Told). NextBytes u (t + length xs) n buf) (same p) moved)

pub forward_twice : (o : Open) (a b : ℕ) → Forward (Forward o a) b ≡ Forward o (a + b)
forward_twice Closed a b = refl
forward_twice (Reading p t) a b = let e : t + a + b ≡ t + (a + b) = omega arith in ap (Reading p) e
forward_twice (Writing p t) a b = let e : t + a + b ≡ t + (a + b) = omega arith in ap (Writing p) e

-- what stays in two steps stays in both together
pub rest_on : (a b c : Store) → SameRest a b → SameRest b c → SameRest a c
rest_on a b c h k = record {
  files = λ p. k.files p ∙ h.files p;
  absent = k.absent ∙ h.absent;
  last_absent = k.last_absent ∙ h.last_absent;
  write_calls = k.write_calls ∙ h.write_calls;
  left_open = k.left_open ∙ h.left_open;
  empty_takes = k.empty_takes ∙ h.empty_takes;
}

pub follows_step : (old mid new : Store) (n : ℕ) (xs before buf : List ℕ) → Follows old mid xs → ReadBytes mid new before buf n → SameRest mid new → new.faults ≡ mid.faults → Follows old new (xs ++ take n buf)
follows_step old mid new n xs before buf had read rest faults =
    let size : length (xs ++ take n buf) ≡ length xs + n = length-append xs (take n buf) ∙ ap (λ k. length xs + k) (length-take-le n buf read.fits) in
    record {
      next = step_at old.opened mid.opened old.file mid.file n xs buf had.rest.files had.opened read.fits had.next read.bytes;
      opened = read.opened ∙ ap (λ o. Forward o n) had.opened ∙ forward_twice old.opened (length xs) n ∙ ap (Forward old.opened) (sym size);
      rest = rest_on old mid new had.rest rest;
      faults = faults ∙ had.faults;
    }

next_none : (o : Open) (f : List ℕ → Told) → elim o as (λ _. Type 0) [ Closed ↦ Unit {0} | Reading p t ↦ IsNext [] (f p) t | Writing p t ↦ Unit {0} ]
next_none Closed f = tt
next_none (Writing p t) f = tt
next_none (Reading p t) f = elim (f p) as (λ u. IsNext [] u t) [ Untold ↦ tt | NoFile ↦ tt | Holds all ↦ refl ]

pub follows_none : (s : Store) (xs : List ℕ) → xs ≡ [] → Follows s s xs
follows_none s xs e =
    let start : Follows s s [] = record {
      next = next_none s.opened s.file;
      opened = sym (forward_none s.opened);
      rest = record { files = λ p. refl; absent = refl; last_absent = refl; write_calls = refl; left_open = refl; empty_takes = refl };
      faults = refl;
    } in
    subst (Follows s s) (sym e) start

rest_all : (t : Told) (at : ℕ) (xs buf : List ℕ) → IsNext xs t at → NextBytes t (at + length xs) 0 buf → IsRest xs t at
rest_all Untold at xs buf had end = tt
rest_all NoFile at xs buf had end = tt
rest_all (Holds all) at xs buf had end =
    let whole : at + length xs ≡ length all = end.2 refl in
    let left = length-drop at all in
    let size : length xs ≡ length (drop at all) = omega arith in
    had ∙ ap (λ k. take k (drop at all)) size ∙ take-length (drop at all)

rest_at : (o m : Open) (f g : List ℕ → Told) (xs buf : List ℕ) → ((p : List ℕ) → g p ≡ f p) → m ≡ Forward o (length xs)
    → elim o as (λ _. Type 0) [ Closed ↦ Unit {0} | Reading p t ↦ IsNext xs (f p) t | Writing p t ↦ Unit {0} ]
    → elim m as (λ _. Type 0) [ Closed ↦ ⊥ | Reading p t ↦ NextBytes (g p) t 0 buf | Writing p t ↦ ⊥ ]
    → elim o as (λ _. Type 0) [ Closed ↦ Unit {0} | Reading p t ↦ IsRest xs (f p) t | Writing p t ↦ Unit {0} ]
rest_at Closed m f g xs buf same e had end = tt
rest_at (Writing p t) m f g xs buf same e had end = tt
rest_at (Reading p t) m f g xs buf same e had end =
    let moved = subst (λ (o : Open). elim o as (λ _. Type 0) [ Closed ↦ ⊥ | Reading p t ↦ NextBytes (g p) t 0 buf | Writing p t ↦ ⊥ ]) e end in
    rest_all (f p) t xs buf had (subst (λ (u : Told). NextBytes u (t + length xs) 0 buf) (same p) moved)

-- a read that found the end: all was read
pub read_whole : (old mid new : Store) (n : ℕ) (xs before buf : List ℕ) → n ≡ 0 → Follows old mid xs → ReadBytes mid new before buf n → SameRest mid new → new.faults ≡ mid.faults → length xs ≤ limit → ReadsRest old new xs (Ok tt)
read_whole old mid new n xs before buf none had some rest faults fits =
    let read = subst (ReadBytes mid new before buf) none some in record {
      answer = record {
        told = rest_at old.opened mid.opened old.file mid.file xs buf had.rest.files had.opened had.next read.bytes;
        fits = fits;
        opened = read.opened ∙ forward_none mid.opened ∙ had.opened;
        faults = faults ∙ had.faults;
      };
      next = had.next;
      rest = rest_on old mid new had.rest rest;
    }
