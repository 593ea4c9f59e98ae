-- Pieces that were written one after another are the text.
use Rattle.std.proofs.Common.{◌≡◌, ◌≢◌, ◌⊎◌, ℕ, List, [], ◌++◌, refl, sym, subst, take, drop, length, arith, ap, ◌∙◌, inl, inr, length-append, append_assoc, Ok, Err, Result}
use Rattle.std.proofs.lemmas.List.{length-take-le, append-nil, take-append-drop}
use Rattle.lvs_outside.proofs.Empty.{appended-nothing, forward_none}
use Rattle.lvs_outside.proofs.Rest.{forward_twice}
use Rattle.lvs_outside.specs.Store.{Store, Told, Untold, NoFile, Holds, Open, Closed, Reading, Writing, Forward, path_of, appended, SameFiles, ChangesOne, Writes, Started, StartsWrite, Finishes, IsEmptied, counted}
use Rattle.lvs_outside.specs.Summary.{SinkState, Takes}
use Rattle.lvs_outside.specs.Loops.{Appended, AppendsWhole, Sent, IsFile, HoldsNow, WritesFile}

-- one file goes by two steps
pub changes_then : (a b c : Store) (path : List ℕ) (s t u : Told → Told → Type 0) → ((x y z : Told) → s x y → t y z → u x z) → ChangesOne a b path s → ChangesOne b c path t → ChangesOne a c path u
changes_then a b c path s t u joined h k = record {
  each = λ p. elim (h.each p) [
    | inl e ↦ elim (k.each p) [ inl f ↦ inl (e.0, joined (a.file p) (b.file p) (c.file p) e.1 f.1) | inr f ↦ absurd (f.0 e.0) ]
    | inr e ↦ elim (k.each p) [ inl f ↦ absurd (e.0 f.0) | inr f ↦ inr (e.0, f.1 ∙ e.1) ]
  ];
}

-- one file goes by a step, and then all stay
pub changes_stay : (a b c : Store) (path : List ℕ) (s : Told → Told → Type 0) → ChangesOne a b path s → SameFiles b c → ChangesOne a c path s
changes_stay a b c path s h k = record {
  each = λ p. elim (h.each p) [ inl e ↦ inl (e.0, subst (λ (v : Told). s (a.file p) v) (sym (k p)) e.1) | inr e ↦ inr (e.0, k p ∙ e.1) ];
}

appended_twice : (t : Told) (xs ys : List ℕ) → appended (appended t xs) ys ≡ appended t (xs ++ ys)
appended_twice Untold xs ys = refl
appended_twice NoFile xs ys = refl
appended_twice (Holds bytes) xs ys = ap Holds (append_assoc bytes xs ys)

path-forward : (o : Open) (k : ℕ) → path_of (Forward o k) ≡ path_of o
path-forward Closed k = refl
path-forward (Reading p t) k = refl
path-forward (Writing p t) k = refl

-- the text's front was written, and this rest wasn't yet
pub record SoFar (old new : Store) (text rest : List ℕ) : Type 0 where
  pub front : List ℕ
  pub whole : front ++ rest ≡ text
  pub appended : Appended old new front
  pub faults : new.faults ≡ old.faults

appended_more : (old mid new : Store) (xs ys : List ℕ) → Appended old mid xs → Appended mid new ys → Appended old new (xs ++ ys)
appended_more old mid new xs ys h k =
    let path : path_of mid.opened ≡ path_of old.opened = ap path_of h.opened ∙ path-forward old.opened (length xs) in
    let there : ChangesOne mid new (path_of old.opened) (λ t u. u ≡ appended t ys) = subst (λ (p : List ℕ). ChangesOne mid new p (λ t u. u ≡ appended t ys)) path k.file in
    record {
      file = changes_then old mid new _ (λ t u. u ≡ appended t xs) (λ t u. u ≡ appended t ys) (λ t u. u ≡ appended t (xs ++ ys)) (λ x y z e f. f ∙ ap (λ v. appended v ys) e ∙ appended_twice x xs ys) h.file there;
      opened = k.opened ∙ ap (λ o. Forward o (length ys)) h.opened ∙ forward_twice old.opened (length xs) (length ys) ∙ ap (Forward old.opened) (sym (length-append xs ys));
      absent = k.absent ∙ h.absent;
      last_absent = k.last_absent ∙ h.last_absent;
      write_calls = let first = h.write_calls in let second = k.write_calls in omega arith;
      left_open = k.left_open ∙ h.left_open;
      empty_takes = k.empty_takes ∙ h.empty_takes;
    }

cut_whole : (front rest text : List ℕ) (n : ℕ) → front ++ rest ≡ text → (front ++ take n rest) ++ drop n rest ≡ text
cut_whole front rest text n e = append_assoc front (take n rest) (drop n rest) ∙ ap (λ xs. front ++ xs) (take-append-drop n rest) ∙ e

pub starts : (s : Store) (path text : List ℕ) → ((p : List ℕ) → (p ≡ path) ⊎ (p ≢ path)) → path ≡ path_of s.opened → SoFar s s text text
starts s path text same e = record {
  front = [];
  whole = refl;
  appended = record {
    file = record { each = λ p. elim (same p) [ inl h ↦ inl (h ∙ e, sym (appended-nothing (s.file p))) | inr h ↦ inr ((λ k. h (k ∙ sym e)), refl) ] };
    opened = sym (forward_none s.opened);
    absent = refl;
    last_absent = refl;
    write_calls = omega arith;
    left_open = refl;
    empty_takes = refl;
  };
  faults = refl;
}

pub goes_on : {E : Type 0} (old mid new : Store) (text rest : List ℕ) (n : ℕ) → SoFar old mid text rest → mid.empty_takes ≡ new.empty_takes → Writes {E = E} mid new rest (Ok n) → SoFar old new text (drop n rest)
goes_on old mid new text rest n h empty w = record {
  front = h.front ++ take n rest;
  whole = cut_whole h.front rest text n h.whole;
  appended = appended_more old mid new h.front (take n rest) h.appended record {
    file = w.ok.file;
    opened = w.ok.opened ∙ ap (Forward mid.opened) (sym (length-take-le n rest w.ok.fits));
    absent = w.absent;
    last_absent = w.last_absent;
    write_calls = let more = w.write_calls in omega arith;
    left_open = w.left_open;
    empty_takes = sym empty;
  };
  faults = w.cause.done ∙ h.faults;
}

-- the same of a sink
pub record SentSoFar (old new : SinkState) (text rest : List ℕ) : Type 0 where
  pub front : List ℕ
  pub whole : front ++ rest ≡ text
  pub sent : Sent old new front
  pub faults : new.faults ≡ old.faults

pub sending_starts : (s : SinkState) (text : List ℕ) → SentSoFar s s text text
sending_starts s text = record {
  front = [];
  whole = refl;
  sent = record { told = sym (appended-nothing s.told); write_calls = omega arith; empty_takes = refl };
  faults = refl;
}

pub sending_goes_on : {E : Type 0} (old mid new : SinkState) (text rest : List ℕ) (n : ℕ) → SentSoFar old mid text rest → mid.empty_takes ≡ new.empty_takes → Takes {E = E} mid new rest (Ok n) → SentSoFar old new text (drop n rest)
sending_goes_on old mid new text rest n h empty w = record {
  front = h.front ++ take n rest;
  whole = cut_whole h.front rest text n h.whole;
  sent = record {
    told = w.ok.told ∙ ap (λ v. appended v (take n rest)) h.sent.told ∙ appended_twice old.told h.front (take n rest);
    write_calls = let first = h.sent.write_calls in let second = w.write_calls in omega arith;
    empty_takes = sym empty ∙ h.sent.empty_takes;
  };
  faults = w.cause.done ∙ h.faults;
}

emptied_then : (t u v : Told) (xs : List ℕ) → IsEmptied t u → v ≡ appended u xs → IsFile xs v
emptied_then t Untold v xs e h = subst (IsFile xs) (sym h) tt
emptied_then t NoFile v xs e h = absurd e
emptied_then t (Holds bytes) v xs e h = let all : bytes ++ xs ≡ xs = ap (λ ys. ys ++ xs) e in subst (IsFile xs) (sym h) all

-- a started file with a text behind is that text
started_then : (a b c : Store) (path xs : List ℕ) → Started a b path → Appended b c xs → HoldsNow a c path xs
started_then a b c path xs h k =
    let there : ChangesOne b c path (λ t u. u ≡ appended t xs) = subst (λ (o : Open). ChangesOne b c (path_of o) (λ t u. u ≡ appended t xs)) h.opened k.file in
    changes_then a b c path IsEmptied (λ t u. u ≡ appended t xs) (λ t u. IsFile xs u) (λ x y z e f. emptied_then x y z xs e f) h.file there

started_counted : (a b : Store) (path : List ℕ) → Started a b path → Started (counted a) (counted b) path
started_counted a b path h = record { file = record { each = h.file.each }; opened = h.opened; left_open = h.left_open }

-- all was written, and the file was finished or not
pub finished : {E : Type 0} (a b c d : Store) (path text : List ℕ) (result : Result (Unit {0}) E) → StartsWrite {E = E} a b path (Ok tt) → AppendsWhole {E = E} (counted b) (counted c) text (Ok tt) → Finishes {E = E} c d result → WritesFile {E = E} (counted a) (counted d) path text result
finished {E} a b c d path text (Ok u) h k f = record {
  ok = record {
    file = changes_stay (counted a) (counted c) (counted d) path (λ t u. IsFile text u) (started_then (counted a) (counted b) (counted c) path text (started_counted a b path h.ok) k.ok) f.files;
    opened = f.ok.opened;
    left_open = let one = h.ok.left_open in let same = k.ok.left_open in let less = f.ok.left_open in omega arith;
  };
  err = tt;
  absent = f.absent ∙ k.ok.absent ∙ h.absent;
  last_absent = f.last_absent ∙ k.ok.last_absent ∙ h.last_absent;
  write_calls = let one = h.write_calls in let more = k.ok.write_calls in let same = f.write_calls in omega arith;
  empty_takes = refl;
  cause = record { failed = tt; done = let first = h.cause.done in let second = k.cause.done in let third = f.cause.done in let e = h.empty_takes in let i = f.empty_takes in omega arith };
}
finished {E} a b c d path text (Err e) h k f = record {
  ok = tt;
  err = inr record {
    file = record { front = text; behind = []; whole = append-nil text; holds = changes_stay (counted a) (counted c) (counted d) path (λ t u. IsFile text u) (started_then (counted a) (counted b) (counted c) path text (started_counted a b path h.ok) k.ok) f.files };
    left_open = f.err.left_open ∙ k.ok.left_open ∙ h.ok.left_open;
  };
  absent = f.absent ∙ k.ok.absent ∙ h.absent;
  last_absent = f.last_absent ∙ k.ok.last_absent ∙ h.last_absent;
  write_calls = let one = h.write_calls in let more = k.ok.write_calls in let same = f.write_calls in omega arith;
  empty_takes = refl;
  cause = record { failed = let first = h.cause.done in let second = k.cause.done in let third = f.cause.failed in let e = h.empty_takes in let i = f.empty_takes in omega arith; done = tt };
}
