-- One file after the other.
use Rattle.std.proofs.Common.{◌≡◌, ◌≢◌, ◌⊎◌, inl, inr, ◌<◌, ◌+◌, ◌-◌, ℕ, List, [], ◌∷◌, ◌++◌, ◌≤◌, length, take, drop, get_or, map, string_bytes, is_err, true, false, Result, Ok, Err, refl, sym, ap, subst, ◌∙◌, append_assoc, append-nil, arith}
use Rattle.lvs_outside.specs.Store.{Store, HasRoom, counted}
use Rattle.lvs_outside.specs.Loops.{ForPrefix, HoldsNow, IsFile, WritesFile}
use Rattle.std.proofs.lemmas.List.{take_all}
use Rattle.lvs_outside.specs.declared.files.Written.{Written}
use Rattle.lvs_outside.specs.Files.{file_of, files_of, File, IsApart, AreApart, IsWritten, AreWritten, WroteWhole, WrotePart}

far : (whole later : List File) (f : File) (path : List ℕ) → IsApart path (whole ++ f ∷ later) → path ≢ f.path
far [] later f path h = h.0
far (g ∷ gs) later f path h = far gs later f path h.1

-- the file of one path is this text now, and each other is as before
abbrev Changes : File → Store → Store → List ℕ → Type 0
Changes f mid new p = ((p ≡ f.path) × IsFile f.text (new.file p)) ⊎ ((p ≢ f.path) × (new.file p ≡ mid.file p))

one_on : (whole later : List File) (f g : File) (old mid new : Store) (p : List ℕ) → g.path ≡ f.path → AreApart (whole ++ f ∷ later) → IsWritten whole old mid p → Changes g mid new p
    → IsWritten (whole ++ g ∷ []) old new p
one_on [] later f g old mid new p same apart h (inl c) = inl c
one_on [] later f g old mid new p same apart h (inr c) = inr (c.0, c.1 ∙ h)
one_on (w ∷ ws) later f g old mid new p same apart (inl h) (inl c) = absurd (far ws later f w.path apart.0 (sym h.0 ∙ (c.0 ∙ same)))
one_on (w ∷ ws) later f g old mid new p same apart (inl h) (inr c) = inl (h.0, subst (IsFile w.text) (sym c.1) h.1)
one_on (w ∷ ws) later f g old mid new p same apart (inr h) c = inr (h.0, one_on ws later f g old mid new p same apart.1 h.1 c)

written_on : (whole later : List File) (f g : File) (old mid new : Store) → g.path ≡ f.path → AreApart (whole ++ f ∷ later) → AreWritten old mid whole → HoldsNow mid new g.path g.text
    → AreWritten old new (whole ++ g ∷ [])
written_on whole later f g old mid new same apart h k = record { each = λ p. one_on whole later f g old mid new p same apart (h.each p) (k.each p) }

stays : (whole : List File) (old mid new : Store) (p : List ℕ) → new.file p ≡ mid.file p → IsWritten whole old mid p → IsWritten whole old new p
stays [] old mid new p e h = e ∙ h
stays (w ∷ ws) old mid new p e (inl h) = inl (h.0, subst (IsFile w.text) (sym e) h.1)
stays (w ∷ ws) old mid new p e (inr h) = inr (h.0, stays ws old mid new p e h.1)

-- files were written, and those come next
pub record Progress (old now : Store) (rest all : List File) : Type 0 where
  pub whole : List File
  pub order : whole ++ rest ≡ all
  pub wrote : WroteWhole old now whole

pub begins : (s : Store) (all : List File) → Progress s s all all
begins s all = record { whole = []; order = refl; wrote = record { written = record { each = λ p. refl }; closed = inl refl; absent = refl; left_open = refl; faults = refl } }

pub room_on : (old now : Store) (rest all : List File) → HasRoom old → Progress old now rest all → HasRoom now
room_on old now rest all room h =
    let faults : now.faults + now.empty_takes ≡ old.faults + old.empty_takes = h.wrote.faults in
    let absent = h.wrote.absent in omega (arith, faults, absent)

goes_on : {E : Type 0} (old mid new : Store) (f : File) (later all : List File) (r : Result (Unit {0}) E) → AreApart all → Progress old mid (f ∷ later) all → is_err r ≡ false
    → WritesFile (counted mid) (counted new) f.path f.text r → Progress old new later all
goes_on old mid new f later all (Err e) apart h is k = let no : true ≡ false = is in cc
goes_on old mid new f later all (Ok u) apart h is k =
    let near = subst AreApart (sym h.order) apart in
    record {
      whole = h.whole ++ f ∷ [];
      order = append_assoc h.whole (f ∷ []) later ∙ h.order;
      wrote = record {
        written = written_on h.whole later f f old mid new refl near h.wrote.written (record { each = k.ok.file.each });
        closed = inr k.ok.opened;
        absent = k.absent ∙ h.wrote.absent;
        left_open = k.ok.left_open ∙ h.wrote.left_open;
        faults = k.cause.done ∙ h.wrote.faults;
      };
    }

broken_off : {E : Type 0} (old mid new : Store) (f : File) (later all : List File) (e : E) → AreApart all → (h : Progress old mid (f ∷ later) all) → WritesFile (counted mid) (counted new) f.path f.text (Err e)
    → AreWritten old new h.whole ⊎ ForPrefix f.text (λ front. AreWritten old new (h.whole ++ record { path = f.path; text = front } ∷ []))
broken_off old mid new f later all e apart h k =
    elim k.err [
      | inl none ↦ inl (record { each = λ p. stays h.whole old mid new p (none.files p) (h.wrote.written.each p) })
      | inr part ↦
          let g : File = record { path = f.path; text = part.file.front } in
          inr (record {
            front = part.file.front;
            behind = part.file.behind;
            whole = part.file.whole;
            holds = written_on h.whole later f g old mid new refl (subst AreApart (sym h.order) apart) h.wrote.written (record { each = part.file.holds.each });
          })
    ]

breaks : {E : Type 0} (old mid new : Store) (f : File) (later all : List File) (r : Result (Unit {0}) E) → AreApart all → Progress old mid (f ∷ later) all → is_err r ≡ true
    → WritesFile (counted mid) (counted new) f.path f.text r → WrotePart old new all
breaks old mid new f later all (Ok u) apart h is k = let no : false ≡ true = is in cc
breaks old mid new f later all (Err e) apart h is k = record {
  written = record { whole = h.whole; broken = f; later = later; order = h.order; written = broken_off old mid new f later all e apart h k };
  faults = subst (λ (n : ℕ). n < (counted new).faults) h.wrote.faults k.cause.failed;
}

-- the first of the files, and those behind it
front_of : {A B : Type 0} → (f : A → B) (ws : List A) (w : A) → 1 ≤ length ws → w ≡ get_or ws 0 w → map f ws ≡ f w ∷ map f (take (length ws - 1) (drop 1 ws))
front_of f [] w some e = absurd (omega arith)
front_of {A} {B} f (x ∷ xs) w some e =
    let rest : take (length (x ∷ xs) - 1) xs ≡ xs = take_all (length (x ∷ xs) - 1) xs (omega arith) in
    ap (λ (y : A). f y ∷ map f xs) (sym e) ∙ ap (λ (ys : List A). f w ∷ map f ys) (sym rest)

named_so : (w : Written) (path text : List ℕ) → path ≡ string_bytes w.path → text ≡ w.text.items → file_of w ≡ record { path = path; text = text }
named_so w path text e f =
    ap (λ (p : List ℕ). let g : File = record { path = p; text = w.text.items } in g) (sym e)
    ∙ ap (λ (t : List ℕ). let g : File = record { path = path; text = t } in g) (sym f)

module _ {E : Type 0} (old mid new : Store) (ws : List Written) (w : Written) (all : List File) (path text : List ℕ) (r : Result (Unit {0}) E)
    (some : 1 ≤ length ws) (first : w ≡ get_or ws 0 w) (is_path : path ≡ string_bytes w.path) (is_text : text ≡ w.text.items)
    (apart : AreApart all) (had : Progress old mid (files_of ws) all) (wrote : WritesFile (counted mid) (counted new) path text r) where
  abbrev file : File
  file = record { path = path; text = text }

  abbrev later : List File
  later = files_of (take (length ws - 1) (drop 1 ws))

  in_front : Progress old mid (file ∷ later) all
  in_front = subst (λ (fs : List File). Progress old mid fs all) (front_of file_of ws w some first ∙ ap (λ (f : File). f ∷ later) (named_so w path text is_path is_text)) had

  pub one_more : is_err r ≡ false → Progress old new later all
  one_more is = goes_on old mid new file later all r apart in_front is wrote

  pub one_failed : is_err r ≡ true → WrotePart old new all
  one_failed is = breaks old mid new file later all r apart in_front is wrote

-- none is left
pub ends : (old new : Store) (all : List File) → Progress old new [] all → WroteWhole old new all
ends old new all h = subst (WroteWhole old new) (sym (append-nil h.whole) ∙ h.order) h.wrote
