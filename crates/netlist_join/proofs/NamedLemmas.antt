-- What lines name, and the files that are asked for.
use Rattle.std.proofs.Common.{◌≡◌, ◌<◌, ◌≤◌, ◌+◌, ℕ, zero, suc, Bool, true, false, List, [], ◌∷◌, ◌++◌, Option, Some, None, Result, Ok, Err, IfErr, length, refl, sym, ◌∙◌, ap, subst, append_assoc, arith, map, take, drop, ◌-◌, get_or}
use Rattle.std.proofs.lemmas.Bool.{and_from, and_parts, or_left, or_right}
use Rattle.std.proofs.lemmas.Slice.{first_rest}
use Rattle.std.proofs.lemmas.Slice.Eq.{bytes_eq-Decides}
use Rattle.std.proofs.lemmas.List.Elements.{All-nil, All-head, All-tail, All-weaker}
use Rattle.std.proofs.lemmas.List.{take_all}
use Rattle.std.proofs.lemmas.List.{append-nil, take_more, take-append-le}
use Rattle.std.proofs.lemmas.List.Folds.{list_any-append, list_all-append}
use Rattle.std.proofs.lemmas.Str.{IsUtf8-from_is_utf8, IsUtf8-string_bytes, is_utf8-from_IsUtf8}
use Rattle.std.specs.Prelude.{String, string_bytes, if◌then◌else◌, ◌||◌, ◌&&◌}
use Rattle.std.specs.List.{All, list_all, list_any}
use Rattle.std.specs.Option.{option_map, option_to_list}
use Rattle.std.specs.Str.{IsUtf8, bytes_eq, is_utf8}
use Rattle.lvs_outside.specs.Loops.{IsFile}
use Rattle.lvs_outside.specs.Store.{Store}
use Rattle.netlist_join.proofs.LoadedLemmas.{go_back, not_loaded}
use Rattle.netlist_join.specs.Failing.{IsAsked, NotRead, OnlyReads, SaysFailed}
use Rattle.netlist_join.specs.Loaded.{AreFiles, IsMore, has_path, has_twins, paths_of, with_path, with_paths}
use Rattle.netlist_join.specs.Named.{AreAsked, all_named, are_reached, asked, named}
use Rattle.netlist_join.specs.Paths.{text_of}
use Rattle.netlist_join.specs.declared.files.File.{File}
use Rattle.netlist_join.specs.declared.files.Failed.{Failed}

pub text_is : {Z : Type 0} (s : String Z) (bytes : List ℕ) → string_bytes s ≡ bytes → Some (string_bytes s) ≡ text_of bytes
text_is s bytes e =
    let u : is_utf8 bytes ≡ true = is_utf8-from_IsUtf8 bytes (subst (λ (b : List ℕ). IsUtf8 b) e (IsUtf8-string_bytes s)) in
    ap (λ (b : List ℕ). Some b) e ∙ sym (ap (λ (b : Bool). if b then Some bytes else None) u)

no_text_by : (bytes : List ℕ) (b : Bool) → is_utf8 bytes ≡ b → (IsUtf8 bytes → ⊥) → None ≡ (if b then Some bytes else None)
no_text_by bytes true e not = absurd (not (IsUtf8-from_is_utf8 bytes e))
no_text_by bytes false e not = refl

pub no_text : (bytes : List ℕ) → (IsUtf8 bytes → ⊥) → None ≡ text_of bytes
no_text bytes not = no_text_by bytes (is_utf8 bytes) refl not

pub same_bytes : (p : List ℕ) → bytes_eq p p ≡ true
same_bytes p = (bytes_eq-Decides p p).1 refl

pub bytes_same : (p q : List ℕ) → bytes_eq p q ≡ true → p ≡ q
bytes_same p q e = (bytes_eq-Decides p q).0 e

-- each of some paths is among them, and among more
pub has_more : (xs ys : List (List ℕ)) (p : List ℕ) → has_path ys p ≡ true → has_path (xs ++ ys) p ≡ true
has_more xs ys p e = list_any-append (λ (q : List ℕ). bytes_eq q p) xs ys ∙ or_right (has_path xs p) (has_path ys p) e

pub has_first : (xs ys : List (List ℕ)) (p : List ℕ) → has_path xs p ≡ true → has_path (xs ++ ys) p ≡ true
has_first xs ys p e = list_any-append (λ (q : List ℕ). bytes_eq q p) xs ys ∙ or_left (has_path xs p) (has_path ys p) e

-- paths that are among some are among as many or more
pub all_wider : (xs ys ps : List (List ℕ)) → ((p : List ℕ) → has_path xs p ≡ true → has_path ys p ≡ true) → list_all (λ p. has_path xs p) ps ≡ true → list_all (λ p. has_path ys p) ps ≡ true
all_wider xs ys [] wider e = refl
all_wider xs ys (p ∷ ps) wider e =
    let both = and_parts (has_path xs p) (list_all (λ p. has_path xs p) ps) e in
    and_from (has_path ys p) (list_all (λ p. has_path ys p) ps) (wider p both.0) (all_wider xs ys ps wider both.1)

pub all_there : (ps : List (List ℕ)) → list_all (λ p. has_path ps p) ps ≡ true
all_there [] = refl
all_there (p ∷ ps) =
    and_from (has_path (p ∷ ps) p) (list_all (λ q. has_path (p ∷ ps) q) ps) (or_left (bytes_eq p p) (has_path ps p) (same_bytes p))
    (all_wider ps (p ∷ ps) ps (λ q e. or_right (bytes_eq p q) (has_path ps q) e) (all_there ps))

either_has : (xs : List (List ℕ)) (p q : List ℕ) (b : Bool) → has_path xs q ≡ true → has_path (if b then xs else xs ++ p ∷ []) q ≡ true
either_has xs p q true e = e
either_has xs p q false e = has_first xs (p ∷ []) q e

pub stays_there : (xs ps : List (List ℕ)) (q : List ℕ) → has_path xs q ≡ true → has_path (with_paths xs ps) q ≡ true
stays_there xs [] q e = e
stays_there xs (p ∷ ps) q e = stays_there (with_path xs p) ps q (either_has xs p q (has_path xs p) e)

put_there : (xs : List (List ℕ)) (p : List ℕ) (b : Bool) → has_path xs p ≡ b → has_path (if b then xs else xs ++ p ∷ []) p ≡ true
put_there xs p true e = e
put_there xs p false e = has_more xs (p ∷ []) p (or_left (bytes_eq p p) false (same_bytes p))

-- paths that were added are there
pub all_put : (xs ps : List (List ℕ)) → list_all (λ p. has_path (with_paths xs ps) p) ps ≡ true
all_put xs [] = refl
all_put xs (p ∷ ps) =
    and_from (has_path (with_paths (with_path xs p) ps) p) (list_all (λ q. has_path (with_paths (with_path xs p) ps) q) ps)
    (stays_there (with_path xs p) ps p (put_there xs p (has_path xs p) refl)) (all_put (with_path xs p) ps)

-- and those that were there stay
pub all_stay : (xs ps qs : List (List ℕ)) → list_all (λ p. has_path xs p) qs ≡ true → list_all (λ p. has_path (with_paths xs ps) p) qs ≡ true
all_stay xs ps qs e = all_wider xs (with_paths xs ps) qs (λ q h. stays_there xs ps q h) e

-- what files name
pub named_more : (xs ys : List File) → all_named (xs ++ ys) ≡ all_named xs ++ all_named ys
named_more [] ys = refl
named_more (f ∷ xs) ys = ap (λ (ps : List (List ℕ)). named f ++ ps) (named_more xs ys) ∙ sym (append_assoc (named f) (all_named xs) (all_named ys))

pub asked_more : (inputs : List (List ℕ)) (xs ys : List File) (p : List ℕ) → has_path (asked inputs xs) p ≡ true → has_path (asked inputs (xs ++ ys)) p ≡ true
asked_more inputs xs ys p e =
    subst (λ (ps : List (List ℕ)). has_path ps p ≡ true) (append_assoc inputs (all_named xs) (all_named ys) ∙ ap (λ (ps : List (List ℕ)). inputs ++ ps) (sym (named_more xs ys)))
    (has_first (asked inputs xs) (all_named ys) p e)

-- files behind some that are asked for
reached_behind : (inputs : List (List ℕ)) (before between more : List File) → All (λ f. has_path (asked inputs before) (string_bytes f.path) ≡ true) more
    → are_reached inputs (before ++ between) more ≡ true
reached_behind inputs before between [] h = refl
reached_behind inputs before between (f ∷ more) h =
    and_from (has_path (asked inputs (before ++ between)) (string_bytes f.path)) (are_reached inputs ((before ++ between) ++ f ∷ []) more)
    (asked_more inputs before between (string_bytes f.path) (All-head (λ (g : File). has_path (asked inputs before) (string_bytes g.path) ≡ true) f more h))
    (subst (λ (fs : List File). are_reached inputs fs more ≡ true) (sym (append_assoc before between (f ∷ [])))
    (reached_behind inputs before (between ++ f ∷ []) more (All-tail (λ (g : File). has_path (asked inputs before) (string_bytes g.path) ≡ true) f more h)))

reached_both : (inputs : List (List ℕ)) (before xs more : List File) → are_reached inputs before xs ≡ true → are_reached inputs (before ++ xs) more ≡ true → are_reached inputs before (xs ++ more) ≡ true
reached_both inputs before [] more e g = subst (λ (fs : List File). are_reached inputs fs more ≡ true) (append-nil before) g
reached_both inputs before (f ∷ xs) more e g =
    let both = and_parts (has_path (asked inputs before) (string_bytes f.path)) (are_reached inputs (before ++ f ∷ []) xs) e in
    and_from (has_path (asked inputs before) (string_bytes f.path)) (are_reached inputs (before ++ f ∷ []) (xs ++ more)) both.0
    (reached_both inputs (before ++ f ∷ []) xs more both.1 (subst (λ (fs : List File). are_reached inputs fs more ≡ true) (sym (append_assoc before (f ∷ []) xs)) g))

-- some more are reached, as they are asked for
pub reached_more : (inputs : List (List ℕ)) (Is : List ℕ → Type 0) (old new : List File) → ((p : List ℕ) → Is p → has_path (asked inputs old) p ≡ true) → IsMore Is old new
    → are_reached inputs [] old ≡ true → are_reached inputs [] new ≡ true
reached_more inputs Is old new wider h e =
    subst (λ (fs : List File). are_reached inputs [] fs ≡ true) (sym h.whole)
    (reached_both inputs [] old h.more e
    (subst (λ (fs : List File). are_reached inputs fs h.more ≡ true) (append-nil old)
    (reached_behind inputs old [] h.more (All-weaker (λ (f : File). Is (string_bytes f.path)) (λ (f : File). has_path (asked inputs old) (string_bytes f.path) ≡ true) (λ f g. wider (string_bytes f.path) g) h.more h.each))))

-- what one of the files names is asked for
pub asked_by : (inputs : List (List ℕ)) (files : List File) (k : ℕ) (d : File) (p : List ℕ) → k < length files → has_path (named (get_or files k d)) p ≡ true → has_path (asked inputs files) p ≡ true
asked_by inputs [] k d p lt e = absurd (omega arith)
asked_by inputs (f ∷ files) zero d p lt e = has_more inputs (named f ++ all_named files) p (has_first (named f) (all_named files) p e)
asked_by inputs (f ∷ files) (suc k) d p lt e = has_more inputs (named f ++ all_named files) p (has_more (named f) (all_named files) p (asked_by [] files k d p (omega arith) e))

pub asked_input : (inputs : List (List ℕ)) (files : List File) (p : List ℕ) → has_path inputs p ≡ true → has_path (asked inputs files) p ≡ true
asked_input inputs files p e = has_first inputs (all_named files) p e

-- one file further, and files added
pub named_on : (Is : List ℕ → Type 0) (files after : List File) (k : ℕ) (d : File) → k < length files → IsMore Is files after → all_named (take (k + 1) after) ≡ all_named (take k files) ++ named (get_or files k d)
named_on Is files after k d lt h =
    let le : k + 1 ≤ length files = omega (arith, lt) in
    ap (λ (fs : List File). all_named (take (k + 1) fs)) h.whole ∙ ap all_named (take-append-le (k + 1) files h.more le) ∙ ap all_named (take_more files k d lt)
    ∙ named_more (take k files) (get_or files k d ∷ []) ∙ ap (λ (ps : List (List ℕ)). all_named (take k files) ++ ps) (append-nil (named (get_or files k d)))

pub there_on : (Is : List ℕ → Type 0) (files after : List File) (k : ℕ) (d : File) → k < length files → IsMore Is files after → paths_of after ≡ with_paths (paths_of files) (named (get_or files k d))
    → list_all (λ p. has_path (paths_of files) p) (all_named (take k files)) ≡ true → list_all (λ p. has_path (paths_of after) p) (all_named (take (k + 1) after)) ≡ true
there_on Is files after k d lt h e there =
    let all : List (List ℕ) = with_paths (paths_of files) (named (get_or files k d)) in
    subst (λ (ps : List (List ℕ)). list_all (λ p. has_path ps p) (all_named (take (k + 1) after)) ≡ true) (sym e)
    (subst (λ (qs : List (List ℕ)). list_all (λ p. has_path (with_paths (paths_of files) (named (get_or files k d))) p) qs ≡ true) (sym (named_on Is files after k d lt h))
    (list_all-append (λ p. has_path (with_paths (paths_of files) (named (get_or files k d))) p) (all_named (take k files)) (named (get_or files k d))
    ∙ and_from (list_all (λ p. has_path (with_paths (paths_of files) (named (get_or files k d))) p) (all_named (take k files))) (list_all (λ p. has_path (with_paths (paths_of files) (named (get_or files k d))) p) (named (get_or files k d)))
    (all_stay (paths_of files) (named (get_or files k d)) (all_named (take k files)) there) (all_put (paths_of files) (named (get_or files k d)))))

-- all files are named through
pub asked_all : (inputs : List (List ℕ)) (files : List File) (k : ℕ) → length files ≤ k → are_reached inputs [] files ≡ true → list_all (λ p. has_path (paths_of files) p) inputs ≡ true
    → list_all (λ p. has_path (paths_of files) p) (all_named (take k files)) ≡ true → AreAsked inputs files
asked_all inputs files k le reached first there = record {
  reached = reached;
  there = list_all-append (λ p. has_path (paths_of files) p) inputs (all_named files)
      ∙ and_from (list_all (λ p. has_path (paths_of files) p) inputs) (list_all (λ p. has_path (paths_of files) p) (all_named files)) first
      (subst (λ (fs : List File). list_all (λ p. has_path (paths_of files) p) (all_named fs) ≡ true) (take_all k files le) there);
}

-- the first of some, and the others
pub front_of : {A : Type 0} (f : A → List ℕ) (ws : List A) (w : A) → 1 ≤ length ws → w ≡ get_or ws 0 w → map f ws ≡ f w ∷ map f (take (length ws - 1) (drop 1 ws))
front_of {A = A} f ws w some e = ap (λ (vs : List A). map f vs) (first_rest ws w some) ∙ ap (λ (v : A). f v ∷ map f (take (length ws - 1) (drop 1 ws))) (sym e)

-- the rest of paths that are there is there
pub rest_there : (all ps qs : List (List ℕ)) (p : List ℕ) → ps ≡ p ∷ qs → list_all (λ q. has_path all q) ps ≡ true → list_all (λ q. has_path all q) qs ≡ true
rest_there all ps qs p e h = (and_parts (has_path all p) (list_all (λ q. has_path all q) qs) (subst (λ (xs : List (List ℕ)). list_all (λ q. has_path all q) xs ≡ true) e h)).1

pub rest_put : (old new ps qs goal : List (List ℕ)) (p : List ℕ) → ps ≡ p ∷ qs → new ≡ with_path old p → with_paths old ps ≡ goal → with_paths new qs ≡ goal
rest_put old new ps qs goal p e is h = ap (λ (xs : List (List ℕ)). with_paths xs qs) is ∙ sym (ap (λ (xs : List (List ℕ)). with_paths old xs) e) ∙ h

-- a path that one of the files names is asked for, and why its file wasn't read
pub not_named : (A : Type 0) (r : Result A Failed) (inputs ps : List (List ℕ)) (files : List File) (k : ℕ) (d : File) (a b c : Store) → OnlyReads a b → b.absent ≡ a.absent → AreFiles b.file files → has_twins (paths_of files) ≡ false
    → are_reached inputs [] files ≡ true → k < length files → ps ≡ named (get_or files k d) → IfErr r (NotRead (λ p. has_path ps p ≡ true) b c) → IfErr r (SaysFailed inputs a c)
not_named A (Ok x) inputs ps files k d a b c reads stood told apart reached lt e h = tt
not_named A (Err f) inputs ps files k d a b c reads stood told apart reached lt e h =
    not_loaded inputs (λ p. has_path ps p ≡ true) a b c f
    (λ p there. record {
      files = files;
      some = record { told = go_back a b files reads.none.files told; reached = reached; apart = apart };
      asked = asked_by inputs files k d p lt (subst (λ (qs : List (List ℕ)). has_path qs p ≡ true) e there);
    }) reads.none.files stood h

pub not_input : (A : Type 0) (r : Result A Failed) (inputs : List (List ℕ)) (a c : Store) → IfErr r (NotRead (λ p. has_path inputs p ≡ true) a c) → IfErr r (SaysFailed inputs a c)
not_input A (Ok x) inputs a c h = tt
not_input A (Err f) inputs a c h =
    not_loaded inputs (λ p. has_path inputs p ≡ true) a a c f
    (λ p there. record {
      files = [];
      some = record { told = All-nil (λ (f : File). IsFile f.bytes.items (a.file (string_bytes f.path))); reached = refl; apart = refl };
      asked = asked_input inputs [] p there;
    }) (λ p. refl) refl h
