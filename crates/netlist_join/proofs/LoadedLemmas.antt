-- What is told of loaded files.
use Rattle.std.proofs.Common.{◌≡◌, ◌<◌, ◌≤◌, ◌+◌, ℕ, Result, Err, suc, Bool, true, false, List, [], ◌∷◌, ◌++◌, length, refl, sym, ◌∙◌, ap, subst, append_assoc, arith}
use Rattle.std.proofs.lemmas.Bool.{or_from, or_parts}
use Rattle.std.specs.Prelude.{string_bytes, if◌then◌else◌, ◌||◌}
use Rattle.std.specs.List.{list_any}
use Rattle.std.specs.Str.{bytes_eq}
use Rattle.std.proofs.lemmas.List.{append-nil, length-append}
use Rattle.std.proofs.lemmas.List.Elements.{All-append, All-cons, All-nil, All-weaker, All-push}
use Rattle.lvs_outside.specs.Loops.{IsFile, IsLonger, IsRest, ReadTooMuch, TellsAll, TellsLonger, limit}
use Rattle.lvs_outside.specs.Store.{Store, Told, Untold, NoFile, Holds, Open, Reading, Forward, FoundNone, IsAbsent, IsThere, SameFiles, SameRest, counted}
use Rattle.netlist_join.specs.Failing.{FoundLong, IsAsked, NotRead, OnlyReads, SaysFailed, ShowsFaults}
use Rattle.netlist_join.specs.Loaded.{AreFiles, IsMore, paths_of, has_path, has_twins, with_path, with_paths, StartsWith}
use Rattle.netlist_join.specs.declared.files.File.{File}
use Rattle.netlist_join.specs.declared.files.Failed.{Failed}
use Rattle.netlist_join.specs.declared.files.Failed.TheVariants.{Outside, Absent, TooLong, TooMany, NoMemory}

rest_whole : (t : Told) (bytes : List ℕ) → IsThere t → IsRest bytes t 0 → IsFile bytes t
rest_whole Untold bytes there h = tt
rest_whole NoFile bytes there h = absurd there
rest_whole (Holds all) bytes there h = sym h

-- the rest of a file that was just opened is the file
pub whole : (s : Store) (path bytes : List ℕ) → IsThere (s.file path) → s.opened ≡ Reading path 0 → TellsAll s bytes → IsFile bytes (s.file path)
whole s path bytes there e h =
    let told : TellsAll (record s { opened = Reading path 0 }) bytes = subst (λ (o : Open). TellsAll (record s { opened = o }) bytes) e h in
    rest_whole (s.file path) bytes there told

pub any_path : (files : List File) (path : List ℕ) → has_path (paths_of files) path ≡ list_any (λ f. bytes_eq (string_bytes f.path) path) files
any_path [] path = refl
any_path (f ∷ files) path = ap (λ (b : Bool). bytes_eq (string_bytes f.path) path || b) (any_path files path)

-- the files of a store are those of one that tells the same
pub stay : (s t : Store) (files : List File) → SameFiles s t → AreFiles s.file files → AreFiles t.file files
stay s t files same h =
    All-weaker (λ (f : File). IsFile f.bytes.items (s.file (string_bytes f.path))) (λ (f : File). IsFile f.bytes.items (t.file (string_bytes f.path)))
    (λ f g. subst (λ (x : Told). IsFile f.bytes.items x) (sym (same (string_bytes f.path))) g) files h

pub go_back : (s t : Store) (files : List File) → SameFiles s t → AreFiles t.file files → AreFiles s.file files
go_back s t files same h = stay t s files (λ p. sym (same p)) h

-- one more
one_more : (s t : Store) (files : List File) (f : File) → SameFiles s t → AreFiles s.file files → IsFile f.bytes.items (s.file (string_bytes f.path)) → AreFiles t.file (files ++ f ∷ [])
one_more s t files f same h g =
    All-push (λ (f : File). IsFile f.bytes.items (t.file (string_bytes f.path))) files f (stay s t files same h)
    (subst (λ (x : Told). IsFile f.bytes.items x) (sym (same (string_bytes f.path))) g)

pub paths_more : (files : List File) (f : File) → paths_of (files ++ f ∷ []) ≡ paths_of files ++ string_bytes f.path ∷ []
paths_more [] f = refl
paths_more (g ∷ files) f = ap (λ (ps : List (List ℕ)). string_bytes g.path ∷ ps) (paths_more files f)

pub path_there : (paths : List (List ℕ)) (path : List ℕ) → has_path paths path ≡ true → with_path paths path ≡ paths
path_there paths path e = ap (λ (b : Bool). if b then paths else paths ++ path ∷ []) e

pub path_new : (paths : List (List ℕ)) (path : List ℕ) → has_path paths path ≡ false → with_path paths path ≡ paths ++ path ∷ []
path_new paths path e = ap (λ (b : Bool). if b then paths else paths ++ path ∷ []) e

starts_either : (paths : List (List ℕ)) (path : List ℕ) (b : Bool) → StartsWith (if b then paths else paths ++ path ∷ []) paths
starts_either paths path true = ([], sym (append-nil paths))
starts_either paths path false = (path ∷ [], refl)

pub starts_on : (first all : List (List ℕ)) (more : List (List ℕ)) → StartsWith all first → StartsWith (with_paths all more) first
starts_on first all [] h = h
starts_on first all (p ∷ more) h =
    let s = starts_either all p (has_path all p) in
    starts_on first (with_path all p) more (h.0 ++ s.0, s.1 ∙ ap (λ (ps : List (List ℕ)). ps ++ s.0) h.1 ∙ append_assoc first h.0 s.0)

-- a path of the second list stands in the first
clash : List (List ℕ) → List (List ℕ) → Bool
clash all paths = list_any (λ q. has_path all q) paths

not_there : (all : List (List ℕ)) (p q : List ℕ) → has_path all q ≡ false → bytes_eq p q ≡ false → has_path (all ++ p ∷ []) q ≡ false
not_there [] p q e f = or_from (bytes_eq p q) false f refl
not_there (x ∷ all) p q e f = or_from (bytes_eq x q) (has_path (all ++ p ∷ []) q) ((or_parts (bytes_eq x q) (has_path all q) e).0) (not_there all p q ((or_parts (bytes_eq x q) (has_path all q) e).1) f)

no_clash : (all : List (List ℕ)) (p : List ℕ) (paths : List (List ℕ)) → clash all paths ≡ false → list_any (λ q. bytes_eq p q) paths ≡ false → clash (all ++ p ∷ []) paths ≡ false
unfolding clash
no_clash all p [] e f = refl
no_clash all p (q ∷ paths) e f =
    or_from (has_path (all ++ p ∷ []) q) (list_any (λ r. has_path (all ++ p ∷ []) r) paths)
    (not_there all p q ((or_parts (has_path all q) (list_any (λ r. has_path all r) paths) e).0) ((or_parts (bytes_eq p q) (list_any (λ r. bytes_eq p r) paths) f).0))
    (no_clash all p paths ((or_parts (has_path all q) (list_any (λ r. has_path all r) paths) e).1) ((or_parts (bytes_eq p q) (list_any (λ r. bytes_eq p r) paths) f).1))

apart_from : (all paths : List (List ℕ)) → clash all paths ≡ false → has_twins paths ≡ false → with_paths all paths ≡ all ++ paths
unfolding clash
apart_from all [] e f = sym (append-nil all)
apart_from all (p ∷ paths) e f =
    ap (λ (ps : List (List ℕ)). with_paths ps paths) (path_new all p ((or_parts (has_path all p) (list_any (λ r. has_path all r) paths) e).0))
    ∙ apart_from (all ++ p ∷ []) paths
    (no_clash all p paths ((or_parts (has_path all p) (list_any (λ r. has_path all r) paths) e).1) ((or_parts (list_any (λ q. bytes_eq p q) paths) (has_twins paths) f).0))
    ((or_parts (list_any (λ q. bytes_eq p q) paths) (has_twins paths) f).1)
    ∙ append_assoc all (p ∷ []) paths

clear : (paths : List (List ℕ)) → clash [] paths ≡ false
unfolding clash
clear [] = refl
clear (p ∷ paths) = clear paths

-- paths that are apart stay as they are
pub apart : (all paths : List (List ℕ)) → StartsWith all (with_paths [] paths) → has_twins paths ≡ false → StartsWith all paths
apart all paths h e = (h.0, h.1 ∙ ap (λ (ps : List (List ℕ)). ps ++ h.0) (apart_from [] paths (clear paths) e))

-- reading on
pub reads_on : (a b c : Store) → OnlyReads a b → OnlyReads b c → OnlyReads a c
reads_on a b c h g = record {
  none = record { files = λ p. g.none.files p ∙ h.none.files p; left_open = g.none.left_open ∙ h.none.left_open };
  write_calls = g.write_calls ∙ h.write_calls;
}

pub reads_rest : (a b : Store) → SameRest a b → OnlyReads a b
reads_rest a b h = record { none = record { files = h.files; left_open = h.left_open }; write_calls = h.write_calls }

pub reads_none : (a : Store) → OnlyReads a a
reads_none a = record { none = record { files = λ p. refl; left_open = refl }; write_calls = refl }

-- faults, from an earlier store on
pub faults_from : (A B : Type 0) (a b c : Store) (e : Failed) → (counted b).faults ≡ (counted a).faults → ShowsFaults {A = A} b c (Err e) → ShowsFaults {A = B} a c (Err e)
faults_from A B a b c Outside quiet h = subst (λ (n : ℕ). n < (counted c).faults) quiet h
faults_from A B a b c (Absent path) quiet h = h ∙ quiet
faults_from A B a b c (TooLong path) quiet h = h ∙ quiet
faults_from A B a b c TooMany quiet h = h ∙ quiet
faults_from A B a b c NoMemory quiet h = h ∙ quiet

-- a path without a file, from an earlier store on
pub absent_from : (a b c : Store) (path : List ℕ) → SameFiles a b → b.absent ≡ a.absent → FoundNone b c path → FoundNone a c path
absent_from a b c path same stood h = record {
  absent_there = subst (λ (x : Told). IsAbsent x) (same path) h.absent_there;
  opened = h.opened;
  absent = h.absent ∙ ap (λ (n : ℕ). n + 1) stood;
  last_absent = h.last_absent;
}

pub long_from : (a b c : Store) (path : List ℕ) → SameFiles a b → b.absent ≡ a.absent → FoundLong b c path → FoundLong a c path
long_from a b c path same stood h = record {
  told = subst (λ (x : Told). IsLonger limit x 0) (same path) h.told;
  taken = h.taken;
  long = h.long;
  opened = h.opened;
  absent = h.absent ∙ stood;
}

-- why, from an earlier store on, of paths among others
pub not_read_from : (Is Was : List ℕ → Type 0) (a b c : Store) (e : Failed) → ((p : List ℕ) → Was p → Is p) → SameFiles a b → b.absent ≡ a.absent → NotRead Was b c e → NotRead Is a c e
not_read_from Is Was a b c Outside wider same stood h = tt
not_read_from Is Was a b c (Absent path) wider same stood h = (wider (string_bytes path) h.0, absent_from a b c (string_bytes path) same stood h.1)
not_read_from Is Was a b c (TooLong path) wider same stood h = (wider (string_bytes path) h.0, long_from a b c (string_bytes path) same stood h.1)
not_read_from Is Was a b c TooMany wider same stood h = absurd h
not_read_from Is Was a b c NoMemory wider same stood h = tt

-- why the files of inputs weren't loaded, by why one of these paths wasn't
pub not_loaded : (inputs : List (List ℕ)) (Was : List ℕ → Type 0) (a b c : Store) (e : Failed) → ((p : List ℕ) → Was p → IsAsked a.file inputs p) → SameFiles a b → b.absent ≡ a.absent
    → NotRead Was b c e → SaysFailed inputs a c e
not_loaded inputs Was a b c Outside wider same stood h = tt
not_loaded inputs Was a b c (Absent path) wider same stood h = not_read_from (λ p. IsAsked a.file inputs p) Was a b c (Absent path) wider same stood h
not_loaded inputs Was a b c (TooLong path) wider same stood h = not_read_from (λ p. IsAsked a.file inputs p) Was a b c (TooLong path) wider same stood h
not_loaded inputs Was a b c TooMany wider same stood h = absurd h
not_loaded inputs Was a b c NoMemory wider same stood h = tt

-- a file that was just opened was read too far
pub long_read : (a c : Store) (path bytes : List ℕ) → a.opened ≡ Reading path 0 → ReadTooMuch a c bytes → SameRest a c → FoundLong a c path
long_read a c path bytes e h rest =
    let told : TellsLonger (record a { opened = Reading path 0 }) limit = subst (λ (o : Open). TellsLonger (record a { opened = o }) limit) e h.told in
    record {
      told = told;
      taken = 0 + length bytes;
      long = omega (arith, h.long);
      opened = h.opened ∙ ap (λ (o : Open). Forward o (length bytes)) e;
      absent = rest.absent;
    }

-- files behind some
pub more_none : (Is : List ℕ → Type 0) (files : List File) → IsMore Is files files
more_none Is files = record { more = []; whole = sym (append-nil files); each = All-nil (λ (f : File). Is (string_bytes f.path)) }

pub more_one : (files after : List File) (path : List ℕ) (f : File) → string_bytes f.path ≡ path → after ≡ files ++ f ∷ [] → IsMore (λ p. p ≡ path) files after
more_one files after path f e is =
    record { more = f ∷ []; whole = is; each = All-cons (λ (g : File). string_bytes g.path ≡ path) f [] e (All-nil (λ (g : File). string_bytes g.path ≡ path)) }

pub more_on : (Is : List ℕ → Type 0) (path : List ℕ) (a b c : List File) → Is path → IsMore Is a b → IsMore (λ p. p ≡ path) b c → IsMore Is a c
more_on Is path a b c there h g = record {
  more = h.more ++ g.more;
  whole = g.whole ∙ ap (λ (fs : List File). fs ++ g.more) h.whole ∙ append_assoc a h.more g.more;
  each = All-append (λ (f : File). Is (string_bytes f.path)) h.more g.more h.each
      (All-weaker (λ (f : File). string_bytes f.path ≡ path) (λ (f : File). Is (string_bytes f.path)) (λ f e. subst (λ (p : List ℕ). Is p) (sym e) there) g.more g.each);
}

-- ---- different paths, and their number

any_end : (p q : List ℕ) (paths : List (List ℕ)) → list_any (λ x. bytes_eq p x) paths ≡ false → bytes_eq p q ≡ false → list_any (λ x. bytes_eq p x) (paths ++ q ∷ []) ≡ false
any_end p q [] e f = or_from (bytes_eq p q) false f refl
any_end p q (x ∷ paths) e f =
    or_from (bytes_eq p x) (list_any (λ y. bytes_eq p y) (paths ++ q ∷ [])) ((or_parts (bytes_eq p x) (list_any (λ y. bytes_eq p y) paths) e).0)
    (any_end p q paths ((or_parts (bytes_eq p x) (list_any (λ y. bytes_eq p y) paths) e).1) f)

no_twin : (paths : List (List ℕ)) (q : List ℕ) → has_twins paths ≡ false → has_path paths q ≡ false → has_twins (paths ++ q ∷ []) ≡ false
no_twin [] q e f = refl
no_twin (p ∷ paths) q e f =
    or_from (list_any (λ x. bytes_eq p x) (paths ++ q ∷ [])) (has_twins (paths ++ q ∷ []))
    (any_end p q paths ((or_parts (list_any (λ x. bytes_eq p x) paths) (has_twins paths) e).0) ((or_parts (bytes_eq p q) (has_path paths q) f).0))
    (no_twin paths q ((or_parts (list_any (λ x. bytes_eq p x) paths) (has_twins paths) e).1) ((or_parts (bytes_eq p q) (has_path paths q) f).1))

apart_either : (paths : List (List ℕ)) (q : List ℕ) (b : Bool) → has_path paths q ≡ b → has_twins paths ≡ false → has_twins (if b then paths else paths ++ q ∷ []) ≡ false
apart_either paths q true h e = e
apart_either paths q false h e = no_twin paths q e h

-- paths that are added, each once, are apart where the first ones are
pub stay_apart : (paths more : List (List ℕ)) → has_twins paths ≡ false → has_twins (with_paths paths more) ≡ false
stay_apart paths [] e = e
stay_apart paths (q ∷ more) e = stay_apart (with_path paths q) more (apart_either paths q (has_path paths q) refl e)

-- the first paths, each once, are apart
pub apart_at_first : (before after : List File) (more : List (List ℕ)) → before ≡ [] → paths_of after ≡ with_paths (paths_of before) more → has_twins (paths_of after) ≡ false
apart_at_first before after more none e =
    let all : paths_of after ≡ with_paths [] more = e ∙ ap (λ (fs : List File). with_paths (paths_of fs) more) none in
    subst (λ (ps : List (List ℕ)). has_twins ps ≡ false) (sym all) (stay_apart [] more refl)

pub length_starts : (first all : List (List ℕ)) → StartsWith all first → length first ≤ length all
length_starts first all s = subst (λ (ps : List (List ℕ)). length first ≤ length ps) (sym s.1) (subst (λ (n : ℕ). length first ≤ n) (sym (length-append first s.0)) (omega (arith)))

pub paths_length : (files : List File) → length (paths_of files) ≡ length files
paths_length [] = refl
paths_length (f ∷ files) = ap (λ (n : ℕ). suc n) (paths_length files)

-- files to which some were added are as many, or more
pub as_many : (before after : List File) (more : List (List ℕ)) (n : ℕ) → paths_of after ≡ with_paths (paths_of before) more → n ≤ length before → n ≤ length after
as_many before after more n e h =
    let s = starts_on (paths_of before) (paths_of before) more ([], sym (append-nil (paths_of before))) in
    let some = length_starts (paths_of before) (with_paths (paths_of before) more) s in
    let was = paths_length before in
    let now : length (with_paths (paths_of before) more) ≡ length after = sym (ap (λ (ps : List (List ℕ)). length ps) e) ∙ paths_length after in
    omega (arith, some, was, now, h)

-- a file more
pub added : (s t : Store) (files after : List File) (path : List ℕ) (f : File) → SameFiles s t → AreFiles s.file files → IsFile f.bytes.items (s.file path)
    → string_bytes f.path ≡ path → after ≡ files ++ f ∷ [] → AreFiles t.file after
added s t files after path f same h g e is =
    subst (λ (fs : List File). AreFiles t.file fs) (sym is) (one_more s t files f same h (subst (λ (p : List ℕ). IsFile f.bytes.items (s.file p)) (sym e) g))

pub added_path : (files after : List File) (path : List ℕ) (f : File) → list_any (λ x. bytes_eq (string_bytes x.path) path) files ≡ false → string_bytes f.path ≡ path
    → after ≡ files ++ f ∷ [] → paths_of after ≡ with_path (paths_of files) path
added_path files after path f none e is =
    ap paths_of is ∙ paths_more files f ∙ ap (λ (p : List ℕ). paths_of files ++ p ∷ []) e ∙ sym (path_new (paths_of files) path (any_path files path ∙ none))

pub found_path : (files : List File) (path : List ℕ) → list_any (λ x. bytes_eq (string_bytes x.path) path) files ≡ true → paths_of files ≡ with_path (paths_of files) path
found_path files path some = sym (path_there (paths_of files) path (any_path files path ∙ some))

pub starts_same : (all first : List (List ℕ)) → all ≡ first → StartsWith all first
starts_same all first e = ([], e ∙ sym (append-nil first))

pub starts_more : (first before after more : List (List ℕ)) → StartsWith before first → after ≡ with_paths before more → StartsWith after first
starts_more first before after more h e = let s = starts_on first before more h in (s.0, e ∙ s.1)
