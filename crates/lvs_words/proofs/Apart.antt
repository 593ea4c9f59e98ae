-- Options that write, where no path is shared, and options that are needed.
use Rattle.std.proofs.Common.{◌≡◌, ℕ, zero, suc, slice_get, Bool, true, false, ◌&&◌, ◌||◌, List, [], ◌∷◌, Option, Some, None, is_some, if◌then◌else◌, refl, sym, subst, ◌∙◌}
use Rattle.base_laws.proofs.Tests.{or_true}
use Rattle.std.proofs.lemmas.Bool.{and_parts}
use Rattle.std.specs.List.{list_any}
use Rattle.std.specs.Option.{unwrap_or}
use Rattle.std.specs.Str.{bytes_eq}
use Rattle.std.proofs.lemmas.Slice.Eq.{bytes_eq-Decides}
use denote.Enum.Bare.{same_true}
use Rattle.lvs_words.specs.contracts.flag.Flag.{the_type}
use Rattle.lvs_words.specs.declared.flag.Flag.{Flag}
use Rattle.lvs_words.specs.Fitting.{fits, has_known, has_needed}
use Rattle.lvs_words.specs.Flags.{is_path, is_same, is_written}
use Rattle.lvs_words.specs.Items.{Item, are_once, clashes, path, shared, value_of}

same_flag : (a b : Flag) → is_same a b ≡ true → a ≡ b
same_flag a b e = same_true the_type tt a b e

-- a file is written to the path that the option gives
abbrev pub Writes : Flag → Type 0
Writes f = (is_path f ≡ true) × (is_written f ≡ true)

clash : (i j : Item) → Writes i.flag → Writes j.flag → i.value ≡ j.value → clashes i j ≡ true
clash i j w u e = let s : bytes_eq i.value j.value ≡ true = (bytes_eq-Decides i.value j.value).1 e in rw (w.0, u.0, w.1, s) refl

any_step : (s c r : Bool) (x w : List ℕ) (o : Option (List ℕ)) → (s ≡ true → x ≡ w → c ≡ true) → (o ≡ Some w → r ≡ true) → (if s then Some x else o) ≡ Some w → (c || r) ≡ true
any_step true c r x w o h k e = let same : x ≡ w = cc in let t : c ≡ true = h refl same in rw t refl
any_step false c r x w o h k e = let t : r ≡ true = k e in rw t (or_true c)

-- an option that stands later with the same path clashes
any_clash : (i : Item) (g : Flag) (w : List ℕ) (is : List Item) → Writes i.flag → Writes g → i.value ≡ w → value_of g is ≡ Some w → list_any (clashes i) is ≡ true
any_clash i g w [] a b same e = cc
any_clash i g w (j ∷ js) a b same e =
    any_step (is_same j.flag g) (clashes i j) (list_any (clashes i) js) j.value w (value_of g js)
    (λ s f. clash i j a (subst Writes (sym (same_flag j.flag g s)) b) (same ∙ sym f)) (λ f. any_clash i g w js a b same f) e

step : (s t c : Bool) (x v w : List ℕ) (o q rest : Option (List ℕ)) → (s ≡ true → t ≡ true → ⊥) → (s ≡ true → x ≡ v → q ≡ Some w → c ≡ true) → (t ≡ true → x ≡ w → o ≡ Some v → c ≡ true)
    → (rest ≡ None → o ≡ Some v → q ≡ Some w → ⊥) → (if c then Some x else rest) ≡ None → (if s then Some x else o) ≡ Some v → (if t then Some x else q) ≡ Some w → ⊥
step s t true x v w o q rest a b d k none e f = cc
step true true false x v w o q rest a b d k none e f = a refl refl
step true false false x v w o q rest a b d k none e f = let same : x ≡ v = cc in let no : false ≡ true = b refl same f in cc
step false true false x v w o q rest a b d k none e f = let same : x ≡ w = cc in let no : false ≡ true = d refl same e in cc
step false false false x v w o q rest a b d k none e f = k none e f

-- where no path is shared, two options that write give different paths
pub differ : (f g : Flag) (v w : List ℕ) → (f ≡ g → ⊥) → Writes f → Writes g → v ≡ w → (is : List Item) → shared is ≡ None → value_of f is ≡ Some v → value_of g is ≡ Some w → ⊥
differ f g v w apart a b same [] none e d = cc
differ f g v w apart a b same (i ∷ is) none e d =
    step (is_same i.flag f) (is_same i.flag g) (list_any (clashes i) is) i.value v w (value_of f is) (value_of g is) (shared is)
    (λ s t. apart (sym (same_flag i.flag f s) ∙ same_flag i.flag g t))
    (λ s x q. any_clash i g w is (subst Writes (sym (same_flag i.flag f s)) a) b (x ∙ same) q)
    (λ t x o. any_clash i f v is (subst Writes (sym (same_flag i.flag g t)) b) a (x ∙ sym same) o)
    (λ n o q. differ f g v w apart a b same is n o q) none e d

-- an option that is there gives its path
pub some_path : (o : Option (List ℕ)) → is_some o ≡ true → o ≡ Some (unwrap_or o [])
some_path (Some v) e = refl
some_path None e = let no : false ≡ true = e in cc

pub paths_differ : (f g : Flag) (is : List Item) → (f ≡ g → ⊥) → Writes f → Writes g → is_some (value_of f is) ≡ true → is_some (value_of g is) ≡ true → shared is ≡ None → path f is ≡ path g is → ⊥
paths_differ f g is apart a b some other none same = differ f g (path f is) (path g is) apart a b same is none (some_path (value_of f is) some) (some_path (value_of g is) other)

-- an option that is needed is there
pub needed_at : (fs : List Flag) (is : List Item) (i : ℕ) (f : Flag) → has_needed fs is ≡ true → slice_get fs i ≡ Some f → is_some (value_of f is) ≡ true
needed_at [] is zero f e h = cc
needed_at [] is (suc i) f e h = cc
needed_at (g ∷ gs) is zero f e h =
    let here = and_parts (is_some (value_of g is)) (has_needed gs is) e in
    let same : g ≡ f = cc in subst (λ (x : Flag). is_some (value_of x is) ≡ true) same here.0
needed_at (g ∷ gs) is (suc i) f e h =
    let here = and_parts (is_some (value_of g is)) (has_needed gs is) e in
    let behind : slice_get gs i ≡ Some f = h in needed_at gs is i f here.1 behind

pub all_needed : (fs free : List Flag) (is : List Item) → fits fs free is ≡ true → has_needed fs is ≡ true
all_needed fs free is e = let h = and_parts (are_once is && has_known fs free is) (has_needed fs is) e in h.1
