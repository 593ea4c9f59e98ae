-- The page is written to another path than the database.
use Rattle.std.proofs.Common.{◌≡◌, ◌≢◌, ℕ, Bool, true, false, List, Option, Some, None, IfSome, if◌then◌else◌, refl, subst}
use Rattle.std.specs.Option.{option_and_then}
use Rattle.lvs_words.specs.declared.flag.Flag.TheVariants as flag
use Rattle.lvs_words.specs.Fitting.{fits, workers_of}
use Rattle.lvs_words.specs.Items.{Item, items, path, shared, value_of}
use Rattle.lvs_words.proofs.Apart.{all_needed, differ, needed_at, some_path}
use Rattle.view_run.specs.Stated.{Asked, asked, asked_by, free_flags, needed_flags}
use Rattle.view_run.specs.Runs.{IsPageApart}

-- the database's path is there
database_is : (is : List Item) → fits needed_flags free_flags is ≡ true → value_of flag.Database is ≡ Some (path flag.Database is)
database_is is e =
    some_path (value_of flag.Database is) (needed_at needed_flags is 3 flag.Database (all_needed needed_flags free_flags is e) refl)

if_there : (o : Option (List ℕ)) (d : List ℕ) → ((p : List ℕ) → o ≡ Some p → d ≡ p → ⊥) → IfSome o (λ p. d ≢ p)
if_there None d h = tt
if_there (Some p) d h = h p refl

abbrev stated : List Item → ℕ → Asked
stated is k = record {
  layout = path flag.Layout is;
  rules = path flag.Rules is;
  schematic = path flag.Schematic is;
  database = path flag.Database is;
  page = value_of flag.Page is;
  top = value_of flag.Top is;
  workers = k;
  shared = shared is;
}

stated_apart : (is : List Item) (k : ℕ) → fits needed_flags free_flags is ≡ true → shared is ≡ None → IsPageApart (stated is k)
stated_apart is k fit none =
    if_there (value_of flag.Page is) (path flag.Database is)
    (λ p e same. differ flag.Database flag.Page (path flag.Database is) p (λ x. cc) (refl, refl) (refl, refl) same is none (database_is is fit) e)

by_workers : (is : List Item) (b : Bool) (o : Option ℕ) (q : Asked) → fits needed_flags free_flags is ≡ b → (if b then option_and_then (λ k. Some (stated is k)) o else None) ≡ Some q → q.shared ≡ None → IsPageApart q
by_workers is false o q fit e none = cc
by_workers is true None q fit e none = cc
by_workers is true (Some k) q fit e none =
    let same : stated is k ≡ q = cc in
    subst (λ (x : Asked). x.shared ≡ None → IsPageApart x) same (λ n. stated_apart is k fit n) none

by_items : (o : Option (List Item)) (q : Asked) → option_and_then asked_by o ≡ Some q → q.shared ≡ None → IsPageApart q
by_items None q e none = cc
by_items (Some is) q e none = by_workers is (fits needed_flags free_flags is) (workers_of is) q refl e none

pub page_apart : (words : List (List ℕ)) (q : Asked) → asked words ≡ Some q → q.shared ≡ None → IsPageApart q
page_apart words q e none = by_items (items words) q e none
