-- What the words of a command say of its workers and of the files that it writes.
use Rattle.std.proofs.Common.{◌≡◌, ℕ, codes, ◌≤◌, ◌-◌, ◌^◌, Bool, true, false, List, [], ◌∷◌, Option, Some, None, if◌then◌else◌, refl, subst, arith}
use Rattle.std.specs.Option.{option_and_then}
use Rattle.std.specs.Str.{bytes_eq}
use Rattle.std.specs.Str.Parse.{digits_value}
use Rattle.std.proofs.lemmas.Bool.Decides.{nat_tests}
use Rattle.lvs_words.specs.declared.flag.Flag.TheVariants as flag
use Rattle.lvs_words.specs.Items.{Item, is_value, items, shared, value_of}
use Rattle.lvs_words.specs.Numbers.{is_number, number_in, within}
use Rattle.lvs_run.specs.Words.{AreInverters, AreWorkers, IsFair, IsFairSaid}
use Rattle.lvs_words.specs.Commands.{Asked, Said, said, said_by, said_extract, said_make, said_run, said_shapes, extract_flags, extract_of, free_flags, run_flags, run_of, make_of}
use Rattle.lvs_words.specs.Fitting.{fits, workers_in, workers_of}
use Rattle.lvs_words.proofs.Apart.{all_needed, needed_at, paths_differ}

-- ---- the workers

within_in : (low high n k : ℕ) → within low high n ≡ Some k → (low ≤ k) × (k ≤ high)
within_in low high n k e = grind (arith, nat_tests)

number_within : (low high : ℕ) (b : Bool) (n k : ℕ) → (if b then within low high n else None) ≡ Some k → (low ≤ k) × (k ≤ high)
number_within low high true n k e = within_in low high n k e
number_within low high false n k e = cc

-- a number of these digits lies there
number_lies : (low high : ℕ) (word : List ℕ) (k : ℕ) → number_in low high word ≡ Some k → (low ≤ k) × (k ≤ high)
number_lies low high word k e = number_within low high (is_number word) (digits_value 10 word) k e

workers_within : (o : Option (List ℕ)) (k : ℕ) → workers_in o ≡ Some k → AreWorkers k
workers_within None k e = let same : 1 ≡ k = cc in (omega (arith, same), omega (arith, same))
workers_within (Some word) k e = number_lies 1 64 word k e

-- ---- what the words of each command say

if_said : (b : Bool) (o p : Option Said) → ((s : Said) → o ≡ Some s → IsFairSaid s) → ((s : Said) → p ≡ Some s → IsFairSaid s) → (s : Said) → (if b then o else p) ≡ Some s → IsFairSaid s
if_said true o p h k s e = h s e
if_said false o p h k s e = k s e

of_some : (x s : Said) → IsFairSaid x → Some x ≡ Some s → IsFairSaid s
of_some x s h e = let same : x ≡ s = cc in subst IsFairSaid same h

none_said : (s : Said) → None ≡ Some s → IsFairSaid s
none_said s e = cc

fair_shapes : (words : List (List ℕ)) (s : Said) → said_shapes words ≡ Some s → IsFairSaid s
fair_shapes (l ∷ r ∷ p ∷ []) s e = if_said _ _ None (λ t f. of_some _ t tt f) (λ t f. none_said t f) s e
fair_shapes words s e = none_said s e

fair_made : (n seed workers : Option ℕ) (prefix : List ℕ) (s : Said) → ((k : ℕ) → n ≡ Some k → AreInverters k) → ((k : ℕ) → workers ≡ Some k → AreWorkers k) → make_of n seed workers prefix ≡ Some s → IsFairSaid s
fair_made (Some n) (Some seed) (Some workers) prefix s some few e = of_some _ s (few workers refl, some n refl) e
fair_made n seed workers prefix s some few e = none_said s e

fair_make : (words : List (List ℕ)) (s : Said) → said_make words ≡ Some s → IsFairSaid s
fair_make (a ∷ b ∷ c ∷ d ∷ []) s e =
    let n = number_in 1 100000 a in
    let seed = number_in 0 (2 ^ 64 - 1) b in
    let k = number_in 1 64 c in
    if_said (is_value d) (make_of n seed k d) None (λ t f. fair_made n seed k d t (λ m g. number_lies 1 100000 a m g) (λ m g. number_lies 1 64 c m g) f) (λ t f. none_said t f) s e
fair_make words s e = none_said s e

-- what the options of a command ask for
by_asked : (is : List Item) (o : Option Asked) (s : Said) → ((a : Asked) → o ≡ Some a → IsFair a (shared is)) → said_by o is ≡ Some s → IsFairSaid s
by_asked is None s h e = none_said s e
by_asked is (Some a) s h e = of_some _ s (h a refl) e

by_items : (of : List Item → Option Asked) (o : Option (List Item)) (s : Said) → ((is : List Item) (a : Asked) → of is ≡ Some a → IsFair a (shared is)) → option_and_then (λ is. said_by (of is) is) o ≡ Some s → IsFairSaid s
by_items of None s h e = none_said s e
by_items of (Some is) s h e = by_asked is (of is) s (λ a f. h is a f) e

of_asked : (x a : Asked) (shared : Option (List ℕ)) → IsFair x shared → Some x ≡ Some a → IsFair a shared
of_asked x a shared h e = let same : x ≡ a = cc in subst (λ (y : Asked). IsFair y shared) same h

none_asked : (a : Asked) (shared : Option (List ℕ)) → None ≡ Some a → IsFair a shared
none_asked a shared e = cc

if_asked : (b : Bool) (o : Option Asked) (a : Asked) (shared : Option (List ℕ)) → (b ≡ true → o ≡ Some a → IsFair a shared) → (if b then o else None) ≡ Some a → IsFair a shared
if_asked true o a shared h e = h refl e
if_asked false o a shared h e = none_asked a shared e

with_workers : (o : Option ℕ) (of : ℕ → Asked) (a : Asked) (shared : Option (List ℕ)) → ((k : ℕ) → o ≡ Some k → IsFair (of k) shared) → option_and_then (λ k. Some (of k)) o ≡ Some a → IsFair a shared
with_workers None of a shared h e = none_asked a shared e
with_workers (Some k) of a shared h e = of_asked (of k) a shared (h k refl) e

fair_extract_of : (is : List Item) (a : Asked) → extract_of is ≡ Some a → IsFair a (shared is)
fair_extract_of is a e =
    if_asked (fits extract_flags free_flags is) _ a (shared is)
    (λ fit f. with_workers (workers_of is) _ a (shared is)
    (λ k w. let needed = all_needed extract_flags free_flags is fit in
    let shapes = needed_at extract_flags is 2 flag.Shapes needed refl in
    let netlist = needed_at extract_flags is 3 flag.Netlist needed refl in
    (workers_within (value_of flag.Workers is) k w, λ none same. paths_differ flag.Shapes flag.Netlist is (λ x. cc) (refl, refl) (refl, refl) shapes netlist none same)) f) e

fair_run_of : (is : List Item) (a : Asked) → run_of is ≡ Some a → IsFair a (shared is)
fair_run_of is a e =
    if_asked (fits run_flags free_flags is) _ a (shared is)
    (λ fit f. with_workers (workers_of is) _ a (shared is)
    (λ k w. let needed = all_needed run_flags free_flags is fit in
    let shapes = needed_at run_flags is 3 flag.Shapes needed refl in
    let netlist = needed_at run_flags is 4 flag.Netlist needed refl in
    let report = needed_at run_flags is 5 flag.Report needed refl in (
      workers_within (value_of flag.Workers is) k w,
      λ none. (
        (λ same. paths_differ flag.Shapes flag.Netlist is (λ x. cc) (refl, refl) (refl, refl) shapes netlist none same),
        (λ same. paths_differ flag.Shapes flag.Report is (λ x. cc) (refl, refl) (refl, refl) shapes report none same),
        (λ same. paths_differ flag.Netlist flag.Report is (λ x. cc) (refl, refl) (refl, refl) netlist report none same),
      ),
    )) f) e

fair_fourth : (b : Bool) (words : List (List ℕ)) (s : Said) → (if b then said_make words else None) ≡ Some s → IsFairSaid s
fair_fourth b words s e = if_said b (said_make words) None (λ x y. fair_make words x y) (λ x y. none_said x y) s e

fair_third : (a b : Bool) (words : List (List ℕ)) (s : Said) → (if a then said_run words else (if b then said_make words else None)) ≡ Some s → IsFairSaid s
fair_third a b words s e =
    if_said a (said_run words) (if b then said_make words else None) (λ x y. by_items run_of (items words) x fair_run_of y) (λ x y. fair_fourth b words x y) s e

fair_second : (a b c : Bool) (words : List (List ℕ)) (s : Said) → (if a then said_extract words else (if b then said_run words else (if c then said_make words else None))) ≡ Some s → IsFairSaid s
fair_second a b c words s e =
    if_said a (said_extract words) (if b then said_run words else (if c then said_make words else None)) (λ x y. by_items extract_of (items words) x fair_extract_of y)
    (λ x y. fair_third b c words x y) s e

fair_first : (a b c d : Bool) (words : List (List ℕ)) (s : Said)
    → (if a then said_shapes words else (if b then said_extract words else (if c then said_run words else (if d then said_make words else None)))) ≡ Some s → IsFairSaid s
fair_first a b c d words s e =
    if_said a (said_shapes words) (if b then said_extract words else (if c then said_run words else (if d then said_make words else None))) (λ x y. fair_shapes words x y)
    (λ x y. fair_second b c d words x y) s e

pub fair : (words : List (List ℕ)) (s : Said) → said words ≡ Some s → IsFairSaid s
fair [] s e = none_said s e
fair (c ∷ words) s e = fair_first (bytes_eq c (codes "shapes")) (bytes_eq c (codes "extract")) (bytes_eq c (codes "run")) (bytes_eq c (codes "make")) words s e
