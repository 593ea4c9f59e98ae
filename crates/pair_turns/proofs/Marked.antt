-- Marks of the pairs that are taken apart.
use Rattle.std.proofs.Common.{◌≡◌, ℕ, ◌+◌, ◌≤◌, List, [], ◌∷◌, length, drop, Bool, true, false, cond, Some, slice_get, refl, sym, ap, subst, ◌∙◌}
use Rattle.std.specs.Prelude.{◌||◌, ◌&&◌, ◌==◌, nat_lt, replicate, slice_index_or}
use Rattle.composed_laws.specs.Answered.{is_called}
use Rattle.std.proofs.lemmas.List.{drop_all, drop_more, length-replicate}
use Rattle.std.proofs.lemmas.Option.{slice_get_within, get_or_from_slice_get}
use Rattle.plain_netlist.specs.Netlist.{Circuit, Netlist}
use Rattle.match_laws.specs.Answer.{Answer}
use Rattle.pair_turns.proofs.Lists.{filled}
use Rattle.pair_jobs.specs.Answers.{is_difference}
use Rattle.pair_turns.specs.Going.{AreGoing, calls_none, goes, goes_from, takes_apart}

-- the marks when the first k pairs were looked at
pub record IsGoingBelow (left right : Netlist) (answers : List Answer) (k : ℕ) (marks : List Bool) : Type 0 where
  pub long : length marks ≡ length answers
  pub each : (i : ℕ) → (slice_index_or marks i false || goes_from (length answers) k (drop k left.circuits) (drop k right.circuits) (drop k answers) i) ≡ goes left right answers i

or_false : (b : Bool) → b ≡ (b || false)
or_false true = refl
or_false false = refl

-- an item more
first_of : {A : Type 0} (xs : List A) (k : ℕ) (x : A) → slice_get xs k ≡ Some x → drop k xs ≡ x ∷ drop (k + 1) xs
first_of {A = A} xs k x e = drop_more xs k x (slice_get_within xs k x e) ∙ ap (λ (y : A). y ∷ drop (k + 1) xs) (get_or_from_slice_get xs k x x e)

or_over : (m t rest whole : Bool) → (m || (t || rest)) ≡ whole → ((m || t) || rest) ≡ whole
or_over true t rest whole e = e
or_over false t rest whole e = e

module _ (left right : Netlist) (answers : List Answer) (k : ℕ) (marks : List Bool) (h : IsGoingBelow left right answers k marks) (c d : Circuit) (a : Answer)
    (lefts : slice_get left.circuits k ≡ Some c) (rights : slice_get right.circuits k ≡ Some d) (here : slice_get answers k ≡ Some a) where
  one : (i : ℕ) → (slice_index_or marks i false || ((is_difference a && takes_apart (length answers) k c d i) || goes_from (length answers) (k + 1) (drop (k + 1) left.circuits) (drop (k + 1) right.circuits) (drop (k + 1) answers) i)) ≡ goes left right answers i
  one i =
      subst (λ (vs : List Answer). (slice_index_or marks i false || goes_from (length answers) k (c ∷ drop (k + 1) left.circuits) (d ∷ drop (k + 1) right.circuits) vs i) ≡ goes left right answers i) (first_of answers k a here)
      (subst (λ (ds : List Circuit). (slice_index_or marks i false || goes_from (length answers) k (c ∷ drop (k + 1) left.circuits) ds (drop k answers) i) ≡ goes left right answers i) (first_of right.circuits k d rights)
      (subst (λ (cs : List Circuit). (slice_index_or marks i false || goes_from (length answers) k cs (drop k right.circuits) (drop k answers) i) ≡ goes left right answers i) (first_of left.circuits k c lefts) (h.each i)))

  -- the pair differs, and its marks are set
  pub differing : (new : List Bool) → is_difference a ≡ true → length new ≡ length marks
      → ((i : ℕ) → slice_index_or new i false ≡ (slice_index_or marks i false || takes_apart (length marks) k c d i)) → IsGoingBelow left right answers (k + 1) new
  differing new is long each = record {
    long = long ∙ h.long;
    each = λ i.
        let rest = goes_from (length answers) (k + 1) (drop (k + 1) left.circuits) (drop (k + 1) right.circuits) (drop (k + 1) answers) i in
        let all = subst (λ (b : Bool). (slice_index_or marks i false || ((b && takes_apart (length answers) k c d i) || rest)) ≡ goes left right answers i) is (one i) in
        let now = subst (λ (n : ℕ). slice_index_or new i false ≡ (slice_index_or marks i false || takes_apart n k c d i)) h.long (each i) in
        ap (λ (b : Bool). b || rest) now ∙ or_over (slice_index_or marks i false) (takes_apart (length answers) k c d i) rest (goes left right answers i) all;
  }

  -- it doesn't
  pub staying : is_difference a ≡ false → IsGoingBelow left right answers (k + 1) marks
  staying is = record {
    long = h.long;
    each = λ i. subst (λ (b : Bool). (slice_index_or marks i false || ((b && takes_apart (length answers) k c d i) || goes_from (length answers) (k + 1) (drop (k + 1) left.circuits) (drop (k + 1) right.circuits) (drop (k + 1) answers) i)) ≡ goes left right answers i) is (one i);
  }

none_left : (n k : ℕ) (cs ds : List Circuit) (vs : List Answer) (i : ℕ) → vs ≡ [] → goes_from n k cs ds vs i ≡ false
none_left n k [] ds vs i e = refl
none_left n k (c ∷ cs) [] vs i e = refl
none_left n k (c ∷ cs) (d ∷ ds) [] i e = refl
none_left n k (c ∷ cs) (d ∷ ds) (v ∷ vs) i e = absurd cc

pub all_marked : (left right : Netlist) (answers : List Answer) (k : ℕ) (marks : List Bool) → length answers ≤ k → IsGoingBelow left right answers k marks → AreGoing left right answers marks
all_marked left right answers k marks low h = record {
  long = h.long;
  each = λ i.
      let none = none_left (length answers) k (drop k left.circuits) (drop k right.circuits) (drop k answers) i (drop_all k answers low) in
      or_false (slice_index_or marks i false) ∙ ap (λ (b : Bool). slice_index_or marks i false || b) (sym none) ∙ h.each i;
}

pub begun : (left right : Netlist) (answers : List Answer) → IsGoingBelow left right answers 0 (replicate (length answers) false)
begun left right answers = record {
  long = length-replicate (length answers) false;
  each = λ i. ap (λ (b : Bool). b || goes left right answers i) (filled (length answers) i false);
}

-- ---- the marks of one pair

or_or : (a b c m n : Bool) → m ≡ (a || b) → n ≡ (m || c) → n ≡ (a || (b || c))
or_or a b c m n e f = f ∙ ap (λ (t : Bool). t || c) e ∙ or_apart a b c
  where
    or_apart : (a b c : Bool) → ((a || b) || c) ≡ (a || (b || c))
    or_apart true b c = refl
    or_apart false b c = refl

abbrev pub none_called : Circuit → Circuit → Bool
none_called c d = calls_none c && calls_none d

-- what the circuits call is marked
pub called_apart : (n j k : ℕ) (c d : Circuit) (old mid new : Bool) → none_called c d ≡ false → mid ≡ (old || is_called c k) → new ≡ (mid || is_called d k) → new ≡ (old || takes_apart n j c d k)
called_apart n j k c d old mid new is e f =
    subst (λ (b : Bool). new ≡ (old || cond b ((k == j) && nat_lt (j + 1) n) (is_called c k || is_called d k))) (sym is) (or_or old (is_called c k) (is_called d k) mid new e f)

-- the pair itself is marked, or none
pub itself_apart : (n j k : ℕ) (c d : Circuit) (old new : Bool) → none_called c d ≡ true → new ≡ (old || ((k == j) && nat_lt (j + 1) n)) → new ≡ (old || takes_apart n j c d k)
itself_apart n j k c d old new is e = subst (λ (b : Bool). new ≡ (old || cond b ((k == j) && nat_lt (j + 1) n) (is_called c k || is_called d k))) (sym is) e
