-- What a search that ended excludes, and what one that found gives.
use Rattle.std.proofs.Common.{◌≡◌, ◌⊎◌, inl, inr, ℕ, suc, ◌+◌, ◌<◌, arith, ◌&&◌, cond, not, Bool, true, List, [], ◌∷◌, sym, subst, ap, filter}
use Rattle.std.proofs.lemmas.Bool.{and_from, cases_Bool}
use Rattle.plain_netlist.specs.Lists.{IsListed}
use Rattle.round_laws.specs.Web.{Web, IsWeb, agree, IsWebMap, Guess, under, Keeps, mate}
use Rattle.round_laws.specs.Nodes.{Node}
use Rattle.round_laws.specs.Guesses.{Setting, candidates, Search, Ended, Stopped, Found, Refuted, Below, Open, HasEnded, HasFound, HasStopped, refuted_in, guessed, IsSearch, IsWholeSearch}
use Rattle.round_laws.proofs.Agree.{in_left, in_right, image_agrees, carries_under, under_web, refuted_none}
use Rattle.round_laws.proofs.Solved.{solved_under}
use Rattle.round_laws.proofs.Stable.{in_either}

AreThere : Web Node → List (Guess Node) → Type 0
AreThere w guesses = (g : Guess Node) → IsListed g guesses → (IsListed g.left w.left) × IsListed g.right w.right

pub in_filter : {X : Type 0} (p : X → Bool) (x : X) (xs : List X) → IsListed x xs → p x ≡ true → IsListed x (filter p xs)
in_filter p x [] i h = absurd i
in_filter {X} p x (y ∷ ys) (inl e) h =
    let r : p y ≡ true = subst (λ (z : X). p z ≡ true) e h in
    let l : filter p (y ∷ ys) ≡ y ∷ filter p ys = ap (λ (b : Bool). cond b (y ∷ filter p ys) (filter p ys)) r in
    subst (λ (zs : List X). IsListed x zs) (sym l) (inl e)
in_filter {X} p x (y ∷ ys) (inr i) h =
    elim (cases_Bool (p y)) [
      | inl r ↦
          let l : filter p (y ∷ ys) ≡ y ∷ filter p ys = ap (λ (b : Bool). cond b (y ∷ filter p ys) (filter p ys)) r in
          subst (λ (zs : List X). IsListed x zs) (sym l) (inr (in_filter p x ys i h))
      | inr r ↦
          let l : filter p (y ∷ ys) ≡ filter p ys = ap (λ (b : Bool). cond b (y ∷ filter p ys) (filter p ys)) r in
          subst (λ (zs : List X). IsListed x zs) (sym l) (in_filter p x ys i h)
    ]

pub of_filter : {X : Type 0} (p : X → Bool) (x : X) (xs : List X) → IsListed x (filter p xs) → IsListed x xs
of_filter p x [] i = i
of_filter {X} p x (y ∷ ys) i =
    elim (cases_Bool (p y)) [
      | inl r ↦
          let l : filter p (y ∷ ys) ≡ y ∷ filter p ys = ap (λ (b : Bool). cond b (y ∷ filter p ys) (filter p ys)) r in
          elim (subst (λ (zs : List X). IsListed x zs) l i) [ inl e ↦ inl e | inr j ↦ inr (of_filter p x ys j) ]
      | inr r ↦
          let l : filter p (y ∷ ys) ≡ filter p ys = ap (λ (b : Bool). cond b (y ∷ filter p ys) (filter p ys)) r in
          inr (of_filter p x ys (subst (λ (zs : List X). IsListed x zs) l i))
    ]

is_candidate : (s : Setting) (w : Web Node) (k : ℕ) (a b : Node) → IsListed b w.right → agree w k a b ≡ true → IsListed b (candidates s w k a)
is_candidate s w k a b i h =
    elim (cases_Bool (s.same_name a b)) [
      | inl r ↦ in_left b _ _ (in_filter (λ c. agree w k a c && s.same_name a c) b w.right i (and_from _ _ h r))
      | inr r ↦ in_right b (filter (λ c. agree w k a c && s.same_name a c) w.right) _
          (in_filter (λ c. agree w k a c && not (s.same_name a c)) b w.right i (and_from _ _ h (ap not r)))
    ]

candidate_there : (s : Setting) (w : Web Node) (k : ℕ) (a b : Node) → IsListed b (candidates s w k a) → IsListed b w.right
candidate_there s w k a b i =
    elim (in_either b (filter (λ c. agree w k a c && s.same_name a c) w.right) (filter (λ c. agree w k a c && not (s.same_name a c)) w.right) i) [
      | inl j ↦ of_filter _ b w.right j
      | inr j ↦ of_filter _ b w.right j
    ]

guess_of : Node → Node → Guess Node
guess_of a b = record { left = a; right = b }

keeps_more : (f : Node → Node) (above : List (Guess Node)) (a b : Node) → Keeps f above → f a ≡ b → Keeps f (guessed above a b)
keeps_more f above a b keeps e g i =
    elim (in_either g above (record { left = a; right = b } ∷ []) i) [
      | inl j ↦ keeps g j
      | inr j ↦ elim j [ inl h ↦ subst (λ (x : Guess Node). f x.left ≡ x.right) (sym h) e | inr n ↦ absurd n ]
    ]

there_more : (w : Web Node) (above : List (Guess Node)) (a b : Node)
    → ((g : Guess Node) → IsListed g above → (IsListed g.left w.left) × IsListed g.right w.right)
    → IsListed a w.left → IsListed b w.right
    → (g : Guess Node) → IsListed g (guessed above a b) → (IsListed g.left w.left) × IsListed g.right w.right
there_more w above a b there i j g l =
    elim (in_either g above (record { left = a; right = b } ∷ []) l) [
      | inl m ↦ there g m
      | inr m ↦ elim m [ inl h ↦ subst (λ (x : Guess Node). (IsListed x.left w.left) × IsListed x.right w.right) (sym h) (i, j) | inr n ↦ absurd n ]
    ]

-- no correspondence that keeps the guesses above takes the node to a candidate
excludes : (s : Setting) (f : Node → Node) → IsWeb s.web → IsWebMap s.web f
    → (t : Search) (above : List (Guess Node)) (a : Node) (tries : List Node) (used : ℕ)
    → IsSearch s above a tries used t → HasEnded t → Keeps f above
    → ((g : Guess Node) → IsListed g above → (IsListed g.left s.web.left) × IsListed g.right s.web.right)
    → IsListed a s.web.left → IsListed (f a) tries → ⊥
excludes s f web carries Ended above a tries used h ended keeps there left i = subst (λ (l : List Node). IsListed (f a) l) h i
excludes s f web carries Stopped above a tries used h ended keeps there left i = ended
excludes s f web carries (Found b) above a tries used h ended keeps there left i = ended
excludes s f web carries (Refuted b r rest) above a tries used h ended keeps there left i =
    elim (subst (λ (l : List Node). IsListed (f a) l) h.1.is i) [
      | inl e ↦ refuted_none s.web f (guessed above a b) r web carries (keeps_more f above a b keeps e)
          (there_more s.web above a b there left (subst (λ (n : Node). IsListed n s.web.right) e (carries.there a left))) h.2
      | inr j ↦ excludes s f web carries rest above a h.0 (suc used) h.3 ended keeps there left j
    ]
excludes s f web carries (Below b c below rest) above a tries used h ended keeps there left i =
    elim (subst (λ (l : List Node). IsListed (f a) l) h.1.is i) [
      | inl e ↦
          let kept : Keeps f (guessed above a b) = keeps_more f above a b keeps e in
          let all_there : (g : Guess Node) → IsListed g (guessed above a b) → (IsListed g.left s.web.left) × IsListed g.right s.web.right
          = there_more s.web above a b there left (subst (λ (n : Node). IsListed n s.web.right) e (carries.there a left)) in
          let agrees : agree (under s.web (guessed above a b)) h.2 c (f c) ≡ true
          = image_agrees (under s.web (guessed above a b)) f (under_web s.web (guessed above a b) web)
          (carries_under s.web f (guessed above a b) web carries kept all_there) h.2 c h.3.there in
          excludes s f web carries below (guessed above a b) c (candidates s (under s.web (guessed above a b)) h.2 c) used h.4 h.5 kept all_there h.3.there
          (is_candidate s (under s.web (guessed above a b)) h.2 c (f c) (carries.there c h.3.there) agrees)
      | inr j ↦ excludes s f web carries rest above a h.0 _ h.6 ended keeps there left j
    ]
excludes s f web carries (Open b c below) above a tries used h ended keeps there left i = ended

pub ended_none : (s : Setting) (found : Search) → IsWeb s.web → IsWholeSearch s found → HasEnded found → (f : Node → Node) → IsWebMap s.web f → ⊥
ended_none s found web whole ended f carries =
    excludes s f web carries found [] whole.node (candidates s s.web whole.round whole.node) 0 whole.search ended
    (λ g i. absurd i) (λ g i. absurd i) whole.chosen.there
    (is_candidate s s.web whole.round whole.node (f whole.node) (carries.there whole.node whole.chosen.there)
    (image_agrees s.web f web carries whole.round whole.node whole.chosen.there))

gives : (s : Setting) → IsWeb s.web → (t : Search) (above : List (Guess Node)) (a : Node) (tries : List Node) (used : ℕ)
    → IsSearch s above a tries used t → HasFound t → (f : Node → Node) × IsWebMap s.web f
gives s web Ended above a tries used h found = absurd found
gives s web Stopped above a tries used h found = absurd found
gives s web (Found b) above a tries used h found = (mate (under s.web (guessed above a b)) h.2.round, solved_under s.web (guessed above a b) web h.2)
gives s web (Refuted b r rest) above a tries used h found = gives s web rest above a h.0 (suc used) h.3 found
gives s web (Below b c below rest) above a tries used h found = gives s web rest above a h.0 _ h.6 found
gives s web (Open b c below) above a tries used h found = gives s web below (guessed above a b) c _ used h.4 found

pub found_some : (s : Setting) (found : Search) → IsWeb s.web → IsWholeSearch s found → HasFound found → (f : Node → Node) × IsWebMap s.web f
found_some s t web whole found = gives s web t [] whole.node _ 0 whole.search found

-- a search that stopped used up the limit
pub stopped_at : (s : Setting) (above : List (Guess Node)) (a : Node) (tries : List Node) (used : ℕ) (t : Search) → IsSearch s above a tries used t → HasStopped t → used + refuted_in t ≡ s.limit
stopped_at s above a tries used Ended h not = absurd (not.0 tt)
stopped_at s above a tries used Stopped h not = let e = h.1 in omega arith
stopped_at s above a tries used (Found b) h not = absurd (not.1 tt)
stopped_at s above a tries used (Refuted b r rest) h not = let e = stopped_at s above a h.0 (suc used) rest h.3 not in omega arith
stopped_at s above a tries used (Below b c below rest) h not = let e = stopped_at s above a h.0 (used + refuted_in below) rest h.6 not in omega arith
stopped_at s above a tries used (Open b c below) h not = stopped_at s (guessed above a b) c _ used below h.4 (h.5, not.1)

-- a search that ended or found stays under another limit that it doesn't use up
abbrev limit_of : Setting → ℕ → Setting
limit_of s limit = record { web = s.web; same_name = s.same_name; limit = limit }

within : (s : Setting) (limit : ℕ) (above : List (Guess Node)) (a : Node) (tries : List Node) (used : ℕ) (t : Search) → IsSearch s above a tries used t → HasEnded t ⊎ HasFound t → used + refuted_in t < limit
    → IsSearch (limit_of s limit) above a tries used t
within s limit above a tries used Ended h end low = h
within s limit above a tries used Stopped h end low = elim end [ inl e ↦ absurd e | inr e ↦ absurd e ]
within s limit above a tries used (Found b) h end low = (h.0, record { is = h.1.is; before = omega arith }, h.2)
within s limit above a tries used (Refuted b r rest) h end low = (h.0, record { is = h.1.is; before = omega arith }, h.2, within s limit above a h.0 (suc used) rest h.3 end (omega arith))
within s limit above a tries used (Below b c below rest) h end low = (
  h.0,
  record { is = h.1.is; before = omega arith },
  h.2,
  h.3,
  within s limit (guessed above a b) c _ used below h.4 (inl h.5) (omega arith),
  h.5,
  within s limit above a h.0 (used + refuted_in below) rest h.6 end (omega arith),
)
within s limit above a tries used (Open b c below) h end low =
    let found : HasFound below = elim end [ inl e ↦ absurd e | inr f ↦ f ] in
    (h.0, record { is = h.1.is; before = let l = low in omega arith }, h.2, h.3, within s limit (guessed above a b) c _ used below h.4 (inr found) low, h.5)

pub enough : (s : Setting) (found : Search) (limit : ℕ) → IsWholeSearch s found → HasEnded found ⊎ HasFound found → refuted_in found < limit → IsWholeSearch (limit_of s limit) found
enough s found limit whole end low =
    record { round = whole.round; node = whole.node; chosen = whole.chosen; search = within s limit _ whole.node _ 0 found whole.search end (omega arith) }
