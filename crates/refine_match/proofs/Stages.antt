-- The stages of a search that is under way.
use Rattle.std.proofs.Common.{◌≡◌, ◌↔◌, ℕ, suc, ◌+◌, true, List, [], ◌∷◌, ◌++◌, filter, length, refl, sym, ◌∙◌, ap, arith}
use Rattle.std.proofs.lemmas.List.{length-append}
use Rattle.round_laws.specs.Web.{Guess}
use Rattle.round_laws.specs.Nodes.{Node}
use Rattle.round_laws.specs.Guesses.{Setting, Search, Ended, Refuted, Below, refuted_in, HasEnded, HasFound, rows, solved_guesses}
use Rattle.round_laws.specs.Stack.{Entry, WasRefuted, WasBelow, add, refuted_of, Level as Stage, IsLevel, IsStack, outer_rows}
use Rattle.round_laws.proofs.Stack.{rows_add}
use Rattle.match_laws.specs.Circuits.{Pair}
use Rattle.refine_match.specs.Searching.{setting_in, AreOuterOf}
use Rattle.refine_match.specs.declared.searching.Level.{Level}

-- a stage that has tried more
abbrev pub further : Stage → List Entry → List Node → Stage
further l done rest = record {
  above = l.above;
  node = l.node;
  tries = l.tries;
  start = l.start;
  done = done;
  rest = rest;
}

pub stage_level : (s : Setting) (first l : Stage) (os : List Stage) → IsStack s first l os → IsLevel s l
stage_level s first l [] stack = stack.4
stage_level s first l (o ∷ os) stack = stack.0

abbrev pub restack : (s : Setting) (first l : Stage) (os : List Stage) (done : List Entry) (rest : List Node) → IsStack s first l os → IsLevel s (further l done rest) → IsStack s first (further l done rest) os
restack s first l [] done rest stack level = (stack.0, stack.1, stack.2, stack.3, level)
restack s first l (o ∷ os) done rest stack level = (
  level,
  record {
    right = stack.1.right;
    rest = stack.1.rest;
    next = stack.1.next;
    round = stack.1.round;
    chosen = stack.1.chosen;
    above = stack.1.above;
    tries = stack.1.tries;
    start = stack.1.start;
  },
  stack.2,
)

-- the stages above are as they were
pub restack_rows : (s : Setting) (first l : Stage) (os : List Stage) (done : List Entry) (rest : List Node) (stack : IsStack s first l os) (level : IsLevel s (further l done rest))
    → outer_rows s first (further l done rest) os (restack s first l os done rest stack level) ≡ outer_rows s first l os stack
restack_rows s first l [] done rest stack level = refl
restack_rows s first l (o ∷ os) done rest stack level = refl

pub restack_levels : (p : Pair) (limit : ℕ) (first l : Stage) (os : List Stage) (done : List Entry) (rest : List Node) (stack : IsStack (setting_in p limit) first l os)
    (level : IsLevel (setting_in p limit) (further l done rest)) (vs : List Level)
    → AreOuterOf p limit first l os stack vs → AreOuterOf p limit first (further l done rest) os (restack (setting_in p limit) first l os done rest stack level) vs
restack_levels p limit first l [] done rest stack level vs h = h
restack_levels p limit first l (o ∷ os) done rest stack level vs h = h

-- as many levels as stages, and as many guesses
pub level_count : (p : Pair) (limit : ℕ) (first l : Stage) (os : List Stage) (stack : IsStack (setting_in p limit) first l os) (vs : List Level) → AreOuterOf p limit first l os stack vs → length vs ≡ length os
level_count p limit first l [] stack vs h = ap length h
level_count p limit first l (o ∷ os) stack vs h =
    let rest = level_count p limit first o os stack.2 h.0 h.5 in
    let e : length vs ≡ length h.0 + 1 = ap length h.2 ∙ length-append h.0 (h.1 ∷ []) in
    omega arith

pub guess_count : (s : Setting) (first l : Stage) (os : List Stage) → IsStack s first l os → first.above ≡ [] → length l.above ≡ length os
guess_count s first l [] stack none = ap length (sym stack.0 ∙ none)
guess_count s first l (o ∷ os) stack none =
    let rest = guess_count s first o os stack.2 none in
    let q : Guess Node = record { left = o.node; right = stack.1.right } in
    let e : length l.above ≡ length o.above + 1 = ap length stack.1.above ∙ length-append o.above (q ∷ []) in
    omega arith

-- one entry more
pub add_one : (done : List Entry) (e : Entry) (t : Search) → add (done ++ e ∷ []) t ≡ add done (add (e ∷ []) t)
add_one [] e t = refl
add_one (WasRefuted b r ∷ es) e t = ap (Refuted b r) (add_one es e t)
add_one (WasBelow b c below ∷ es) e t = ap (Below b c below) (add_one es e t)

pub refuted_one : (done : List Entry) (e : Entry) → refuted_of (done ++ e ∷ []) ≡ refuted_of done + refuted_of (e ∷ [])
refuted_one [] e = omega arith
refuted_one (WasRefuted b r ∷ es) e = let h = refuted_one es e in omega arith
refuted_one (WasBelow b c below ∷ es) e = let h = refuted_one es e in omega arith

pub refuted_all : (done : List Entry) → refuted_in (add done Ended) ≡ refuted_of done
refuted_all [] = refl
refuted_all (WasRefuted b r ∷ es) = ap suc (refuted_all es)
refuted_all (WasBelow b c below ∷ es) = ap (λ (n : ℕ). refuted_in below + n) (refuted_all es)

pub rows_one : (depth : ℕ) (a : Node) (done : List Entry) (e : Entry) → rows depth a (add (done ++ e ∷ []) Ended) ≡ rows depth a (add done Ended) ++ rows depth a (add (e ∷ []) Ended)
rows_one depth a done e = ap (rows depth a) (add_one done e Ended) ∙ rows_add depth a done (add (e ∷ []) Ended)

pub not_ended : (done : List Entry) (t : Search) → HasEnded (add done t) → HasEnded t
not_ended [] t h = h
not_ended (WasRefuted b r ∷ es) t h = not_ended es t h
not_ended (WasBelow b c below ∷ es) t h = not_ended es t h

pub has_ended : (done : List Entry) → HasEnded (add done Ended)
has_ended [] = tt
has_ended (WasRefuted b r ∷ es) = has_ended es
has_ended (WasBelow b c below ∷ es) = has_ended es

-- all candidates are behind no candidate
pub all_behind : {X : Type 0} (xs : List X) → xs ≡ filter (λ x. true) xs
all_behind [] = refl
all_behind {X} (x ∷ xs) = ap (λ (zs : List X). x ∷ zs) (all_behind xs)

pub found_all : (done : List Entry) (t : Search) → HasFound (add done t) ↔ HasFound t
found_all [] t = ((λ h. h), (λ h. h))
found_all (WasRefuted b r ∷ es) t = found_all es t
found_all (WasBelow b c below ∷ es) t = found_all es t

pub guesses_all : (above : List (Guess Node)) (a : Node) (done : List Entry) (t : Search) → solved_guesses above a (add done t) ≡ solved_guesses above a t
guesses_all above a [] t = refl
guesses_all above a (WasRefuted b r ∷ es) t = guesses_all above a es t
guesses_all above a (WasBelow b c below ∷ es) t = guesses_all above a es t
