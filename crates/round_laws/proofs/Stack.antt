-- Steps of a search that is under way.
use Rattle.std.proofs.Common.{◌≡◌, ◌↔◌, ℕ, suc, ◌+◌, List, [], ◌∷◌, ◌++◌, length, ap₂, refl, sym, subst, ◌∙◌, ap, arith, append_assoc}
use Rattle.round_laws.specs.Web.{IsRefuted, Guess, under}
use Rattle.round_laws.specs.Nodes.{Node}
use Rattle.round_laws.specs.Guesses.{Setting, candidates, Search, Ended, Refuted, Below, Open, refuted_in, HasEnded, HasFound, solved_guesses, guessed, IsNext, IsSearch, Row, IsRefutedIn, IsBelow, IsOpen, rows}
use Rattle.round_laws.specs.Stack.{Entry, WasRefuted, WasBelow, add, refuted_of, Level, used, IsLevel, IsUnder, IsStack, refute, pass, outer_rows, IsClosed}

add_last : (done : List Entry) (e : Entry) (t : Search) → add (done ++ e ∷ []) t ≡ add done (add (e ∷ []) t)
add_last [] e t = refl
add_last (WasRefuted b r ∷ es) e t = ap (Refuted b r) (add_last es e t)
add_last (WasBelow b c below ∷ es) e t = ap (Below b c below) (add_last es e t)

refuted_last : (done : List Entry) (e : Entry) → refuted_of (done ++ e ∷ []) ≡ refuted_of done + refuted_of (e ∷ [])
refuted_last [] e = omega arith
refuted_last (WasRefuted b r ∷ es) e = let h = refuted_last es e in omega arith
refuted_last (WasBelow b c below ∷ es) e = let h = refuted_last es e in omega arith

refuted_add : (done : List Entry) → refuted_in (add done Ended) ≡ refuted_of done
refuted_add [] = refl
refuted_add (WasRefuted b r ∷ es) = ap suc (refuted_add es)
refuted_add (WasBelow b c below ∷ es) = ap (λ (n : ℕ). refuted_in below + n) (refuted_add es)

ended_add : (done : List Entry) (t : Search) → HasEnded (add done t) ≡ HasEnded t
ended_add [] t = refl
ended_add (WasRefuted b r ∷ es) t = ended_add es t
ended_add (WasBelow b c below ∷ es) t = ended_add es t

ended_back : (done : List Entry) (t : Search) → HasEnded (add done t) → HasEnded t
ended_back [] t h = h
ended_back (WasRefuted b r ∷ es) t h = ended_back es t h
ended_back (WasBelow b c below ∷ es) t h = ended_back es t h

ended_forth : (done : List Entry) → HasEnded (add done Ended)
ended_forth [] = tt
ended_forth (WasRefuted b r ∷ es) = ended_forth es
ended_forth (WasBelow b c below ∷ es) = ended_forth es

pub refutes : (s : Setting) (l : Level) (b : Node) (r : ℕ) (bs : List Node) → IsLevel s l → IsNext s l.rest (used l) b bs → IsRefuted (under s.web (guessed l.above l.node b)) r → IsLevel s (refute l b r bs)
refutes s l b r bs level next refuted = λ t h.
    let e : l.start + refuted_of (l.done ++ WasRefuted b r ∷ []) ≡ suc (used l) = let x = refuted_last l.done (WasRefuted b r) in omega arith in
    subst (λ (u : Search). IsSearch s l.above l.node l.tries l.start u) (sym (add_last l.done (WasRefuted b r) t))
    (level (Refuted b r t) (bs, next, refuted, subst (λ (n : ℕ). IsSearch s l.above l.node bs n t) e h))

-- what the inner level comes to, seen from the outer one
inner_search : (s : Setting) (o l : Level) (h : IsUnder s o l) (t : Search) → IsSearch s l.above l.node l.tries l.start t
    → IsSearch s (guessed o.above o.node h.right) l.node (candidates s (under s.web (guessed o.above o.node h.right)) h.round l.node) (used o) t
inner_search s o l h t k =
    subst (λ (n : ℕ). IsSearch s (guessed o.above o.node h.right) l.node (candidates s (under s.web (guessed o.above o.node h.right)) h.round l.node) n t) h.start
    (subst (λ (xs : List Node). IsSearch s (guessed o.above o.node h.right) l.node xs l.start t) h.tries
    (subst (λ (gs : List (Guess Node)). IsSearch s gs l.node l.tries l.start t) h.above k))

pub passes : (s : Setting) (o l : Level) (h : IsUnder s o l) → IsLevel s o → IsLevel s l → l.rest ≡ [] → IsLevel s (pass o h.right l.node (add l.done Ended) h.rest)
passes s o l h outer inner rest = λ t k.
    let below : Search = add l.done Ended in
    let search : IsSearch s l.above l.node l.tries l.start (add l.done Ended) = inner Ended rest in
    let e : o.start + refuted_of (o.done ++ WasBelow h.right l.node (add l.done Ended) ∷ []) ≡ used o + refuted_in (add l.done Ended) = let x = refuted_last o.done (WasBelow h.right l.node (add l.done Ended)) in omega arith in
    subst (λ (u : Search). IsSearch s o.above o.node o.tries o.start u) (sym (add_last o.done (WasBelow h.right l.node (add l.done Ended)) t))
    (outer (Below h.right l.node (add l.done Ended) t) (
      h.rest,
      h.next,
      h.round,
      h.chosen,
      inner_search s o l h (add l.done Ended) search,
      ended_forth l.done,
      subst (λ (n : ℕ). IsSearch s o.above o.node h.rest n t) e k,
    ))

pub rows_add : (depth : ℕ) (a : Node) (done : List Entry) (t : Search) → rows depth a (add done t) ≡ rows depth a (add done Ended) ++ rows depth a t
rows_add depth a [] t = refl
rows_add depth a (WasRefuted b r ∷ es) t = ap (λ (l : List Row). record { depth = depth; left = a; right = b; outcome = IsRefutedIn r } ∷ l) (rows_add depth a es t)
rows_add depth a (WasBelow b c below ∷ es) t =
    ap (λ (l : List Row). record { depth = depth; left = a; right = b; outcome = IsBelow } ∷ l)
    (ap (λ (l : List Row). rows (suc depth) c below ++ l) (rows_add depth a es t) ∙ sym (append_assoc (rows (suc depth) c below) (rows depth a (add es Ended)) (rows depth a t)))

found_add : (done : List Entry) (t : Search) → HasFound (add done t) ↔ HasFound t
found_add [] t = ((λ h. h), (λ h. h))
found_add (WasRefuted b r ∷ es) t = found_add es t
found_add (WasBelow b c below ∷ es) t = found_add es t

guesses_add : (above : List (Guess Node)) (a : Node) (done : List Entry) (t : Search) → solved_guesses above a (add done t) ≡ solved_guesses above a t
guesses_add above a [] t = refl
guesses_add above a (WasRefuted b r ∷ es) t = guesses_add above a es t
guesses_add above a (WasBelow b c below ∷ es) t = guesses_add above a es t

level_of : (s : Setting) (first o : Level) (os : List Level) → IsStack s first o os → IsLevel s o
level_of s first o [] stack = stack.4
level_of s first o (p ∷ ps) stack = stack.0

-- one row between two lists
between : (xs ys : List Row) (r : Row) (zs : List Row) → xs ++ (ys ++ r ∷ zs) ≡ (xs ++ (ys ++ r ∷ [])) ++ zs
between xs ys r zs = ap (λ (l : List Row). xs ++ l) (sym (append_assoc ys (r ∷ []) zs)) ∙ sym (append_assoc xs (ys ++ r ∷ []) zs)

pub closes : (s : Setting) (first l : Level) (os : List Level) (t : Search) (stack : IsStack s first l os) → IsSearch s l.above l.node l.tries l.start t → (HasEnded t → ⊥)
    → (whole : Search) × IsClosed s first l os stack t whole
closes s first l [] t stack h not = (
  t,
  record {
    search = subst (λ (n : ℕ). IsSearch s first.above first.node first.tries n t) (sym stack.3)
        (subst (λ (xs : List Node). IsSearch s first.above first.node xs l.start t) (sym stack.2)
        (subst (λ (x : Node). IsSearch s first.above x l.tries l.start t) (sym stack.1)
        (subst (λ (gs : List (Guess Node)). IsSearch s gs l.node l.tries l.start t) (sym stack.0) h)));
    unended = not;
    found = ((λ f. f), (λ f. f));
    guesses = ap₂ (λ (gs : List (Guess Node)) (x : Node). solved_guesses gs x t) stack.0 stack.1;
    report = ap (λ (x : Node). rows 1 x t) stack.1;
  },
)
closes s first l (o ∷ os) t stack h not =
    let u : IsUnder s o l = stack.1 in
    let here : IsSearch s o.above o.node o.rest (used o) (Open u.right l.node t) = (u.rest, u.next, u.round, u.chosen, inner_search s o l u t h, not) in
    let next = closes s first o os (add o.done (Open u.right l.node t)) stack.2 (level_of s first o os stack.2 (Open u.right l.node t) here) (λ e. ended_back o.done (Open u.right l.node t) e) in
    let c = next.1 in
    let f = found_add o.done (Open u.right l.node t) in
    let depth : ℕ = suc (length os) in (
      next.0,
      record {
        search = c.search;
        unended = c.unended;
        found = ((λ x. f.0 (c.found.0 x)), (λ x. c.found.1 (f.1 x)));
        guesses = c.guesses ∙ (guesses_add o.above o.node o.done (Open u.right l.node t) ∙ ap (λ (gs : List (Guess Node)). solved_guesses gs l.node t) (sym u.above));
        report = c.report
            ∙ (ap (λ (rs : List Row). outer_rows s first o os stack.2 ++ rs) (rows_add depth o.node o.done (Open u.right l.node t))
            ∙ between (outer_rows s first o os stack.2) (rows depth o.node (add o.done Ended)) (record { depth = depth; left = o.node; right = u.right; outcome = IsOpen }) (rows (suc depth) l.node t));
      },
    )
