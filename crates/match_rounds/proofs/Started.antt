-- The classes before the first round.
use Rattle.std.proofs.Common.{◌≡◌, ◌⊎◌, inl, inr, ◌↔◌, ◌<◌, ◌+◌, ◌-◌, ℕ, Bool, true, false, List, [], ◌∷◌, ◌++◌, length, map, take, slice_index, refl, sym, subst, ◌∙◌, ap, arith, true≢false}
use Rattle.std.specs.Bool.{beq}
use Rattle.round_laws.specs.Web.{Web, IsNode, Guess, names, alike_under}
use Rattle.round_laws.specs.Colours.{AreColours}
use Rattle.round_laws.proofs.Agree.{first, second}
use Rattle.match_laws.proofs.Sums.{in_numbers, numbers_has}
use Rattle.std.proofs.lemmas.Bool.{cases_lt, and_from}
use Rattle.std.proofs.lemmas.List.{take_more}
use Rattle.std.proofs.lemmas.Bool.Decides.{Decides-eqb}
use Rattle.match_graph.specs.declared.graph.Graph.{Graph}
use Rattle.match_graph.specs.Graph.{graph_web, kind_at, left_of, nodes_of}
use Rattle.match_rounds.specs.declared.classes.Classes.{Classes}
use Rattle.match_rounds.specs.declared.groups.Part.{Part}
use Rattle.match_rounds.specs.Classes.{class_in, is_fresh, KeepsFresh}
use Rattle.match_rounds.specs.Pieces.{ArePartedBy, HasCount}
use Rattle.match_rounds.specs.Pairs.{IsPairParted}
use Rattle.match_rounds.specs.Start.{plain_guess, guessed_web, guess_at, AreKindParts, AreStarted}

has_kind : (g : Graph) (parts : List Part) (n a v : ℕ) → AreKindParts g parts n → HasCount parts (length parts) a v → kind_at g a ≡ v
has_kind g parts n a v h t =
    let long = h.long in
    let l = t.1 in
    let is : t.0 ≡ a = sym (h.node t.0 (omega arith)) ∙ t.2 in
    ap (kind_at g) (sym is) ∙ (sym (h.count t.0 (omega arith)) ∙ t.3)

of_kind : (g : Graph) (parts : List Part) (n a : ℕ) → AreKindParts g parts n → a < n → HasCount parts (length parts) a (kind_at g a)
of_kind g parts n a h l = (a, (let long = h.long in omega arith), h.node a l, h.count a l)

pub kinds : (g : Graph) (old new : List ℕ) (parts : List Part) (n : ℕ) → AreKindParts g parts n → ArePartedBy old new parts (length parts) n → ((a : ℕ) → a < n → slice_index old a ≡ 0)
    → (a b : ℕ) → a < n → b < n → (slice_index new a ≡ slice_index new b) ↔ (kind_at g a ≡ kind_at g b)
kinds g old new parts n h parted one a b la lb = (
  (λ e. sym (has_kind g parts n b (kind_at g a) h ((((parted a b la lb).0 e).1 (kind_at g a)).0 (of_kind g parts n a h la)))),
  (λ e. (parted a b la lb).1 (
    one a la ∙ sym (one b lb),
    (λ v. (
      (λ t. subst (λ (x : ℕ). HasCount parts (length parts) b x) (sym e ∙ has_kind g parts n a v h t) (of_kind g parts n b h lb)),
      (λ t. subst (λ (x : ℕ). HasCount parts (length parts) a x) (e ∙ has_kind g parts n b v h t) (of_kind g parts n a h la)),
    )),
  )),
)

pub node_below : (g : Graph) (a : ℕ) → IsNode (graph_web g) a → a < nodes_of g
node_below g a (inl h) = let b = in_numbers a 0 (left_of g) h in let hi = b.1 in omega arith
node_below g a (inr h) = let b = in_numbers a (left_of g) (nodes_of g - left_of g) h in let hi = b.1 in omega arith

pub below_node : (g : Graph) (a : ℕ) → a < nodes_of g → IsNode (graph_web g) a
below_node g a l = elim (cases_lt a (left_of g)) [
  | inl k ↦ inl (numbers_has a 0 (left_of g) (omega arith) (omega arith))
  | inr k ↦ inr (numbers_has a (left_of g) (nodes_of g - left_of g) k (omega arith))
]

beq_same : (x y : Bool) → beq x y ≡ true → x ≡ y
beq_same true true h = refl
beq_same false false h = refl
beq_same true false h = absurd (true≢false (sym h))
beq_same false true h = absurd (true≢false (sym h))

same_beq : (x y : Bool) → x ≡ y → beq x y ≡ true
same_beq true true h = refl
same_beq false false h = refl
same_beq true false h = absurd (true≢false h)
same_beq false true h = absurd (true≢false (sym h))

-- the last guess of a list
alike_last : (w : Web ℕ) (gs : List (Guess ℕ)) (g : Guess ℕ) (a b : ℕ) → (alike_under w (gs ++ g ∷ []) a b ≡ true) ↔ ((alike_under w gs a b ≡ true) × (names w g a ≡ names w g b))
alike_last w [] g a b = (
  (λ t. (second (beq (names w g a) (names w g b)) (w.alike a b) t, beq_same (names w g a) (names w g b) (first (beq (names w g a) (names w g b)) (w.alike a b) t))),
  (λ t. and_from (beq (names w g a) (names w g b)) (w.alike a b) (same_beq (names w g a) (names w g b) t.1) t.0),
)
alike_last w (o ∷ gs) g a b =
    let h = alike_last w gs g a b in (
      (λ t.
          let here = first (beq (names w o a) (names w o b)) (alike_under w (gs ++ g ∷ []) a b) t in
          let rest = h.0 (second (beq (names w o a) (names w o b)) (alike_under w (gs ++ g ∷ []) a b) t) in
          (and_from (beq (names w o a) (names w o b)) (alike_under w gs a b) here rest.0, rest.1)),
      (λ t.
          let here = first (beq (names w o a) (names w o b)) (alike_under w gs a b) t.0 in
          let rest = second (beq (names w o a) (names w o b)) (alike_under w gs a b) t.0 in
          and_from (beq (names w o a) (names w o b)) (alike_under w (gs ++ g ∷ []) a b) here (h.1 (rest, t.1))),
    )

pub map_last : (gs : List (ℕ × ℕ)) (g : ℕ × ℕ) → map plain_guess (gs ++ g ∷ []) ≡ map plain_guess gs ++ plain_guess g ∷ []
map_last [] g = refl
map_last (o ∷ gs) g = ap (λ (xs : List (Guess ℕ)). plain_guess o ∷ xs) (map_last gs g)

pub none : (g : Graph) (c : Classes) (guesses : List (ℕ × ℕ)) → ((a b : ℕ) → a < nodes_of g → b < nodes_of g → (class_in c a ≡ class_in c b) ↔ (kind_at g a ≡ kind_at g b)) → AreStarted g (take 0 guesses) c
none g c guesses h a b la lb = ((λ e. (Decides-eqb (kind_at g a) (kind_at g b)).1 ((h a b la lb).0 e)), (λ t. (h a b la lb).1 ((Decides-eqb (kind_at g a) (kind_at g b)).0 t)))

pub more : (g : Graph) (old new : Classes) (guesses : List (ℕ × ℕ)) (i : ℕ) → i < length guesses → AreStarted g (take i guesses) old
    → IsPairParted old new (guess_at guesses i).0 (guess_at guesses i).1 (nodes_of g) → AreStarted g (take (i + 1) guesses) new
more g old new guesses i l h parted a b la lb =
    let p = parted a b la lb in
    let o = h a b la lb in
    let last = alike_last (graph_web g) (map plain_guess (take i guesses)) (plain_guess (guess_at guesses i)) a b in
    let list : map plain_guess (take (i + 1) guesses) ≡ map plain_guess (take i guesses) ++ plain_guess (guess_at guesses i) ∷ []
    = ap (map plain_guess) (take_more guesses i (0, 0) l) ∙ map_last (take i guesses) (guess_at guesses i) in (
      (λ e. let q = p.0 e in ap (λ (gs : List (Guess ℕ)). alike_under (graph_web g) gs a b) list ∙ last.1 (o.0 q.0, q.1)),
      (λ t. let q = last.0 (ap (λ (gs : List (Guess ℕ)). alike_under (graph_web g) gs a b) (sym list) ∙ t) in p.1 (o.1 q.0, q.1)),
    )

pub colours : (g : Graph) (c : Classes) (guesses : List (ℕ × ℕ)) → AreStarted g guesses c → AreColours (guessed_web g guesses) 0 (class_in c)
colours g c guesses h a b na nb = h a b (node_below g a na) (node_below g b nb)

pub all_fresh : (old new : Classes) (n : ℕ) → KeepsFresh old new n → ((a : ℕ) → a < n → is_fresh old a ≡ true) → (a : ℕ) → a < n → is_fresh new a ≡ true
all_fresh old new n h all a l = elim (is_it (is_fresh new a)) [
  | inl t ↦ t
  | inr f ↦ absurd (true≢false (sym (all a l) ∙ h.older a l f))
]
  where
    is_it : (t : Bool) → (t ≡ true) ⊎ (t ≡ false)
    is_it true = inl refl
    is_it false = inr refl

take_all : {X : Type 0} (xs : List X) → take (length xs) xs ≡ xs
take_all [] = refl
take_all (x ∷ xs) = ap (λ ys. x ∷ ys) (take_all xs)

pub at_end : (g : Graph) (c : Classes) (guesses : List (ℕ × ℕ)) (i : ℕ) → i ≡ length guesses → AreStarted g (take i guesses) c → AreColours (guessed_web g guesses) 0 (class_in c)
at_end g c guesses i e h = colours g c guesses (subst (λ (gs : List (ℕ × ℕ)). AreStarted g gs c) (ap (λ (k : ℕ). take k guesses) e ∙ take_all guesses) h)
