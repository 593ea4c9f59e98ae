-- What may come next in a pattern, and what it allows.
use Rattle.std.proofs.Common.{◌≡◌, ◌⊎◌, inl, inr, ℕ, Bool, true, false, cond, List, [], ◌∷◌, ◌++◌, refl, sym, ap, subst, ◌∙◌, map}
use Rattle.std.proofs.lemmas.Bool.{or_cases, and_parts, or_left, or_right, and_from}
use Rattle.gds_grammar.specs.Pattern.{Pattern, Done, One, Then, Or, Many, Allows, EachOf, joined, may_be_empty, followed_by, Next, nexts}

-- membership
abbrev pub Among : Next → List Next → Type 0
Among n [] = ⊥
Among n (m ∷ ms) = (m ≡ n) ⊎ Among n ms

Among-left : (n : Next) (xs ys : List Next) → Among n xs → Among n (xs ++ ys)
Among-left n [] ys h = absurd h
Among-left n (x ∷ xs) ys (inl e) = inl e
Among-left n (x ∷ xs) ys (inr h) = inr (Among-left n xs ys h)

Among-right : (n : Next) (xs ys : List Next) → Among n ys → Among n (xs ++ ys)
Among-right n [] ys h = h
Among-right n (x ∷ xs) ys h = inr (Among-right n xs ys h)

Among-split : (n : Next) (xs ys : List Next) → Among n (xs ++ ys) → Among n xs ⊎ Among n ys
Among-split n [] ys h = inr h
Among-split n (x ∷ xs) ys (inl e) = inl (inl e)
Among-split n (x ∷ xs) ys (inr h) = elim (Among-split n xs ys h) [ inl a ↦ inl (inr a) | inr b ↦ inr b ]

abbrev with_rest : Pattern → Next → Next
with_rest b n = record { kind = n.kind; left = followed_by n.left b }

Among-map : (b : Pattern) (n : Next) (xs : List Next) → Among n xs → Among (with_rest b n) (map (with_rest b) xs)
Among-map b n [] h = absurd h
Among-map b n (x ∷ xs) (inl e) = inl (ap (with_rest b) e)
Among-map b n (x ∷ xs) (inr h) = inr (Among-map b n xs h)

Among-unmap : (b : Pattern) (n : Next) (xs : List Next) → Among n (map (with_rest b) xs) → (m : Next) × Among m xs × (with_rest b m ≡ n)
Among-unmap b n [] h = absurd h
Among-unmap b n (x ∷ xs) (inl e) = (x, inl refl, e)
Among-unmap b n (x ∷ xs) (inr h) = let u = Among-unmap b n xs h in (u.0, inr u.1, u.2)

followed_by-allows : (a b : Pattern) (ks : List ℕ) → Allows (followed_by a b) ks → Allows (Then a b) ks
followed_by-allows Done b ks h = ([], ks, refl, refl, h)
followed_by-allows (One k) b ks h = h
followed_by-allows (Then a c) b ks h = h
followed_by-allows (Or a c) b ks h = h
followed_by-allows (Many a) b ks h = h

allows-followed_by : (a b : Pattern) (ks : List ℕ) → Allows (Then a b) ks → Allows (followed_by a b) ks
allows-followed_by Done b ks h = let e : h.1 ≡ ks = sym (h.2 ∙ ap (λ (xs : List ℕ). xs ++ h.1) h.3) in subst (λ (zs : List ℕ). Allows b zs) e h.4
allows-followed_by (One k) b ks h = h
allows-followed_by (Then a c) b ks h = h
allows-followed_by (Or a c) b ks h = h
allows-followed_by (Many a) b ks h = h

-- each pattern allows some text
pub some_text : (p : Pattern) → (ks : List ℕ) × Allows p ks
some_text Done = ([], refl)
some_text (One k) = (k ∷ [], refl)
some_text (Then a b) = let u = some_text a in let v = some_text b in (u.0 ++ v.0, (u.0, v.0, refl, u.1, v.1))
some_text (Or a b) = let u = some_text a in (u.0, inl u.1)
some_text (Many a) = ([], ([], refl, tt))

-- the empty text
pub empty_allowed : (p : Pattern) → may_be_empty p ≡ true → Allows p []
empty_allowed Done e = refl
empty_allowed (One k) e = absurd cc
empty_allowed (Then a b) e = let both = and_parts (may_be_empty a) (may_be_empty b) e in ([], [], refl, empty_allowed a both.0, empty_allowed b both.1)
empty_allowed (Or a b) e = elim (or_cases (may_be_empty a) (may_be_empty b) e) [ inl h ↦ inl (empty_allowed a h) | inr h ↦ inr (empty_allowed b h) ]
empty_allowed (Many a) e = ([], refl, tt)

no_parts : (xs ys : List ℕ) → [] ≡ xs ++ ys → (xs ≡ []) × (ys ≡ [])
no_parts [] ys e = (refl, sym e)
no_parts (x ∷ xs) ys e = absurd cc

pub allowed_empty : (p : Pattern) → Allows p [] → may_be_empty p ≡ true
allowed_empty Done h = refl
allowed_empty (One k) h = absurd cc
allowed_empty (Then a b) h =
    let e = no_parts h.0 h.1 h.2 in
    and_from (may_be_empty a) (may_be_empty b) (allowed_empty a (subst (λ (xs : List ℕ). Allows a xs) e.0 h.3)) (allowed_empty b (subst (λ (ys : List ℕ). Allows b ys) e.1 h.4))
allowed_empty (Or a b) (inl h) = or_left (may_be_empty a) (may_be_empty b) (allowed_empty a h)
allowed_empty (Or a b) (inr h) = or_right (may_be_empty a) (may_be_empty b) (allowed_empty b h)
allowed_empty (Many a) h = refl

-- a step is in the pattern
pub steps_in : (p : Pattern) (n : Next) (ks : List ℕ) → Among n (nexts p) → Allows n.left ks → Allows p (n.kind ∷ ks)
steps_in Done n ks m h = absurd m
steps_in (One k) n ks (inl e) h =
    let left : n.left ≡ Done = sym (ap (λ (x : Next). x.left) e) in
    let none : ks ≡ [] = subst (λ (q : Pattern). Allows q ks) left h in
    let kind : n.kind ≡ k = sym (ap (λ (x : Next). x.kind) e) in cc
steps_in (One k) n ks (inr m) h = absurd m
steps_in (Then a b) n ks m h =
    elim (Among-split n (map (with_rest b) (nexts a)) (cond (may_be_empty a) (nexts b) []) m) [
      | inl here ↦
          let u = Among-unmap b n (nexts a) here in
          let left : followed_by u.0.left b ≡ n.left = ap (λ (x : Next). x.left) u.2 in
          let kind : u.0.kind ≡ n.kind = ap (λ (x : Next). x.kind) u.2 in
          let t = followed_by-allows u.0.left b ks (subst (λ (q : Pattern). Allows q ks) (sym left) h) in
          let first = steps_in a u.0 t.0 u.1 t.3 in
          (n.kind ∷ t.0, t.1, ap (λ (xs : List ℕ). n.kind ∷ xs) t.2, subst (λ (k : ℕ). Allows a (k ∷ t.0)) kind first, t.4)
      | inr there ↦
          let both = when_empty (may_be_empty a) (nexts b) n there in
          ([], n.kind ∷ ks, refl, empty_allowed a both.0, steps_in b n ks both.1 h)
    ]
  where
    when_empty : (e : Bool) (xs : List Next) (n : Next) → Among n (cond e xs []) → (e ≡ true) × Among n xs
    when_empty true xs n h = (refl, h)
    when_empty false xs n h = absurd h
steps_in (Or a b) n ks m h =
    elim (Among-split n (nexts a) (nexts b) m) [
      | inl here ↦ inl (steps_in a n ks here h)
      | inr there ↦ inr (steps_in b n ks there h)
    ]
steps_in (Many a) n ks m h =
    let u = Among-unmap (Many a) n (nexts a) m in
    let left : followed_by u.0.left (Many a) ≡ n.left = ap (λ (x : Next). x.left) u.2 in
    let kind : u.0.kind ≡ n.kind = ap (λ (x : Next). x.kind) u.2 in
    let t = followed_by-allows u.0.left (Many a) ks (subst (λ (q : Pattern). Allows q ks) (sym left) h) in
    let first = steps_in a u.0 t.0 u.1 t.3 in
    let first' = subst (λ (k : ℕ). Allows a (k ∷ t.0)) kind first in
    let rest = t.4 in
    let e : n.kind ∷ ks ≡ joined ((n.kind ∷ t.0) ∷ rest.0) = ap (λ (xs : List ℕ). n.kind ∷ xs) (t.2 ∙ ap (λ (ys : List ℕ). t.0 ++ ys) rest.1) in
    ((n.kind ∷ t.0) ∷ rest.0, e, (first', rest.2))

when : (e : Bool) (xs : List Next) (n : Next) → e ≡ true → Among n xs → Among n (cond e xs [])
when true xs n e h = h
when false xs n e h = absurd cc

-- the first part of parts that begin with a kind and that isn't empty
first_part : (P : List ℕ → Type 0) (parts : List (List ℕ)) (k : ℕ) (ks : List ℕ) → k ∷ ks ≡ joined parts → EachOf P parts
    → (xs : List ℕ) × (rest : List (List ℕ)) × (ks ≡ xs ++ joined rest) × P (k ∷ xs) × EachOf P rest
first_part P [] k ks e h = absurd cc
first_part P ([] ∷ parts) k ks e h = first_part P parts k ks e h.1
first_part P ((x ∷ xs) ∷ parts) k ks e h =
    let head : x ≡ k = cc in
    (xs, parts, cc, subst (λ (j : ℕ). P (j ∷ xs)) head h.0, h.1)

abbrev Steps : Pattern → ℕ → List ℕ → Type 0
Steps p k ks = (n : Next) × Among n (nexts p) × (n.kind ≡ k) × Allows n.left ks

steps_then : (a b : Pattern) (k : ℕ) (ks xs ys : List ℕ) → k ∷ ks ≡ xs ++ ys → Allows a xs → Allows b ys
    → ((js : List ℕ) → Allows a (k ∷ js) → Steps a k js) → (Allows b (k ∷ ks) → Steps b k ks) → Steps (Then a b) k ks
steps_then a b k ks [] ys e ha hb in_a in_b =
    let u = in_b (subst (λ (zs : List ℕ). Allows b zs) (sym e) hb) in
    (u.0, Among-right u.0 (map (with_rest b) (nexts a)) (cond (may_be_empty a) (nexts b) []) (when (may_be_empty a) (nexts b) u.0 (allowed_empty a ha) u.1), u.2, u.3)
steps_then a b k ks (x ∷ xs) ys e ha hb in_a in_b =
    let head : x ≡ k = cc in
    let tail : ks ≡ xs ++ ys = cc in
    let u = in_a xs (subst (λ (j : ℕ). Allows a (j ∷ xs)) head ha) in
    let left = allows-followed_by u.0.left b ks (xs, ys, tail, u.3, hb) in
    (with_rest b u.0, Among-left (with_rest b u.0) (map (with_rest b) (nexts a)) (cond (may_be_empty a) (nexts b) []) (Among-map b u.0 (nexts a) u.1), u.2, left)

-- what a pattern allows begins with a step of it
pub steps_of : (p : Pattern) (k : ℕ) (ks : List ℕ) → Allows p (k ∷ ks) → (n : Next) × Among n (nexts p) × (n.kind ≡ k) × Allows n.left ks
steps_of Done k ks h = absurd cc
steps_of (One j) k ks h =
    let e : ks ≡ [] = cc in
    let f : j ≡ k = cc in
    let none : Next = record { kind = j; left = Done } in
    (none, inl refl, f, e)
steps_of (Then a b) k ks (xs, ys, e, ha, hb) = steps_then a b k ks xs ys e ha hb (λ js h. steps_of a k js h) (λ h. steps_of b k ks h)
steps_of (Or a b) k ks (inl h) = let u = steps_of a k ks h in (u.0, Among-left u.0 (nexts a) (nexts b) u.1, u.2, u.3)
steps_of (Or a b) k ks (inr h) = let u = steps_of b k ks h in (u.0, Among-right u.0 (nexts a) (nexts b) u.1, u.2, u.3)
steps_of (Many a) k ks (parts, e, each) =
    let f = first_part (λ xs. Allows a xs) parts k ks e each in
    let u = steps_of a k f.0 f.3 in
    let left = allows-followed_by u.0.left (Many a) ks (f.0, joined f.1, f.2, u.3, (f.1, refl, f.4)) in
    (with_rest (Many a) u.0, Among-map (Many a) u.0 (nexts a) u.1, u.2, left)
