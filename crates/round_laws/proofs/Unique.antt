-- The pair and the limit determine the search.
use Rattle.std.proofs.Common.{◌≡◌, ◌⊎◌, inl, inr, ℕ, zero, suc, ◌+◌, ◌<◌, ◌≤◌, ◌&&◌, cond, not, Bool, List, [], ◌∷◌, ◌++◌, filter, refl, sym, subst, ◌∙◌, ap, ap₂, arith}
use Rattle.std.proofs.Math.Decide.{ℕ_discrete}
use Rattle.plain_netlist.specs.Lists.{IsListed}
use Rattle.round_laws.specs.Web.{Web, IsWeb, IsNode, agree, on_left, IsEven, IsStable, IsRefuted, IsSolved, Guess, under}
use Rattle.round_laws.specs.Nodes.{Node, Side, Kind, Net, Device, Call}
use Rattle.round_laws.specs.Guesses.{Setting, rank, IsNoLater, IsChosen, candidates, Search, Ended, Stopped, Found, Refuted, Below, Open, refuted_in, HasEnded, guessed, IsNext, IsSearch, IsWholeSearch}
use Rattle.round_laws.proofs.Agree.{count_same, under_web}
use Rattle.round_laws.proofs.Stable.{stays}

pub node_is : (a b : Node) → a.side ≡ b.side → a.kind ≡ b.kind → a.number ≡ b.number → a ≡ b
node_is a b s k n =
    ap (λ (x : Side). let m : Node = record { side = x; kind = a.kind; number = a.number } in m) s
    ∙ (ap (λ (x : Kind). let m : Node = record { side = b.side; kind = x; number = a.number } in m) k
    ∙ ap (λ (x : ℕ). let m : Node = record { side = b.side; kind = b.kind; number = x } in m) n)

pub either_way : (i j : ℕ) → (i ≤ j) ⊎ (j ≤ i)
either_way zero j = inl (omega arith)
either_way (suc i) zero = inr (omega arith)
either_way (suc i) (suc j) = elim (either_way i j) [ inl h ↦ inl (omega arith) | inr h ↦ inr (omega arith) ]

-- two stable rounds have the same classes
pub same_stable : {N : Type 0} (w : Web N) (j k : ℕ) → IsWeb w → IsStable w j → IsStable w k → (a b : N) → IsNode w a → IsNode w b → agree w j a b ≡ agree w k a b
same_stable w j k web sj sk a b p q = elim (either_way j k) [
  | inl le ↦ sym (stays w j k web sj le a b p q)
  | inr le ↦ stays w k j web sk le a b p q
]

same_left : {N : Type 0} (w : Web N) (j k : ℕ) → IsWeb w → IsStable w j → IsStable w k → (c : N) → IsNode w c → on_left w j c ≡ on_left w k c
same_left w j k web sj sk c n = count_same _ _ w.left (λ x i. same_stable w j k web sj sk c x n (inl i))

-- equal counts up to a stable round are equal counts in each
even_on : {N : Type 0} (w : Web N) (k j : ℕ) → IsWeb w → IsStable w k → ((i : ℕ) → i ≤ k → IsEven w i) → IsEven w j
even_on {N} w k j web stable even c n = elim (either_way j k) [
  | inl le ↦ even j le c n
  | inr le ↦
      count_same (agree w j c) (agree w k c) w.left (λ x i. stays w k j web stable le c x n (inl i))
      ∙ (even k (omega arith) c n ∙ sym (count_same (agree w j c) (agree w k c) w.right (λ x i. stays w k j web stable le c x n (inr i))))
]

pub one_round : {N : Type 0} (w : Web N) (r t : ℕ) → IsRefuted w r → IsRefuted w t → r ≡ t
one_round w r t a b = elim (either_way r t) [
  | inl le ↦ elim (ℕ_discrete r t) [ yes e ↦ e | no not ↦ absurd (a.uneven.counts (b.before r (omega (arith, not)) a.node a.uneven.node)) ]
  | inr le ↦ elim (ℕ_discrete r t) [ yes e ↦ e | no not ↦ absurd (b.uneven.counts (a.before t (omega (arith, not)) b.node b.uneven.node)) ]
]

pub solved_refuted : {N : Type 0} (w : Web N) (r : ℕ) → IsWeb w → IsSolved w → IsRefuted w r → ⊥
solved_refuted w r web s h = h.uneven.counts (even_on w s.round r web s.stable s.even h.node h.uneven.node)

pub chosen_refuted : (w : Web Node) (k r : ℕ) (a : Node) → IsWeb w → IsChosen w k a → IsRefuted w r → ⊥
chosen_refuted w k r a web c h = h.uneven.counts (even_on w k r web c.stable c.even h.node h.uneven.node)

pub solved_chosen : (w : Web Node) (k : ℕ) (a : Node) → IsWeb w → IsSolved w → IsChosen w k a → ⊥
solved_chosen w k a web s c =
    let one = s.left a (inl c.there) in
    let same = same_left w s.round k web s.stable c.stable a (inl c.there) in
    let tied = c.tied in
    absurd (omega arith)

kind_by : (a b : Kind) → rank a ≡ rank b → a ≡ b
kind_by Net Net h = refl
kind_by Net Device h = absurd (omega arith)
kind_by Net Call h = absurd (omega arith)
kind_by Device Net h = absurd (omega arith)
kind_by Device Device h = refl
kind_by Device Call h = absurd (omega arith)
kind_by Call Net h = absurd (omega arith)
kind_by Call Device h = absurd (omega arith)
kind_by Call Call h = refl

no_later_both : (m n : ℕ) (a b : Node) → IsNoLater m n a b → IsNoLater n m b a → (rank a.kind ≡ rank b.kind) × (a.number ≡ b.number)
no_later_both m n a b (inl x) (inl y) = absurd (omega arith)
no_later_both m n a b (inl x) (inr y) = let e = y.0 in absurd (omega arith)
no_later_both m n a b (inr x) (inl y) = let e = x.0 in absurd (omega arith)
no_later_both m n a b (inr x) (inr y) = elim x.1 [
  | inl p ↦ elim y.1 [ inl q ↦ absurd (omega arith) | inr q ↦ let e = q.0 in absurd (omega arith) ]
  | inr p ↦ elim y.1 [ inl q ↦ let e = p.0 in absurd (omega arith) | inr q ↦ let e = p.0 in let f = p.1 in let g = q.1 in (e, omega arith) ]
]

pub chosen_one : (w : Web Node) (j k : ℕ) (a b : Node) → IsWeb w → ((x y : Node) → IsListed x w.left → IsListed y w.left → x.side ≡ y.side) → IsChosen w j a → IsChosen w k b → a ≡ b
chosen_one w j k a b web side c d =
    let ea = same_left w j k web c.stable d.stable a (inl c.there) in
    let eb = same_left w j k web c.stable d.stable b (inl d.there) in
    let ta = c.tied in
    let tb = d.tied in
    let tied_b : 1 < on_left w j b = omega arith in
    let tied_a : 1 < on_left w k a = omega arith in
    let x : IsNoLater (on_left w j a) (on_left w j b) a b = c.least b d.there tied_b in
    let y : IsNoLater (on_left w j b) (on_left w j a) b a = subst (λ (n : ℕ). IsNoLater (on_left w j b) n b a) (sym ea) (subst (λ (n : ℕ). IsNoLater n (on_left w k a) b a) (sym eb) (d.least a c.there tied_a)) in
    let z = no_later_both (on_left w j a) (on_left w j b) a b x y in
    node_is a b (side a b c.there d.there) (kind_by a.kind b.kind z.0) z.1

filter_same : {X : Type 0} (p q : X → Bool) (xs : List X) → ((x : X) → IsListed x xs → p x ≡ q x) → filter p xs ≡ filter q xs
filter_same p q [] h = refl
filter_same {X} p q (x ∷ xs) h =
    ap₂ (λ (b : Bool) (zs : List X). cond b (x ∷ zs) zs) (h x (inl refl)) (filter_same p q xs (λ y i. h y (inr i)))

candidates_same : (s : Setting) (w : Web Node) (j k : ℕ) (a : Node) → IsWeb w → IsStable w j → IsStable w k → IsListed a w.left → candidates s w j a ≡ candidates s w k a
candidates_same s w j k a web sj sk i =
    ap₂ (λ (xs ys : List Node). xs ++ ys)
    (filter_same _ _ w.right (λ x l. ap (λ (b : Bool). b && s.same_name a x) (same_stable w j k web sj sk a x (inl i) (inr l))))
    (filter_same _ _ w.right (λ x l. ap (λ (b : Bool). b && not (s.same_name a x)) (same_stable w j k web sj sk a x (inl i) (inr l))))

-- the next candidate
no_next : (s : Setting) (tries : List Node) (used : ℕ) (b : Node) (bs : List Node) → tries ≡ [] → IsNext s tries used b bs → ⊥
no_next s tries used b bs e h = let f : tries ≡ b ∷ bs = h.is in let g : [] ≡ b ∷ bs = sym e ∙ f in cc

no_stop : (s : Setting) (tries : List Node) (used : ℕ) (b : Node) (bs : List Node) → used ≡ s.limit → IsNext s tries used b bs → ⊥
no_stop s tries used b bs e h = let f = h.before in omega arith

next_node : (s : Setting) (tries : List Node) (used : ℕ) (b d : Node) (bs ds : List Node) → IsNext s tries used b bs → IsNext s tries used d ds → b ≡ d
next_node s tries used b d bs ds h g = let e : b ∷ bs ≡ d ∷ ds = sym h.is ∙ g.is in cc

next_rest : (s : Setting) (tries : List Node) (used : ℕ) (b d : Node) (bs ds : List Node) → IsNext s tries used b bs → IsNext s tries used d ds → bs ≡ ds
next_rest s tries used b d bs ds h g = let e : b ∷ bs ≡ d ∷ ds = sym h.is ∙ g.is in cc

unique : (s : Setting) → IsWeb s.web → ((x y : Node) → IsListed x s.web.left → IsListed y s.web.left → x.side ≡ y.side)
    → (t u : Search) (above : List (Guess Node)) (a : Node) (tries : List Node) (used : ℕ) → IsSearch s above a tries used t → IsSearch s above a tries used u → t ≡ u
unique s web side Ended Ended above a tries used h g = refl
unique s web side Ended Stopped above a tries used h g = absurd (g.0 h)
unique s web side Ended (Found b2) above a tries used h g = absurd (no_next s tries used b2 g.0 h g.1)
unique s web side Ended (Refuted b2 r2 rest2) above a tries used h g = absurd (no_next s tries used b2 g.0 h g.1)
unique s web side Ended (Below b2 c2 below2 rest2) above a tries used h g = absurd (no_next s tries used b2 g.0 h g.1)
unique s web side Ended (Open b2 c2 below2) above a tries used h g = absurd (no_next s tries used b2 g.0 h g.1)
unique s web side Stopped Ended above a tries used h g = absurd (h.0 g)
unique s web side Stopped Stopped above a tries used h g = refl
unique s web side Stopped (Found b2) above a tries used h g = absurd (no_stop s tries used b2 g.0 h.1 g.1)
unique s web side Stopped (Refuted b2 r2 rest2) above a tries used h g = absurd (no_stop s tries used b2 g.0 h.1 g.1)
unique s web side Stopped (Below b2 c2 below2 rest2) above a tries used h g = absurd (no_stop s tries used b2 g.0 h.1 g.1)
unique s web side Stopped (Open b2 c2 below2) above a tries used h g = absurd (no_stop s tries used b2 g.0 h.1 g.1)
unique s web side (Found b) Ended above a tries used h g = absurd (no_next s tries used b h.0 g h.1)
unique s web side (Found b) Stopped above a tries used h g = absurd (no_stop s tries used b h.0 g.1 h.1)
unique s web side (Found b) (Found b2) above a tries used h g =
    let e : b ≡ b2 = next_node s tries used b b2 h.0 g.0 h.1 g.1 in
    ap Found e
unique s web side (Found b) (Refuted b2 r2 rest2) above a tries used h g =
    let e : b ≡ b2 = next_node s tries used b b2 h.0 g.0 h.1 g.1 in
    absurd (solved_refuted (under s.web (guessed above a b)) r2 (under_web s.web (guessed above a b) web) h.2 (subst (λ (x : Node). IsRefuted (under s.web (guessed above a x)) r2) (sym e) g.2))
unique s web side (Found b) (Below b2 c2 below2 rest2) above a tries used h g =
    let e : b ≡ b2 = next_node s tries used b b2 h.0 g.0 h.1 g.1 in
    absurd (solved_chosen (under s.web (guessed above a b)) g.2 c2 (under_web s.web (guessed above a b) web) h.2 (subst (λ (x : Node). IsChosen (under s.web (guessed above a x)) g.2 c2) (sym e) g.3))
unique s web side (Found b) (Open b2 c2 below2) above a tries used h g =
    let e : b ≡ b2 = next_node s tries used b b2 h.0 g.0 h.1 g.1 in
    absurd (solved_chosen (under s.web (guessed above a b)) g.2 c2 (under_web s.web (guessed above a b) web) h.2 (subst (λ (x : Node). IsChosen (under s.web (guessed above a x)) g.2 c2) (sym e) g.3))
unique s web side (Refuted b r rest) Ended above a tries used h g = absurd (no_next s tries used b h.0 g h.1)
unique s web side (Refuted b r rest) Stopped above a tries used h g = absurd (no_stop s tries used b h.0 g.1 h.1)
unique s web side (Refuted b r rest) (Found b2) above a tries used h g =
    let e : b ≡ b2 = next_node s tries used b b2 h.0 g.0 h.1 g.1 in
    absurd (solved_refuted (under s.web (guessed above a b)) r (under_web s.web (guessed above a b) web) (subst (λ (x : Node). IsSolved (under s.web (guessed above a x))) (sym e) g.2) h.2)
unique s web side (Refuted b r rest) (Refuted b2 r2 rest2) above a tries used h g =
    let e : b ≡ b2 = next_node s tries used b b2 h.0 g.0 h.1 g.1 in
    let round : r ≡ r2 = one_round (under s.web (guessed above a b)) r r2 h.2 (subst (λ (x : Node). IsRefuted (under s.web (guessed above a x)) r2) (sym e) g.2) in
    let more : rest ≡ rest2 = unique s web side rest rest2 above a h.0 (suc used) h.3 (subst (λ (l : List Node). IsSearch s above a l (suc used) rest2) (sym (next_rest s tries used b b2 h.0 g.0 h.1 g.1)) g.3) in
    cc
unique s web side (Refuted b r rest) (Below b2 c2 below2 rest2) above a tries used h g =
    let e : b ≡ b2 = next_node s tries used b b2 h.0 g.0 h.1 g.1 in
    absurd (chosen_refuted (under s.web (guessed above a b)) g.2 r c2 (under_web s.web (guessed above a b) web) (subst (λ (x : Node). IsChosen (under s.web (guessed above a x)) g.2 c2) (sym e) g.3) h.2)
unique s web side (Refuted b r rest) (Open b2 c2 below2) above a tries used h g =
    let e : b ≡ b2 = next_node s tries used b b2 h.0 g.0 h.1 g.1 in
    absurd (chosen_refuted (under s.web (guessed above a b)) g.2 r c2 (under_web s.web (guessed above a b) web) (subst (λ (x : Node). IsChosen (under s.web (guessed above a x)) g.2 c2) (sym e) g.3) h.2)
unique s web side (Below b c below rest) Ended above a tries used h g = absurd (no_next s tries used b h.0 g h.1)
unique s web side (Below b c below rest) Stopped above a tries used h g = absurd (no_stop s tries used b h.0 g.1 h.1)
unique s web side (Below b c below rest) (Found b2) above a tries used h g =
    let e : b ≡ b2 = next_node s tries used b b2 h.0 g.0 h.1 g.1 in
    absurd (solved_chosen (under s.web (guessed above a b)) h.2 c (under_web s.web (guessed above a b) web) (subst (λ (x : Node). IsSolved (under s.web (guessed above a x))) (sym e) g.2) h.3)
unique s web side (Below b c below rest) (Refuted b2 r2 rest2) above a tries used h g =
    let e : b ≡ b2 = next_node s tries used b b2 h.0 g.0 h.1 g.1 in
    absurd (chosen_refuted (under s.web (guessed above a b)) h.2 r2 c (under_web s.web (guessed above a b) web) h.3 (subst (λ (x : Node). IsRefuted (under s.web (guessed above a x)) r2) (sym e) g.2))
unique s web side (Below b c below rest) (Below b2 c2 below2 rest2) above a tries used h g =
    let e : b ≡ b2 = next_node s tries used b b2 h.0 g.0 h.1 g.1 in
    let d : IsChosen (under s.web (guessed above a b)) g.2 c2 = subst (λ (x : Node). IsChosen (under s.web (guessed above a x)) g.2 c2) (sym e) g.3 in
    let chosen : c ≡ c2 = chosen_one (under s.web (guessed above a b)) h.2 g.2 c c2 (under_web s.web (guessed above a b) web) side h.3 d in
    let deep : IsSearch s (guessed above a b) c2 (candidates s (under s.web (guessed above a b)) g.2 c2) used below2 = subst (λ (x : Node). IsSearch s (guessed above a x) c2 (candidates s (under s.web (guessed above a x)) g.2 c2) used below2) (sym e) g.4 in
    let deep_here : IsSearch s (guessed above a b) c (candidates s (under s.web (guessed above a b)) g.2 c) used below2 = subst (λ (x : Node). IsSearch s (guessed above a b) x (candidates s (under s.web (guessed above a b)) g.2 x) used below2) (sym chosen) deep in
    let deeper : IsSearch s (guessed above a b) c (candidates s (under s.web (guessed above a b)) h.2 c) used below2
    = subst (λ (l : List Node). IsSearch s (guessed above a b) c l used below2) (candidates_same s (under s.web (guessed above a b)) g.2 h.2 c (under_web s.web (guessed above a b) web) d.stable h.3.stable h.3.there) deep_here in
    let inner : below ≡ below2 = unique s web side below below2 (guessed above a b) c (candidates s (under s.web (guessed above a b)) h.2 c) used h.4 deeper in
    let same_used : used + refuted_in below2 ≡ used + refuted_in below = ap (λ (t : Search). used + refuted_in t) (sym inner) in
    let outer : IsSearch s above a g.0 (used + refuted_in below) rest2 = subst (λ (n : ℕ). IsSearch s above a g.0 n rest2) same_used g.6 in
    let more : rest ≡ rest2 = unique s web side rest rest2 above a h.0 (used + refuted_in below) h.6 (subst (λ (l : List Node). IsSearch s above a l (used + refuted_in below) rest2) (sym (next_rest s tries used b b2 h.0 g.0 h.1 g.1)) outer) in
    cc
unique s web side (Below b c below rest) (Open b2 c2 below2) above a tries used h g =
    let e : b ≡ b2 = next_node s tries used b b2 h.0 g.0 h.1 g.1 in
    let d : IsChosen (under s.web (guessed above a b)) g.2 c2 = subst (λ (x : Node). IsChosen (under s.web (guessed above a x)) g.2 c2) (sym e) g.3 in
    let chosen : c ≡ c2 = chosen_one (under s.web (guessed above a b)) h.2 g.2 c c2 (under_web s.web (guessed above a b) web) side h.3 d in
    let deep : IsSearch s (guessed above a b) c2 (candidates s (under s.web (guessed above a b)) g.2 c2) used below2 = subst (λ (x : Node). IsSearch s (guessed above a x) c2 (candidates s (under s.web (guessed above a x)) g.2 c2) used below2) (sym e) g.4 in
    let deep_here : IsSearch s (guessed above a b) c (candidates s (under s.web (guessed above a b)) g.2 c) used below2 = subst (λ (x : Node). IsSearch s (guessed above a b) x (candidates s (under s.web (guessed above a b)) g.2 x) used below2) (sym chosen) deep in
    let deeper : IsSearch s (guessed above a b) c (candidates s (under s.web (guessed above a b)) h.2 c) used below2
    = subst (λ (l : List Node). IsSearch s (guessed above a b) c l used below2) (candidates_same s (under s.web (guessed above a b)) g.2 h.2 c (under_web s.web (guessed above a b) web) d.stable h.3.stable h.3.there) deep_here in
    let inner : below ≡ below2 = unique s web side below below2 (guessed above a b) c (candidates s (under s.web (guessed above a b)) h.2 c) used h.4 deeper in
    absurd (g.5 (subst HasEnded inner h.5))
unique s web side (Open b c below) Ended above a tries used h g = absurd (no_next s tries used b h.0 g h.1)
unique s web side (Open b c below) Stopped above a tries used h g = absurd (no_stop s tries used b h.0 g.1 h.1)
unique s web side (Open b c below) (Found b2) above a tries used h g =
    let e : b ≡ b2 = next_node s tries used b b2 h.0 g.0 h.1 g.1 in
    absurd (solved_chosen (under s.web (guessed above a b)) h.2 c (under_web s.web (guessed above a b) web) (subst (λ (x : Node). IsSolved (under s.web (guessed above a x))) (sym e) g.2) h.3)
unique s web side (Open b c below) (Refuted b2 r2 rest2) above a tries used h g =
    let e : b ≡ b2 = next_node s tries used b b2 h.0 g.0 h.1 g.1 in
    absurd (chosen_refuted (under s.web (guessed above a b)) h.2 r2 c (under_web s.web (guessed above a b) web) h.3 (subst (λ (x : Node). IsRefuted (under s.web (guessed above a x)) r2) (sym e) g.2))
unique s web side (Open b c below) (Below b2 c2 below2 rest2) above a tries used h g =
    let e : b ≡ b2 = next_node s tries used b b2 h.0 g.0 h.1 g.1 in
    let d : IsChosen (under s.web (guessed above a b)) g.2 c2 = subst (λ (x : Node). IsChosen (under s.web (guessed above a x)) g.2 c2) (sym e) g.3 in
    let chosen : c ≡ c2 = chosen_one (under s.web (guessed above a b)) h.2 g.2 c c2 (under_web s.web (guessed above a b) web) side h.3 d in
    let deep : IsSearch s (guessed above a b) c2 (candidates s (under s.web (guessed above a b)) g.2 c2) used below2 = subst (λ (x : Node). IsSearch s (guessed above a x) c2 (candidates s (under s.web (guessed above a x)) g.2 c2) used below2) (sym e) g.4 in
    let deep_here : IsSearch s (guessed above a b) c (candidates s (under s.web (guessed above a b)) g.2 c) used below2 = subst (λ (x : Node). IsSearch s (guessed above a b) x (candidates s (under s.web (guessed above a b)) g.2 x) used below2) (sym chosen) deep in
    let deeper : IsSearch s (guessed above a b) c (candidates s (under s.web (guessed above a b)) h.2 c) used below2
    = subst (λ (l : List Node). IsSearch s (guessed above a b) c l used below2) (candidates_same s (under s.web (guessed above a b)) g.2 h.2 c (under_web s.web (guessed above a b) web) d.stable h.3.stable h.3.there) deep_here in
    let inner : below ≡ below2 = unique s web side below below2 (guessed above a b) c (candidates s (under s.web (guessed above a b)) h.2 c) used h.4 deeper in
    absurd (h.5 (subst HasEnded (sym inner) g.5))
unique s web side (Open b c below) (Open b2 c2 below2) above a tries used h g =
    let e : b ≡ b2 = next_node s tries used b b2 h.0 g.0 h.1 g.1 in
    let d : IsChosen (under s.web (guessed above a b)) g.2 c2 = subst (λ (x : Node). IsChosen (under s.web (guessed above a x)) g.2 c2) (sym e) g.3 in
    let chosen : c ≡ c2 = chosen_one (under s.web (guessed above a b)) h.2 g.2 c c2 (under_web s.web (guessed above a b) web) side h.3 d in
    let deep : IsSearch s (guessed above a b) c2 (candidates s (under s.web (guessed above a b)) g.2 c2) used below2 = subst (λ (x : Node). IsSearch s (guessed above a x) c2 (candidates s (under s.web (guessed above a x)) g.2 c2) used below2) (sym e) g.4 in
    let deep_here : IsSearch s (guessed above a b) c (candidates s (under s.web (guessed above a b)) g.2 c) used below2 = subst (λ (x : Node). IsSearch s (guessed above a b) x (candidates s (under s.web (guessed above a b)) g.2 x) used below2) (sym chosen) deep in
    let deeper : IsSearch s (guessed above a b) c (candidates s (under s.web (guessed above a b)) h.2 c) used below2
    = subst (λ (l : List Node). IsSearch s (guessed above a b) c l used below2) (candidates_same s (under s.web (guessed above a b)) g.2 h.2 c (under_web s.web (guessed above a b) web) d.stable h.3.stable h.3.there) deep_here in
    let inner : below ≡ below2 = unique s web side below below2 (guessed above a b) c (candidates s (under s.web (guessed above a b)) h.2 c) used h.4 deeper in
    cc

pub one_search : (s : Setting) (a b : Search) → IsWeb s.web → ((x y : Node) → IsListed x s.web.left → IsListed y s.web.left → x.side ≡ y.side)
    → IsWholeSearch s a → IsWholeSearch s b → a ≡ b
one_search s a b web side h g =
    let same : h.node ≡ g.node = chosen_one s.web h.round g.round h.node g.node web side h.chosen g.chosen in
    let here : IsSearch s [] h.node (candidates s s.web g.round h.node) 0 b = subst (λ (x : Node). IsSearch s [] x (candidates s s.web g.round x) 0 b) (sym same) g.search in
    unique s web side a b [] h.node (candidates s s.web h.round h.node) 0 h.search
    (subst (λ (l : List Node). IsSearch s [] h.node l 0 b) (candidates_same s s.web g.round h.round h.node web g.chosen.stable h.chosen.stable h.chosen.there) here)
