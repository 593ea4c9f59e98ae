-- Couples before which none shares a node become partners.
use Rattle.std.proofs.Common.{replicate, ◌≡◌, ◌≢◌, ◌⊎◌, inl, inr, ◌∙◌, ◌<◌, ℕ, zero, suc, ◌+◌, Bool, true, false, List, [], ◌∷◌, ◌++◌, Option, Some, None, slice_get, slice_set, refl, sym, ap, subst, arith}
use Rattle.std.proofs.lemmas.Bool.{cases_Bool}
use Rattle.std.specs.List.{filter, list_all}
use Rattle.view_pairs.specs.Partners.{AreFirstTaken, HasPartner, IsClaim, IsFirst, IsTaken}
use Rattle.view_pairs.specs.declared.partners.Couple.{Couple}
use Rattle.view_pairs.specs.declared.partners.Partner.{Partner}

-- a couple is of partners, or still to come while its nodes are free
abbrev pub Comes : List Couple → List (Option Partner) → List Bool → Couple → Type 0
Comes rest lefts taken c = HasPartner lefts c.left c.right
    ⊎ (IsFirst c rest × (slice_get lefts c.left ≡ Some None) × (slice_get taken c.right.number ≡ Some false))

pub record AllCome (n m : ℕ) (all rest : List Couple) (lefts : List (Option Partner)) (taken : List Bool) : Type 0 where
  pub each : (c : Couple) → IsFirst c all → c.left < n → c.right.number < m → Comes rest lefts taken c

replicate_at : {T : Type 0} (n k : ℕ) (x : T) → k < n → slice_get (replicate n x) k ≡ Some x
replicate_at zero k x h = absurd (omega arith)
replicate_at (suc n) zero x h = refl
replicate_at (suc n) (suc k) x h = replicate_at n k x (omega arith)

pub all_start : (n m : ℕ) (all : List Couple) → AllCome n m all all (replicate n None) (replicate m false)
all_start n m all = record { each = λ c first l r. inr (first, replicate_at n c.left None l, replicate_at m c.right.number false r) }

pub set_same : {T : Type 0} (xs : List T) (i : ℕ) (x y : T) → slice_get xs i ≡ Some y → slice_get (slice_set xs i x) i ≡ Some x
set_same [] i x y h = absurd (let e : None ≡ Some y = h in cc)
set_same (z ∷ zs) zero x y h = refl
set_same (z ∷ zs) (suc i) x y h = set_same zs i x y h

pub set_other : {T : Type 0} (xs : List T) (i k : ℕ) (x : T) → (i ≢ k) → slice_get (slice_set xs i x) k ≡ slice_get xs k
set_other [] i k x n = refl
set_other (z ∷ zs) zero zero x n = absurd (n refl)
set_other (z ∷ zs) zero (suc k) x n = refl
set_other (z ∷ zs) (suc i) zero x n = refl
set_other (z ∷ zs) (suc i) (suc k) x n = set_other zs i k x (λ e. n (ap suc e))

-- a couple is taken
come_taken : (d : Couple) (more : List Couple) (xs ys : List (Option Partner)) (taken marks : List Bool) (c : Couple)
    → Comes (d ∷ more) xs taken c → IsTaken xs ys taken marks d → Comes more ys marks c
come_taken d more xs ys taken marks c (inl p) t =
    let apart : d.left ≢ c.left = λ e. (
    let f : Some None ≡ Some (Some c.right) = sym t.lone ∙ ap (λ (k : ℕ). slice_get xs k) e ∙ p in cc) in
    inl (ap (λ (zs : List (Option Partner)). slice_get zs c.left) t.lefts ∙ set_other xs d.left c.left (Some d.right) apart ∙ p)
come_taken d more xs ys taken marks c (inr (inl e, lone, free)) t =
    let same : slice_get ys d.left ≡ Some (Some d.right) = ap (λ (zs : List (Option Partner)). slice_get zs d.left) t.lefts ∙ set_same xs d.left (Some d.right) None t.lone in
    inl (subst (λ (z : Couple). slice_get ys z.left ≡ Some (Some z.right)) (sym e) same)
come_taken d more xs ys taken marks c (inr (inr (l, r, first), lone, free)) t =
    inr (
      first,
      ap (λ (zs : List (Option Partner)). slice_get zs c.left) t.lefts ∙ set_other xs d.left c.left (Some d.right) l ∙ lone,
      ap (λ (zs : List Bool). slice_get zs c.right.number) t.rights ∙ set_other taken d.right.number c.right.number true r ∙ free,
    )

-- or left out
come_left : (d : Couple) (more : List Couple) (xs ys : List (Option Partner)) (taken marks : List Bool) (c : Couple)
    → Comes (d ∷ more) xs taken c → (slice_get xs d.left ≡ Some None → slice_get taken d.right.number ≡ Some false → ⊥) → ys ≡ xs → marks ≡ taken → Comes more ys marks c
come_left d more xs ys taken marks c (inl p) not e f = inl (ap (λ (zs : List (Option Partner)). slice_get zs c.left) e ∙ p)
come_left d more xs ys taken marks c (inr (inl same, lone, free)) not e f =
    absurd (not (subst (λ (z : Couple). slice_get xs z.left ≡ Some None) same lone) (subst (λ (z : Couple). slice_get taken z.right.number ≡ Some false) same free))
come_left d more xs ys taken marks c (inr (inr (l, r, first), lone, free)) not e f =
    inr (first, ap (λ (zs : List (Option Partner)). slice_get zs c.left) e ∙ lone, ap (λ (zs : List Bool). slice_get zs c.right.number) f ∙ free)

come_on : (d : Couple) (more : List Couple) (xs ys : List (Option Partner)) (taken marks : List Bool) (c : Couple)
    → Comes (d ∷ more) xs taken c → IsClaim xs ys taken marks d → Comes more ys marks c
come_on d more xs ys taken marks c h (inl (not, e, f)) = come_left d more xs ys taken marks c h not e f
come_on d more xs ys taken marks c h (inr t) = come_taken d more xs ys taken marks c h t

-- one more couple is looked at
pub all_on : (n m : ℕ) (all more : List Couple) (d : Couple) (xs ys : List (Option Partner)) (taken marks : List Bool)
    → AllCome n m all (d ∷ more) xs taken → IsClaim xs ys taken marks d → AllCome n m all more ys marks
all_on n m all more d xs ys taken marks h claim = record { each = λ c first l r. come_on d more xs ys taken marks c (h.each c first l r) claim }

none_comes : (xs : List (Option Partner)) (taken : List Bool) (c : Couple) → Comes [] xs taken c → HasPartner xs c.left c.right
none_comes xs taken c (inl p) = p
none_comes xs taken c (inr (f, lone, free)) = absurd f

-- none is still to come
pub all_end : (n m : ℕ) (all rest : List Couple) (xs : List (Option Partner)) (taken : List Bool) → AllCome n m all rest xs taken → rest ≡ [] → AreFirstTaken n m all xs
all_end n m all rest xs taken h e c first l r =
    none_comes xs taken c (subst (λ (cs : List Couple). Comes cs xs taken c) e (h.each c first l r))

-- what a claim does to the left nodes
pub claim_lefts : (xs ys : List (Option Partner)) (taken marks : List Bool) (d : Couple) → IsClaim xs ys taken marks d
    → (ys ≡ xs) ⊎ (ys ≡ slice_set xs d.left (Some d.right))
claim_lefts xs ys taken marks d (inl (not, e, f)) = inl e
claim_lefts xs ys taken marks d (inr t) = inr t.lefts

-- couples that pass stay first among those that pass
pub first_passing : (p : Couple → Bool) (c : Couple) (cs : List Couple) → IsFirst c cs → p c ≡ true → IsFirst c (filter p cs)
first_passing p c [] h t = absurd h
first_passing p c (d ∷ cs) (inl e) t = let here : p d ≡ true = subst (λ (z : Couple). p z ≡ true) e t in rw here (inl e)
first_passing p c (d ∷ cs) (inr (l, r, h)) t = elim (cases_Bool (p d)) [
  | inl y ↦ rw y (inr (l, r, first_passing p c cs h t))
  | inr n ↦ rw n (first_passing p c cs h t)
]

pub all_pass : (p : Couple → Bool) (cs : List Couple) → list_all p (filter p cs) ≡ true
all_pass p [] = refl
all_pass p (d ∷ cs) = elim (cases_Bool (p d)) [
  | inl y ↦ rw y (rw y (all_pass p cs))
  | inr n ↦ rw n (all_pass p cs)
]

-- others behind them
pub first_before : (c : Couple) (cs ds : List Couple) → IsFirst c cs → IsFirst c (cs ++ ds)
first_before c [] ds h = absurd h
first_before c (d ∷ cs) ds (inl e) = inl e
first_before c (d ∷ cs) ds (inr (l, r, h)) = inr (l, r, first_before c cs ds h)
