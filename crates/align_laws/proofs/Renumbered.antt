-- Lists whose numbers appear as 0, 1, 2, .. have the same numbers where they name the same places.
use Rattle.std.proofs.Common.{◌≡◌, inl, inr, ℕ, zero, suc, ◌<◌, ◌≤◌, List, [], ◌∷◌, map, Some, slice_get, refl, sym, ◌∙◌, ap, arith}
use Rattle.std.proofs.Math.Decide.{ℕ_discrete}
use Rattle.std.proofs.lemmas.Option.{none-some, same_Some}
use Rattle.plain_netlist.specs.Netlist.{Slot}
use Rattle.plain_netlist.specs.Normal.{AreNumbered}

-- numbers that appear as 0, 1, 2, .. all appear
pub numbered_has : (total next : ℕ) (xs : List ℕ) → AreNumbered total next xs → (m : ℕ) → next ≤ m → m < total → (i : ℕ) × (slice_get xs i ≡ Some m)
numbered_has total next [] h m low high = absurd (let e = h in omega arith)
numbered_has total next (x ∷ xs) h m low high = elim h [
  | inl (l, rest) ↦ let f = numbered_has total next xs rest m low high in (suc f.0, f.1)
  | inr (e, rest) ↦ elim (ℕ_discrete m next) [
    | yes same ↦ (0, ap Some (e ∙ sym same))
    | no not ↦ let f = numbered_has total (suc next) xs rest m (omega (arith, not)) high in (suc f.0, f.1)
  ]
]

-- two lists of numbers that name places; new numbers of each
module _ (P Q : ℕ → Type 0) (place other : ℕ → Slot) (f g : ℕ → ℕ) (place_one : (x y : ℕ) → P x → P y → place x ≡ place y → x ≡ y) (other_one : (x y : ℕ) → Q x → Q y → other x ≡ other y → x ≡ y)
    (f_one : (x y : ℕ) → P x → P y → f x ≡ f y → x ≡ y) (g_one : (x y : ℕ) → Q x → Q y → g x ≡ g y → x ≡ y) where
  record Known (m : ℕ) : Type 0 where
    left : ℕ
    right : ℕ
    is : P left
    also : Q right
    same : place left ≡ other right
    by_f : f left ≡ m
    by_g : g right ≡ m

  abbrev Alike : List ℕ → List ℕ → ℕ → ℕ → Type 0
  Alike xs ys m n = (m ≡ n) × ((i x y : ℕ) → slice_get xs i ≡ Some x → slice_get ys i ≡ Some y → f x ≡ g y)

  with_first : (x y : ℕ) (xs ys : List ℕ) (m n : ℕ) → f x ≡ g y → Alike xs ys m n → Alike (x ∷ xs) (y ∷ ys) m n
  with_first x y xs ys m n e r = (r.0, first)
    where
      first : (i u w : ℕ) → slice_get (x ∷ xs) i ≡ Some u → slice_get (y ∷ ys) i ≡ Some w → f u ≡ g w
      first zero u w h k = ap f (sym (same_Some _ _ h)) ∙ (e ∙ ap g (same_Some _ _ k))
      first (suc i) u w h k = r.1 i u w h k

  less : (k next : ℕ) → k < suc next → (k ≡ next → ⊥) → k < next
  less k next low not = omega (arith, not)

  numbers : (xs ys : List ℕ) (next m n : ℕ) → ((k : ℕ) → k < next → Known k) → map place xs ≡ map other ys → ((i x : ℕ) → slice_get xs i ≡ Some x → P x) → ((i y : ℕ) → slice_get ys i ≡ Some y → Q y)
      → AreNumbered m next (map f xs) → AreNumbered n next (map g ys) → Alike xs ys m n
  numbers [] [] next m n known e ps qs hf hg = (sym hf ∙ hg, λ i x y h k. absurd (none-some x h))
  numbers [] (y ∷ ys) next m n known e ps qs hf hg = absurd (let z : ⊥ = cc in z)
  numbers (x ∷ xs) [] next m n known e ps qs hf hg = absurd (let z : ⊥ = cc in z)
  numbers (x ∷ xs) (y ∷ ys) next m n known e ps qs hf hg =
      let is = ps 0 x refl in
      let also = qs 0 y refl in
      let head : place x ≡ other y = cc in
      let tail : map place xs ≡ map other ys = cc in
      elim hf [
        | inl (lf, rf) ↦
            let s = known (f x) lf in
            let left : s.left ≡ x = f_one s.left x s.is is s.by_f in
            let right : s.right ≡ y = other_one s.right y s.also also (sym s.same ∙ (ap place left ∙ head)) in
            let one : f x ≡ g y = sym s.by_g ∙ ap g right in
            elim hg [
              | inl (lg, rg) ↦ with_first x y xs ys m n one (numbers xs ys next m n known tail (λ i z h. ps (suc i) z h) (λ i z h. qs (suc i) z h) rf rg)
              | inr (eg, rg) ↦ absurd (let a = lf in let b = eg in let c = one in omega arith)
            ]
        | inr (ef, rf) ↦ elim hg [
          | inl (lg, rg) ↦
              let s = known (g y) lg in
              let right : s.right ≡ y = g_one s.right y s.also also s.by_g in
              let left : s.left ≡ x = place_one s.left x s.is is (s.same ∙ (ap other right ∙ sym head)) in
              let one : f x ≡ g y = ap f (sym left) ∙ s.by_f in
              absurd (let a = lg in let b = ef in let c = one in omega arith)
          | inr (eg, rg) ↦
              with_first x y xs ys m n (ef ∙ sym eg) (numbers xs ys (suc next) m n (λ k low. elim (ℕ_discrete k next) [
                | yes at ↦ let r : Known k = record { left = x; right = y; is = is; also = also; same = head; by_f = ef ∙ sym at; by_g = eg ∙ sym at } in r
                | no not ↦ known k (less k next low not)
              ]) tail (λ i z h. ps (suc i) z h) (λ i z h. qs (suc i) z h) rf rg)
        ]
      ]

  pub renumbered : (xs ys : List ℕ) (m n : ℕ) → map place xs ≡ map other ys → ((i x : ℕ) → slice_get xs i ≡ Some x → P x) → ((i y : ℕ) → slice_get ys i ≡ Some y → Q y)
      → AreNumbered m 0 (map f xs) → AreNumbered n 0 (map g ys) → (m ≡ n) × ((i x y : ℕ) → slice_get xs i ≡ Some x → slice_get ys i ≡ Some y → f x ≡ g y)
  renumbered xs ys m n e ps qs hf hg = numbers xs ys 0 m n (λ k low. absurd (omega arith)) e ps qs hf hg
