-- Marks at nets that are in use above, link by link.
use Rattle.std.proofs.Common.{◌≡◌, ◌⊎◌, ◌↔◌, inl, inr, ℕ, ◌+◌, ◌<◌, ◌==◌, ◌&&◌, ◌||◌, Bool, true, false, List, Option, Some, get_or, length, slice_get, refl, sym, ◌∙◌, ap, subst, arith}
use Rattle.std.proofs.Math.Decide.{ℕ_discrete}
use Rattle.std.proofs.lemmas.Bool.{eq-eqb, eqb-true, or_cases, or_left, or_right, and_parts, and_from}
use Rattle.std.proofs.lemmas.Option.{slice_get-get_or, slice_get_within}
use Rattle.deep_tables.specs.declared.pins.CellPins.{CellPins}
use Rattle.pin_phase.specs.Used.{IsInUse, IsReadPin, IsUsedBy}
use Rattle.pin_phase.specs.declared.links.Link.{Link}

-- one of the first n links says so
abbrev pub IsFirstUse : (ℕ → Option CellPins) → List Link → ℕ → ℕ → Type 0
IsFirstUse value links n x = (i : ℕ) × (i < n) × (l : Link) × (slice_get links i ≡ Some l) × (l.net ≡ x) × IsUsedBy value l

pub record AreUsedTo (value : ℕ → Option CellPins) (links : List Link) (n : ℕ) (old new : List Bool) : Type 0 where
  pub count : length new ≡ length old
  pub marked : (x : ℕ) → (get_or new x false ≡ true) ↔ ((get_or old x false ≡ true) ⊎ IsFirstUse value links n x)

pub used_none : (value : ℕ → Option CellPins) (links : List Link) (old : List Bool) → AreUsedTo value links 0 old old
used_none value links old = record { count = refl; marked = λ x. ((λ h. inl h), (λ h. elim h [ inl a ↦ a | inr e ↦ absurd (let lt = e.1 in let z : ⊥ = omega arith in z) ])) }

one_link : (o : Option Link) (a b : Link) → o ≡ Some a → o ≡ Some b → a ≡ b
one_link o a b h g = cc

pub used_more : (value : ℕ → Option CellPins) (links : List Link) (n : ℕ) (l : Link) (used : Bool) (old mid new : List Bool) → n < length links → l ≡ get_or links n l → (used ≡ true) ↔ IsUsedBy value l
    → length new ≡ length mid → ((x : ℕ) → get_or new x false ≡ ((used && (x == l.net)) || get_or mid x false)) → AreUsedTo value links n old mid → AreUsedTo value links (n + 1) old new
used_more value links n l used old mid new lt at is count added h = record { count = count ∙ h.count; marked = λ x. (there x, back x) }
  where
    got : slice_get links n ≡ Some l
    got = slice_get-get_or links n l lt ∙ ap Some (sym at)

    there : (x : ℕ) → get_or new x false ≡ true → (get_or old x false ≡ true) ⊎ IsFirstUse value links (n + 1) x
    there x e = elim (or_cases (used && (x == l.net)) (get_or mid x false) (sym (added x) ∙ e)) [
      | inl f ↦ let b = and_parts used (x == l.net) f in inr (n, omega arith, l, got, sym (eqb-true x l.net b.1), is.0 b.0)
      | inr f ↦ elim ((h.marked x).0 f) [ inl a ↦ inl a | inr u ↦ inr (u.0, (let lt = u.1 in omega arith), u.2, u.3, u.4, u.5) ]
    ]

    back : (x : ℕ) → (get_or old x false ≡ true) ⊎ IsFirstUse value links (n + 1) x → get_or new x false ≡ true
    back x (inl a) = added x ∙ or_right (used && (x == l.net)) (get_or mid x false) ((h.marked x).1 (inl a))
    back x (inr u) = elim (ℕ_discrete u.0 n) [
      | yes e ↦
          let one : u.2 ≡ l = one_link (slice_get links n) u.2 l (subst (λ i. slice_get links i ≡ Some u.2) e u.3) got in
          let net : x ≡ l.net = sym u.4 ∙ ap (λ (k : Link). k.net) one in
          added x ∙ or_left (used && (x == l.net)) (get_or mid x false) (and_from used (x == l.net) (is.1 (subst (IsUsedBy value) one u.5)) (eq-eqb x l.net net))
      | no not ↦ added x ∙ or_right (used && (x == l.net)) (get_or mid x false) ((h.marked x).1 (inr (u.0, (let lt = u.1 in omega arith), u.2, u.3, u.4, u.5)))
    ]

pub used_all : (value : ℕ → Option CellPins) (links : List Link) (n : ℕ) (old new : List Bool) → n ≡ length links → AreUsedTo value links n old new
    → (x : ℕ) → (get_or new x false ≡ true) ↔ ((get_or old x false ≡ true) ⊎ IsInUse value links x)
used_all value links n old new e h x = (
  (λ m. elim ((h.marked x).0 m) [ inl a ↦ inl a | inr u ↦ inr (u.0, u.2, u.3, u.4, u.5) ]),
  (λ m. elim m [ inl a ↦ (h.marked x).1 (inl a) | inr u ↦ (h.marked x).1 (inr (u.0, (let lt = slice_get_within links u.0 u.1 u.2 in omega (arith, lt)), u.1, u.2, u.3, u.4)) ]),
)

-- a busy net, and one that isn't
pub by_busy : (value : ℕ → Option CellPins) (l : Link) (result : Bool) → l.busy ≡ true → result ≡ true → (result ≡ true) ↔ IsUsedBy value l
by_busy value l result busy e = ((λ h. inl busy), (λ h. e))

pub by_pin : (value : ℕ → Option CellPins) (l : Link) (v : CellPins) (result : Bool) → (l.busy ≡ true → ⊥) → value l.job ≡ Some v → result ≡ get_or v.pin.items l.above false → (result ≡ true) ↔ IsUsedBy value l
by_pin value l v result not at e = (
  (λ h. inr (subst (λ (o : Option CellPins). IsReadPin o l.above) (sym at) (sym e ∙ h))),
  (λ h. elim h [ inl b ↦ absurd (not b) | inr p ↦ e ∙ subst (λ (o : Option CellPins). IsReadPin o l.above) at p ]),
)

-- marks that were there are those of tags
pub marked_or : (P Q H U : Type 0) → P ↔ (Q ⊎ U) → Q ↔ H → P ↔ (H ⊎ U)
marked_or P Q H U a b = (
  (λ p. elim (a.0 p) [ inl q ↦ inl (b.0 q) | inr u ↦ inr u ]),
  (λ m. elim m [ inl h ↦ a.1 (inl (b.1 h)) | inr u ↦ a.1 (inr u) ]),
)
