-- A chain between held items needs no item that isn't held, where each item has one above it at most and what is above a held one is held.
use Rattle.std.proofs.Common.{◌≡◌, ◌⊎◌, inl, inr, Bool, true, false, List, [], ◌∷◌, refl, sym, subst}
use Rattle.std.proofs.lemmas.Bool.{cases_Bool}
use Rattle.plain_netlist.specs.Chains.{IsChain, Reaches}
use Rattle.plain_netlist.proofs.Links.{stays, single, both}

module _ {A : Type 0} (J : A → A → Type 0) (held : A → Bool) (one : (u w s : A) → J u s → J w s → u ≡ w) (closed : (u s : A) → J u s → held s ≡ true → held u ≡ true) where
  abbrev Either : A → A → Type 0
  Either a b = J a b ⊎ J b a

  -- up through items that aren't held, to one that is
  abbrev Rises : A → List A → A → Type 0
  Rises s [] t = (s ≡ t) × (held s ≡ true)
  Rises s (u ∷ us) t = (held s ≡ false) × J u s × Rises u us t

  abbrev pub HeldLink : A → A → Type 0
  HeldLink a b = Either a b × (held a ≡ true) × (held b ≡ true)

  pub record Anchored (a s : A) : Type 0 where
    pub top : A
    pub via : List A
    pub rises : Rises s via top
    pub chain : Reaches HeldLink a top

  held_top : (s t : A) (via : List A) → Rises s via t → held s ≡ true → s ≡ t
  held_top s t [] r h = r.0
  held_top s t (u ∷ us) r h = let no : held s ≡ false = r.0 in absurd cc

  next : (a s z : A) → Anchored a s → Either s z → Anchored a z
  next a s z r (inl down) = elim (cases_Bool (held z)) [
    | inl yes_z ↦
        let up = closed s z down yes_z in
        let e : s ≡ r.top = held_top s r.top r.via r.rises up in
        let here : Reaches HeldLink a s = subst (λ (x : A). Reaches HeldLink a x) (sym e) r.chain in
        record { top = z; via = []; rises = (refl, yes_z); chain = both HeldLink a s z here (single HeldLink s z (inl down, up, yes_z)) }
    | inr no_z ↦ record { top = r.top; via = s ∷ r.via; rises = (no_z, down, r.rises); chain = r.chain }
  ]
  next a s z r (inr up) = elim (cases_Bool (held s)) [
    | inl yes_s ↦
        let over = closed z s up yes_s in
        let e : s ≡ r.top = held_top s r.top r.via r.rises yes_s in
        let here : Reaches HeldLink a s = subst (λ (x : A). Reaches HeldLink a x) (sym e) r.chain in
        record { top = z; via = []; rises = (refl, over); chain = both HeldLink a s z here (single HeldLink s z (inr up, yes_s, over)) }
    | inr no_s ↦ unwind a s z r.top r.via r.rises r.chain up no_s
  ] where
    unwind : (a s z t : A) (via : List A) → Rises s via t → Reaches HeldLink a t → J z s → held s ≡ false → Anchored a z
    unwind a s z t [] rises chain up no_s = let h : held s ≡ true = rises.1 in absurd cc
    unwind a s z t (u ∷ us) rises chain up no_s =
        let e : u ≡ z = one u z s rises.1 up in
        record { top = t; via = us; rises = subst (λ (x : A). Rises x us t) e rises.2; chain = chain }

  pub anchored : (a s z : A) (xs : List A) → Anchored a s → IsChain Either s xs z → Anchored a z
  anchored a s z [] r h = subst (λ (x : A). Anchored a x) h r
  anchored a s z (x ∷ xs) r h = anchored a x z xs (next a s x r h.0) h.1

  pub start : (a : A) → held a ≡ true → Anchored a a
  start a h = record { top = a; via = []; rises = (refl, h); chain = stays HeldLink a a refl }

  -- between held items: a chain of held items
  pub held_chain : (a b : A) → held a ≡ true → held b ≡ true → Reaches Either a b → Reaches HeldLink a b
  held_chain a b ha hb h =
      let r = anchored a a b h.via (start a ha) h.chain in
      subst (λ (x : A). Reaches HeldLink a x) (sym (held_top b r.top r.via r.rises hb)) r.chain

  -- what nothing is above and a held item reaches is held
  pub held_root : (a b : A) → held a ≡ true → Reaches Either a b → ((u : A) → J u b → ⊥) → held b ≡ true
  held_root a b ha h root =
      let r = anchored a a b h.via (start a ha) h.chain in
      root_held b r.top r.via r.rises root
    where
      root_held : (b t : A) (via : List A) → Rises b via t → ((u : A) → J u b → ⊥) → held b ≡ true
      root_held b t [] rises root = rises.1
      root_held b t (u ∷ us) rises root = absurd (root u rises.1)
