-- The outermost slot of each net of a good netlist: two slots are on one net exactly where it is the same.
use Rattle.std.proofs.Common.{◌≡◌, ◌⊎◌, inl, inr, ℕ, List, [], ◌∷◌, ◌++◌, Option, Some, None, slice_get, refl, sym, ap, subst, ◌∙◌, arith, true≢false}
use Rattle.base_laws.proofs.Items.{item_at}
use Rattle.std.proofs.Math.Decide.{ℕ_discrete}
use Rattle.std.proofs.lemmas.Bool.{cases_Bool}
use Rattle.std.proofs.lemmas.Option.{slice_get_within}
use Rattle.std.proofs.lemmas.Slice.Eq.{bytes_eq-Decides}
use Rattle.std.specs.Str.{bytes_eq}
use Rattle.plain_netlist.proofs.Links as links
use Rattle.plain_netlist.proofs.Links.{along, both, single, stays}
use Rattle.plain_netlist.specs.Chains.{IsChain}
use Rattle.plain_netlist.specs.Netlist.{CallRow, Circuit, Netlist, IsCall, IsEitherJoin, IsJoin, IsSlot, Joins, Slot, slot, InOneNet}
use Rattle.plain_netlist.specs.Sound.{IsGood}

abbrev circuit_or : Option Circuit → Circuit
circuit_or (Some c) = c
circuit_or None = record { name = []; nets = []; pins = []; devices = []; calls = [] }

abbrev call_or : Option CallRow → CallRow
call_or (Some r) = r
call_or None = record { circuit = 0; nets = [] }

-- net n of a called circuit, which may be pin n, and the call's net there
abbrev pinned : ℕ → ℕ → Option ℕ → Slot
pinned k n (Some outer) = slot [] outer
pinned k n None = slot (k ∷ []) n

-- a net below the call, seen from above it
abbrev lifted : ℕ → CallRow → List ℕ → ℕ → Slot
lifted k row [] n = pinned k n (slice_get row.nets n)
lifted k row (p ∷ ps) n = slot (k ∷ p ∷ ps) n

abbrev lift : ℕ → CallRow → Slot → Slot
lift k row s = lifted k row s.path s.net

abbrev below : ℕ → Slot → Slot
below k s = slot (k ∷ s.path) s.net

pub slot_or_not : (a b : Slot) → (a ≡ b) ⊎ (a ≡ b → ⊥)
slot_or_not a b = elim (cases_Bool (bytes_eq a.path b.path)) [
  | inr f ↦ inr (λ e. true≢false (sym ((bytes_eq-Decides a.path b.path).1 (ap (λ (s : Slot). s.path) e)) ∙ f))
  | inl t ↦ elim (ℕ_discrete a.net b.net) [
    | yes e ↦ inl (ap (λ (p : List ℕ). slot p a.net) ((bytes_eq-Decides a.path b.path).0 t) ∙ ap (λ (n : ℕ). slot b.path n) e)
    | no not ↦ inr (λ e. not (ap (λ (s : Slot). s.net) e))
  ]
]

module _ (nl : Netlist) where
  abbrev call_of : ℕ → ℕ → CallRow
  call_of t k = call_or (slice_get (circuit_or (slice_get nl.circuits t)).calls k)

  call_is : (t k : ℕ) (row : CallRow) → IsCall nl t k row → call_of t k ≡ row
  call_is t k row (c, is, at) = ap (λ (o : Option Circuit). call_or (slice_get (circuit_or o).calls k)) is ∙ ap call_or at

  -- where a net stands outermost
  abbrev pub root : ℕ → List ℕ → ℕ → Slot
  root t [] n = slot [] n
  root t (k ∷ ks) n = lift k (call_of t k) (root (call_of t k).circuit ks n)

  below_there : (t k : ℕ) (row : CallRow) (x y : Slot) → IsCall nl t k row → InOneNet nl row.circuit x y → InOneNet nl t (below k x) (below k y)
  below_there t k row x y call h =
      along (IsEitherJoin nl row.circuit) (IsEitherJoin nl t) (below k) (λ a b j. single (IsEitherJoin nl t) (below k a) (below k b) (elim j [ inl i ↦ inl (deeper a b i) | inr i ↦ inr (deeper b a i) ])) x y h
    where
      deeper : (a b : Slot) → IsJoin nl row.circuit a b → IsJoin nl t (below k a) (below k b)
      deeper a b j = record { number = j.number; deeper = ap (λ (p : List ℕ). k ∷ p) j.deeper; joins = (row, call, j.joins) }

  module _ (height : ℕ → ℕ) (good : IsGood nl height) where
    -- pin n of a called circuit is its net n
    own_pin : (t k n outer : ℕ) (row : CallRow) → IsCall nl t k row → slice_get row.nets n ≡ Some outer → IsJoin nl t (slot [] outer) (slot (k ∷ []) n)
    own_pin t k n outer row call e =
        let d = good.called t k row call in
        let low = slice_get_within row.nets n outer e in
        let count = d.2 in
        let pin = item_at d.0.pins n (omega (arith, low, count)) in
        let same : pin.0 ≡ n = good.pins row.circuit n pin.0 (d.0, d.1, pin.1) in
        record { number = k; deeper = refl; joins = (row, call, d.0, d.1, n, e, subst (λ (m : ℕ). slice_get d.0.pins n ≡ Some m) same pin.1) }

    lift_reached : (t k : ℕ) (row : CallRow) (path : List ℕ) (n : ℕ) → IsCall nl t k row → InOneNet nl t (slot (k ∷ path) n) (lifted k row path n)
    lift_reached t k row (p ∷ ps) n call = stays (IsEitherJoin nl t) _ _ refl
    lift_reached t k row [] n call = step (slice_get row.nets n) refl
      where
        step : (o : Option ℕ) → slice_get row.nets n ≡ o → InOneNet nl t (slot (k ∷ []) n) (pinned k n o)
        step None e = stays (IsEitherJoin nl t) _ _ refl
        step (Some outer) e = single (IsEitherJoin nl t) _ _ (inr (own_pin t k n outer row call e))

    pub root_reached : (t : ℕ) (path : List ℕ) (n : ℕ) → IsSlot nl t path n → InOneNet nl t (slot path n) (root t path n)
    root_reached t [] n h = stays (IsEitherJoin nl t) _ _ refl
    root_reached t (k ∷ ks) n (row, call, h) =
        let r = root row.circuit ks n in
        let there = both (IsEitherJoin nl t) (slot (k ∷ ks) n) (below k r) (lift k row r) (below_there t k row (slot ks n) r call (root_reached row.circuit ks n h)) (lift_reached t k row r.path r.net call) in
        subst (λ (c : CallRow). InOneNet nl t (slot (k ∷ ks) n) (lift k c (root c.circuit ks n))) (sym (call_is t k row call)) there

    joined : (path : List ℕ) (t outer k inner : ℕ) → Joins nl t path outer k inner → root t (path ++ k ∷ []) inner ≡ root t path outer
    joined [] t outer k inner (row, call, called, is, i, p, q) =
        let same : inner ≡ i = good.pins row.circuit i inner (called, is, q) in
        let at : slice_get row.nets inner ≡ Some outer = subst (λ (m : ℕ). slice_get row.nets m ≡ Some outer) (sym same) p in
        ap (λ (c : CallRow). pinned k inner (slice_get c.nets inner)) (call_is t k row call) ∙ ap (pinned k inner) at
    joined (j ∷ js) t outer k inner (row, call, rest) =
        subst (λ (c : CallRow). lift j c (root c.circuit (js ++ k ∷ []) inner) ≡ lift j c (root c.circuit js outer)) (sym (call_is t j row call)) (ap (lift j row) (joined js row.circuit outer k inner rest))

    join_same : (t : ℕ) (a b : Slot) → IsJoin nl t a b → root t a.path a.net ≡ root t b.path b.net
    join_same t a b j = sym (joined a.path t a.net j.number b.net j.joins) ∙ ap (λ (p : List ℕ). root t p b.net) j.deeper

    chain_same : (t : ℕ) (a b : Slot) (xs : List Slot) → IsChain (IsEitherJoin nl t) a xs b → root t a.path a.net ≡ root t b.path b.net
    chain_same t a b [] h = ap (λ (s : Slot). root t s.path s.net) h
    chain_same t a b (x ∷ xs) h = elim h.0 [ inl j ↦ join_same t a x j | inr j ↦ sym (join_same t x a j) ] ∙ chain_same t x b xs h.1

    pub one_root : (t : ℕ) (a b : Slot) → InOneNet nl t a b → root t a.path a.net ≡ root t b.path b.net
    one_root t a b h = chain_same t a b h.via h.chain

    -- whether two slots are on one net is decided
    pub one_or_not : (t : ℕ) (a b : Slot) → IsSlot nl t a.path a.net → IsSlot nl t b.path b.net → InOneNet nl t a b ⊎ (InOneNet nl t a b → ⊥)
    one_or_not t a b h g = elim (slot_or_not (root t a.path a.net) (root t b.path b.net)) [
      | inl e ↦ inl (both (IsEitherJoin nl t) a (root t b.path b.net) b (subst (λ (s : Slot). InOneNet nl t a s) e (root_reached t a.path a.net h)) (turn (root_reached t b.path b.net g)))
      | inr not ↦ inr (λ k. not (one_root t a b k))
    ]
      where
        turn : {x y : Slot} → InOneNet nl t x y → InOneNet nl t y x
        turn {x} {y} k = links.back (IsEitherJoin nl t) (λ u v j. elim j [ inl i ↦ inr i | inr i ↦ inl i ]) x y k
