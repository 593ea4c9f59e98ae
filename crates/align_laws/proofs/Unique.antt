-- One list of flat circuits, one numbering.
use Rattle.std.proofs.Common.{◌≡◌, inl, inr, ℕ, zero, suc, ◌<◌, Bool, true, cond, List, [], ◌∷◌, ◌++◌, map, Some, slice_get, refl, sym, ◌∙◌, ap, ap₂, subst, arith}
use Rattle.plain_netlist.specs.Normal.{AreNumbered}
use Rattle.plain_netlist.specs.Sound.{IsGood}
use Rattle.std.proofs.Math.Decide.{ℕ_discrete}
use Rattle.std.proofs.Math.Path.{fun_ext}
use Rattle.plain_netlist.specs.Netlist.{CallRow, Circuit, Netlist, IsCircuit, IsCall}
use Rattle.align_laws.specs.Lists.{NetAt, DeviceAt, CallAt, FlatCircuit, over, indexed, pieces, joined_place, past, net_at_pin, net_below, device_below, call_below, own_net, own_device, inner_nets, net_in, inner_devices, own_calls, inner_calls, inlined}
use Rattle.align_laws.specs.Words.{OneFlatLaw, OneNumberLaw}

pub pieces_same : {A B : Type 0} (f g : ℕ → A → List B) (xs : List A) → ((k : ℕ) (x : A) → slice_get xs k ≡ Some x → f k x ≡ g k x) → pieces f xs ≡ pieces g xs
pieces_same f g [] h = refl
pieces_same {B = B} f g (x ∷ xs) h = ap₂ (λ (p q : List B). p ++ q) (h 0 x refl) (pieces_same (λ k. f (suc k)) (λ k. g (suc k)) xs (λ k y e. h (suc k) y e))

place_same : {A B : Type 0} (f g : ℕ → A → List B) (xs : List A) (i j : ℕ) → ((k : ℕ) (x : A) → slice_get xs k ≡ Some x → f k x ≡ g k x) → joined_place f xs i j ≡ joined_place g xs i j
place_same f g [] i j h = refl
place_same f g (x ∷ xs) zero j h = refl
place_same {B = B} f g (x ∷ xs) (suc i) j h = ap₂ (λ (p : List B) (q : ℕ). over p q) (h 0 x refl) (place_same (λ k. f (suc k)) (λ k. g (suc k)) xs i j (λ k y e. h (suc k) y e))

module _ (goes : ℕ → Bool) (a b : ℕ → FlatCircuit) (x : Circuit) (h : (k : ℕ) (row : CallRow) → slice_get x.calls k ≡ Some row → a row.circuit ≡ b row.circuit) where
  nets_same : (k : ℕ) (row : CallRow) → slice_get x.calls k ≡ Some row → inner_nets goes a k row ≡ inner_nets goes b k row
  nets_same k row e = ap (λ (z : FlatCircuit). cond (goes row.circuit) (map (net_below k) (past row.nets z.nets)) []) (h k row e)

  to_same : (k : ℕ) (row : CallRow) → net_in goes a x k row ≡ net_in goes b x k row
  to_same k row = ap (λ (far : ℕ → ℕ). net_at_pin row.nets far) (fun_ext (λ m. ap (over (indexed own_net x.nets)) (place_same (inner_nets goes a) (inner_nets goes b) x.calls k m nets_same)))

  devices_same : (k : ℕ) (row : CallRow) → slice_get x.calls k ≡ Some row → inner_devices goes a x k row ≡ inner_devices goes b x k row
  devices_same k row e = ap₂ (λ (to : ℕ → ℕ) (z : FlatCircuit). cond (goes row.circuit) (map (device_below k to) z.devices) []) (to_same k row) (h k row e)

  calls_same : (k : ℕ) (row : CallRow) → slice_get x.calls k ≡ Some row → inner_calls goes a x k row ≡ inner_calls goes b x k row
  calls_same k row e = ap₂ (λ (to : ℕ → ℕ) (z : FlatCircuit). cond (goes row.circuit) (map (call_below k to) z.calls) []) (to_same k row) (h k row e)

  inlined_same : inlined goes a x ≡ inlined goes b x
  inlined_same =
      ap (λ (z : List NetAt). let r : FlatCircuit = record {
        name = x.name;
        nets = indexed own_net x.nets ++ z;
        pins = x.pins;
        devices = indexed own_device x.devices ++ pieces (inner_devices goes a x) x.calls;
        calls = pieces (own_calls goes a) x.calls ++ pieces (inner_calls goes a x) x.calls;
      } in r) (pieces_same (inner_nets goes a) (inner_nets goes b) x.calls nets_same)
      ∙ (ap (λ (z : List DeviceAt). let r : FlatCircuit = record {
        name = x.name;
        nets = indexed own_net x.nets ++ pieces (inner_nets goes b) x.calls;
        pins = x.pins;
        devices = indexed own_device x.devices ++ z;
        calls = pieces (own_calls goes a) x.calls ++ pieces (inner_calls goes a x) x.calls;
      } in r) (pieces_same (inner_devices goes a x) (inner_devices goes b x) x.calls devices_same)
      ∙ ap (λ (z : List CallAt). let r : FlatCircuit = record {
        name = x.name;
        nets = indexed own_net x.nets ++ pieces (inner_nets goes b) x.calls;
        pins = x.pins;
        devices = indexed own_device x.devices ++ pieces (inner_devices goes b x) x.calls;
        calls = pieces (own_calls goes a) x.calls ++ z;
      } in r) (pieces_same (inner_calls goes a x) (inner_calls goes b x) x.calls calls_same))

module _ (g : Netlist) (goes : ℕ → Bool) (a b : ℕ → FlatCircuit) (height : ℕ → ℕ) (good : IsGood g height)
    (ones : (c : ℕ) (given : Circuit) → IsCircuit g c given → a c ≡ inlined goes a given) (others : (c : ℕ) (given : Circuit) → IsCircuit g c given → b c ≡ inlined goes b given) where
  pub one_flat : (h c : ℕ) (given : Circuit) → height c < h → IsCircuit g c given → a c ≡ b c
  one_flat zero c given low is = absurd (let l = low in omega arith)
  one_flat (suc h) c given low is =
      ones c given is
      ∙ (inlined_same goes a b given (λ k row e.
      let call : IsCall g c k row = (given, is, e) in
      let d = good.called c k row call in
      let lower = good.lower c k row call in
      let deeper : height row.circuit < h = let l = low in omega arith in
      one_flat h row.circuit d.0 deeper d.1)
      ∙ sym (others c given is))

pub one_list : OneFlatLaw
one_list g goes a b height good ones others c given is = one_flat g goes a b height good ones others (suc (height c)) c given (omega arith) is

module _ (P : ℕ → Bool) (f g : ℕ → ℕ) (one_f : (x y : ℕ) → P x ≡ true → P y ≡ true → f x ≡ f y → x ≡ y) (one_g : (x y : ℕ) → P x ≡ true → P y ≡ true → g x ≡ g y → x ≡ y) where
  record Known (m : ℕ) : Type 0 where
    old : ℕ
    is : P old ≡ true
    by_f : f old ≡ m
    by_g : g old ≡ m

  numbers : (xs : List ℕ) (next m n : ℕ) → ((k : ℕ) → k < next → Known k) → ((i x : ℕ) → slice_get xs i ≡ Some x → P x ≡ true) → AreNumbered m next (map f xs) → AreNumbered n next (map g xs)
      → (m ≡ n) × ((i x : ℕ) → slice_get xs i ≡ Some x → f x ≡ g x)
  numbers [] next m n known all hf hg = (sym hf ∙ hg, λ i x e. let none : slice_get [] i ≡ Some x = e in absurd cc)
  numbers (y ∷ ys) next m n known all hf hg =
      let is = all 0 y refl in
      let goes_on = λ (same : f y ≡ g y) (r : (m ≡ n) × ((i x : ℕ) → slice_get ys i ≡ Some x → f x ≡ g x)). with_first y ys m n same r in
      elim hf [
        | inl (lf, rf) ↦
            let s = known (f y) lf in
            let e : s.old ≡ y = one_f s.old y s.is is s.by_f in
            let same : f y ≡ g y = sym s.by_g ∙ ap g e in
            elim hg [
              | inl (lg, rg) ↦ goes_on same (numbers ys next m n known (λ i x e. all (suc i) x e) rf rg)
              | inr (eg, rg) ↦ absurd (let a = lf in let b = eg in let c = same in omega arith)
            ]
        | inr (ef, rf) ↦ elim hg [
          | inl (lg, rg) ↦
              let s = known (g y) lg in
              let e : s.old ≡ y = one_g s.old y s.is is s.by_g in
              let same : f y ≡ g y = ap f (sym e) ∙ s.by_f in
              absurd (let a = lg in let b = ef in let c = same in omega arith)
          | inr (eg, rg) ↦
              goes_on (ef ∙ sym eg) (numbers ys (suc next) m n (λ k low. elim (ℕ_discrete k next) [
                | yes same ↦ let r : Known k = record { old = y; is = is; by_f = ef ∙ sym same; by_g = eg ∙ sym same } in r
                | no not ↦ known k (less k next low not)
              ]) (λ i x e. all (suc i) x e) rf rg)
        ]
      ]
    where
      with_first : (y : ℕ) (ys : List ℕ) (m n : ℕ) → f y ≡ g y → (m ≡ n) × ((i x : ℕ) → slice_get ys i ≡ Some x → f x ≡ g x) → (m ≡ n) × ((i x : ℕ) → slice_get (y ∷ ys) i ≡ Some x → f x ≡ g x)
      with_first y ys m n same r = (r.0, first y ys same r.1)
        where
          first : (y : ℕ) (ys : List ℕ) → f y ≡ g y → ((i x : ℕ) → slice_get ys i ≡ Some x → f x ≡ g x) → (i x : ℕ) → slice_get (y ∷ ys) i ≡ Some x → f x ≡ g x
          first y ys same r zero x e = let h : Some y ≡ Some x = e in let z : y ≡ x = cc in subst (λ (q : ℕ). f q ≡ g q) z same
          first y ys same r (suc i) x e = r i x e

      less : (k next : ℕ) → k < suc next → (k ≡ next → ⊥) → k < next
      less k next low not = let l = low in let n = not in omega arith

pub one_number : OneNumberLaw
one_number P f g one_f one_g xs m n all hf hg = numbers P f g one_f one_g xs 0 m n (λ k low. absurd (let l = low in omega arith)) all hf hg
