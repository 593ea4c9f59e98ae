-- Flat circuits exist: those made with as many levels as a circuit is high.
use Rattle.std.proofs.Common.{◌≡◌, ℕ, zero, suc, ◌<◌, Bool, cond, List, [], ◌∷◌, ◌++◌, map, Some, slice_get, refl, subst, ◌∙◌, ap, ap₂, arith}
use Rattle.std.proofs.Math.Path.{fun_ext}
use Rattle.plain_netlist.specs.Netlist.{CallRow, Circuit, Netlist, IsCircuit, IsCall}
use Rattle.plain_netlist.specs.Sound.{IsGood}
use Rattle.align_laws.specs.Lists.{NetAt, DeviceAt, CallAt, FlatCircuit, over, indexed, pieces, joined_place, past, net_at_pin, net_below, device_below, call_below, own_net, own_device, inner_nets, net_in, inner_devices, own_calls, inner_calls, inlined, plain, given_of, circuit_or}
use Rattle.align_laws.proofs.Unique.{pieces_same}
use Rattle.net_align.specs.Flattened.{Flattening, IsFlattening}

place_same : {A B : Type 0} (f g : ℕ → A → List B) (xs : List A) (i j : ℕ) → ((k : ℕ) (x : A) → slice_get xs k ≡ Some x → f k x ≡ g k x) → joined_place f xs i j ≡ joined_place g xs i j
place_same f g [] i j h = refl
place_same f g (x ∷ xs) zero j h = refl
place_same {B = B} f g (x ∷ xs) (suc i) j h = ap₂ (λ (p : List B) (q : ℕ). over p q) (h 0 x refl) (place_same (λ k. f (suc k)) (λ k. g (suc k)) xs i j (λ k y e. h (suc k) y e))

-- what is made of a circuit depends on the flat circuits that it calls alone
module _ (goes : ℕ → Bool) (a b : ℕ → FlatCircuit) (x : Circuit) (h : (k : ℕ) (row : CallRow) → slice_get x.calls k ≡ Some row → a row.circuit ≡ b row.circuit) where
  nets_same : (k : ℕ) (row : CallRow) → slice_get x.calls k ≡ Some row → inner_nets goes a k row ≡ inner_nets goes b k row
  nets_same k row e = ap (λ (z : FlatCircuit). cond (goes row.circuit) (map (net_below k) (past row.nets z.nets)) []) (h k row e)

  to_same : (k : ℕ) (row : CallRow) → net_in goes a x k row ≡ net_in goes b x k row
  to_same k row = ap (λ (far : ℕ → ℕ). net_at_pin row.nets far) (fun_ext (λ m. ap (over (indexed own_net x.nets)) (place_same (inner_nets goes a) (inner_nets goes b) x.calls k m nets_same)))

  devices_same : (k : ℕ) (row : CallRow) → slice_get x.calls k ≡ Some row → inner_devices goes a x k row ≡ inner_devices goes b x k row
  devices_same k row e = ap₂ (λ (to : ℕ → ℕ) (z : FlatCircuit). cond (goes row.circuit) (map (device_below k to) z.devices) []) (to_same k row) (h k row e)

  calls_same : (k : ℕ) (row : CallRow) → slice_get x.calls k ≡ Some row → inner_calls goes a x k row ≡ inner_calls goes b x k row
  calls_same k row e = ap₂ (λ (to : ℕ → ℕ) (z : FlatCircuit). cond (goes row.circuit) (map (call_below k to) z.calls) []) (to_same k row) (h k row e)

  abbrev with_parts : List NetAt → List DeviceAt → List CallAt → FlatCircuit
  with_parts ns ds cs = record {
    name = x.name;
    nets = indexed own_net x.nets ++ ns;
    pins = x.pins;
    devices = indexed own_device x.devices ++ ds;
    calls = pieces (own_calls goes a) x.calls ++ cs;
  }

  pub made_same : inlined goes a x ≡ inlined goes b x
  made_same =
      ap (λ (z : List NetAt). with_parts z (pieces (inner_devices goes a x) x.calls) (pieces (inner_calls goes a x) x.calls)) (pieces_same (inner_nets goes a) (inner_nets goes b) x.calls nets_same)
      ∙ (ap (λ (z : List DeviceAt). with_parts (pieces (inner_nets goes b) x.calls) z (pieces (inner_calls goes a x) x.calls)) (pieces_same (inner_devices goes a x) (inner_devices goes b x) x.calls devices_same)
      ∙ ap (λ (z : List CallAt). with_parts (pieces (inner_nets goes b) x.calls) (pieces (inner_devices goes b x) x.calls) z) (pieces_same (inner_calls goes a x) (inner_calls goes b x) x.calls calls_same))

pub indexed_at : {A B : Type 0} (f : ℕ → A → B) (xs : List A) (i : ℕ) (x : A) → slice_get xs i ≡ Some x → slice_get (indexed f xs) i ≡ Some (f i x)
indexed_at f [] i x e = absurd (let z : ⊥ = cc in z)
indexed_at f (y ∷ xs) zero x e = let k : y ≡ x = cc in ap (λ z. Some (f 0 z)) k
indexed_at f (y ∷ xs) (suc i) x e = indexed_at (λ k. f (suc k)) xs i x e

pub at_indexed : {A B : Type 0} (f : ℕ → A → B) (xs : List A) (i : ℕ) (y : B) → slice_get (indexed f xs) i ≡ Some y → (x : A) × (slice_get xs i ≡ Some x)
at_indexed f [] i y e = absurd (let z : ⊥ = cc in z)
at_indexed f (x ∷ xs) zero y e = (x, refl)
at_indexed f (x ∷ xs) (suc i) y e = at_indexed (λ k. f (suc k)) xs i y e

module _ (g : Netlist) (goes : ℕ → Bool) where
  abbrev pub nothing : FlatCircuit
  nothing = record { name = []; nets = []; pins = []; devices = []; calls = [] }

  -- with n levels
  abbrev pub flat_at : ℕ → ℕ → FlatCircuit
  flat_at zero c = nothing
  flat_at (suc n) c = inlined goes (flat_at n) (given_of g c)

-- each circuit with as many levels as it is high
abbrev pub flattening_of : Netlist → (ℕ → ℕ) → (ℕ → Bool) → Flattening
flattening_of g height goes = record {
  flat = record { circuits = indexed (λ (c : ℕ) (x : Circuit). plain (flat_at g goes (suc (height c)) c)) g.circuits };
  flats = λ c. flat_at g goes (suc (height c)) c;
  height = height;
}

module _ (g : Netlist) (height : ℕ → ℕ) (good : IsGood g height) (goes : ℕ → Bool) where
  given_is : (c : ℕ) (given : Circuit) → IsCircuit g c given → given_of g c ≡ given
  given_is c given is = ap circuit_or is

  below : (c k : ℕ) (row : CallRow) (given : Circuit) → IsCircuit g c given → slice_get (given_of g c).calls k ≡ Some row → IsCall g c k row
  below c k row given is e = (given, is, subst (λ (x : Circuit). slice_get x.calls k ≡ Some row) (given_is c given is) e)

  stable : (n m c : ℕ) (given : Circuit) → IsCircuit g c given → height c < n → height c < m → flat_at g goes n c ≡ flat_at g goes m c
  stable zero m c given is l k = absurd (let z = l in omega arith)
  stable (suc n) zero c given is l k = absurd (let z = k in omega arith)
  stable (suc n) (suc m) c given is l k =
      made_same goes (flat_at g goes n) (flat_at g goes m) (given_of g c) (λ j row e.
      let call = below c j row given is e in
      let d = good.called c j row call in
      let deeper = good.lower c j row call in
      stable n m row.circuit d.0 d.1 (omega (arith, l, deeper)) (omega (arith, k, deeper)))

  abbrev all : ℕ → FlatCircuit
  all c = flat_at g goes (suc (height c)) c

  each : (c : ℕ) (given : Circuit) → IsCircuit g c given → all c ≡ inlined goes all given
  each c given is =
      made_same goes (flat_at g goes (height c)) all (given_of g c) (λ j row e.
      let call = below c j row given is e in
      let d = good.called c j row call in
      let deeper = good.lower c j row call in
      stable (height c) (suc (height row.circuit)) row.circuit d.0 d.1 deeper (omega arith))
      ∙ ap (inlined goes all) (given_is c given is)

  pub is_flattening : IsFlattening g goes (flattening_of g height goes)
  is_flattening = record {
    good = good;
    are = record {
      each = each;
      there = λ c given is. indexed_at (λ (k : ℕ) (x : Circuit). plain (all k)) g.circuits c given is;
      back = λ c x is. at_indexed (λ (k : ℕ) (y : Circuit). plain (all k)) g.circuits c x is;
    };
  }
