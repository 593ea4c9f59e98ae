-- Device rules by their numbers.
use Rattle.std.proofs.Common.{◌≡◌, ◌⊎◌, inl, inr, ℕ, zero, suc, ◌<◌, ◌+◌, true, List, [], ◌∷◌, ◌++◌, Option, Some, None, map, length, length-append, slice_get, refl, sym, ◌∙◌, subst, arith}
use Rattle.base_laws.proofs.Items.{map_to, get_left, map_from}
use Rattle.std.proofs.lemmas.List.{length-map}
use Rattle.std.proofs.lemmas.Option.{slice_get_within}
use Rattle.flat_layout.specs.Gates.{Rule}
use Rattle.rule_text.specs.Rules.{Rules}
use Rattle.rule_text.specs.Reading.{is_conductor}
use Rattle.rule_text.specs.Sound.{AreMoreLayers, IsSound}
use Rattle.rule_text.specs.declared.rules.MosRule.{MosRule}
use Rattle.rule_text.specs.declared.rules.MoreRule.{MoreRule}
use Rattle.rule_text.specs.declared.rules.MoreRule.TheVariants as more
use Rattle.rule_layers.specs.Formulas.{formulas}
use Rattle.rule_layers.specs.Laws.{AreTerminalsConductors}
use Rattle.rule_layers.specs.Meaning.{device_rule, device_rules, more_rule, mos_rules}
use Rattle.rule_layers.specs.Reads.{IsRead, ReadsFurther}
use Rattle.rule_layers.proofs.Wired.{conductors, terminals}
use Rattle.gate_phase.specs.Devices.{IsDevice, IsKnownDevice, IsTerminalName, devices_of, of_more, of_mos}
use Rattle.gate_phase.specs.declared.device.Device.{Device}

pub count_rules : (r : Rules) → length (device_rules r) ≡ length r.devices + length r.more
count_rules r =
    let both = length-append (mos_rules r) (map (more_rule r) r.more) in
    let first = length-map r.devices (device_rule r) in let second = length-map r.more (more_rule r) in
    omega (arith, both, first, second)

pub behind : {A : Type 0} (xs ys : List A) (n k : ℕ) (a : A) → n ≡ length xs + k → slice_get ys k ≡ Some a → slice_get (xs ++ ys) n ≡ Some a
behind [] ys n k a e h = let z : n ≡ k = omega (arith, e) in subst (λ i. slice_get ys i ≡ Some a) (sym z) h
behind (x ∷ xs) ys zero k a e h = absurd (let z : ⊥ = omega (arith, e) in z)
behind (x ∷ xs) ys (suc n) k a e h = behind xs ys n k a (omega (arith, e)) h

pub mos_at : (r : Rules) (n : ℕ) (m : MosRule) → slice_get r.devices n ≡ Some m → slice_get (devices_of r) n ≡ Some (of_mos m)
mos_at r n m e = get_left (map of_mos r.devices) (map of_more r.more) n (of_mos m) (map_to of_mos r.devices n m e)

pub more_at : (r : Rules) (n k : ℕ) (m : MoreRule) → n ≡ length r.devices + k → slice_get r.more k ≡ Some m → slice_get (devices_of r) n ≡ Some (of_more m)
more_at r n k m e h = let long = length-map r.devices of_mos in behind (map of_mos r.devices) (map of_more r.more) n k (of_more m) (omega (arith, e, long)) (map_to of_more r.more k m h)

-- an item of two lists stands in front or behind
two_parts : {A : Type 0} (xs ys : List A) (n : ℕ) (a : A) → slice_get (xs ++ ys) n ≡ Some a → (slice_get xs n ≡ Some a) ⊎ ((k : ℕ) × (n ≡ length xs + k) × (slice_get ys k ≡ Some a))
two_parts [] ys n a h = inr (n, omega arith, h)
two_parts (x ∷ xs) ys zero a h = inl h
two_parts (x ∷ xs) ys (suc n) a h = elim (two_parts xs ys n a h) [
  | inl g ↦ inl g
  | inr (k, e, g) ↦ inr (k, omega (arith, e), g)
]

-- a device rule is a transistor's or a further one
abbrev pub IsMosAt : Rules → ℕ → Device → Type 0
IsMosAt r n x = (m : MosRule) × (slice_get r.devices n ≡ Some m) × (of_mos m ≡ x)

abbrev pub IsMoreAt : Rules → ℕ → Device → Type 0
IsMoreAt r n x = (k : ℕ) × (n ≡ length r.devices + k) × (m : MoreRule) × (slice_get r.more k ≡ Some m) × (of_more m ≡ x)

pub by_kind : (r : Rules) (n : ℕ) (x : Device) → slice_get (devices_of r) n ≡ Some x → IsMosAt r n x ⊎ IsMoreAt r n x
by_kind r n x h = elim (two_parts (map of_mos r.devices) (map of_more r.more) n x h) [
  | inl g ↦ let m = map_from of_mos r.devices n x g in inl (m.0, m.1, m.2)
  | inr (k, e, g) ↦
      let m = map_from of_more r.more k x g in
      let long = length-map r.devices of_mos in
      inr (k, omega (arith, e, long), m.0, m.1, m.2)
]

-- the rule of a number's device
pub mos_device : (r : Rules) (m : MosRule) → IsDevice (formulas r.names) (of_mos m) (device_rule r m)
mos_device r m = record { kind = refl; region = refl; ends = refl; well = refl; ts = refl; tg = refl; tb = refl }

pub more_device : (r : Rules) (m : MoreRule) → IsDevice (formulas r.names) (of_more m) (more_rule r m)
more_device r (more.Resistor class n c w ta tw) = record { kind = refl; region = refl; ends = refl; well = refl; ts = refl; tg = refl; tb = refl }
more_device r (more.Diode class p n ta tc) = record { kind = refl; region = refl; ends = refl; well = refl; ts = refl; tg = refl; tb = refl }

pub record IsRuleAt (r : Rules) (n : ℕ) (x : Device) : Type 0 where
  pub rule : Rule
  pub there : slice_get (device_rules r) n ≡ Some rule
  pub device : IsDevice (formulas r.names) x rule

pub rule_at : (r : Rules) (n : ℕ) (x : Device) → slice_get (devices_of r) n ≡ Some x → IsRuleAt r n x
rule_at r n x h = elim (by_kind r n x h) [
  | inl (m, at, e) ↦ record {
    rule = device_rule r m;
    there = get_left (mos_rules r) (map (more_rule r) r.more) n (device_rule r m) (map_to (device_rule r) r.devices n m at);
    device = subst (λ (y : Device). IsDevice (formulas r.names) y (device_rule r m)) e (mos_device r m);
  }
  | inr (k, is, m, at, e) ↦
      let long = length-map r.devices (device_rule r) in record {
        rule = more_rule r m;
        there = behind (mos_rules r) (map (more_rule r) r.more) n k (more_rule r m) (omega (arith, is, long)) (map_to (more_rule r) r.more k m at);
        device = subst (λ (y : Device). IsDevice (formulas r.names) y (more_rule r m)) e (more_device r m);
      }
]

pub one_rule : (o : Option Rule) (a b : Rule) → o ≡ Some a → o ≡ Some b → a ≡ b
one_rule o a b e f = let g : Some a ≡ Some b = sym e ∙ f in cc

-- each rule of that number is the device's
pub device_is : (r : Rules) (n : ℕ) (x : Device) (u : Rule) → slice_get (devices_of r) n ≡ Some x → slice_get (device_rules r) n ≡ Some u → IsDevice (formulas r.names) x u
device_is r n x u h at =
    let a = rule_at r n x h in
    subst (λ (v : Rule). IsDevice (formulas r.names) x v) (one_rule (slice_get (device_rules r) n) a.rule u a.there at) a.device

-- the number of a device is a rule's
pub some_rule : (r : Rules) (n : ℕ) → n < length (device_rules r) → (u : Rule) × (slice_get (device_rules r) n ≡ Some u)
some_rule r n lt = by (slice_get (device_rules r) n) refl
  where
    get_within : {A : Type 0} (xs : List A) (k : ℕ) → k < length xs → slice_get xs k ≡ None → ⊥
    get_within [] k lt e = let z : ⊥ = omega arith in z
    get_within (x ∷ xs) zero lt e = let f : Some x ≡ None = e in let z : ⊥ = cc in z
    get_within (x ∷ xs) (suc k) lt e = get_within xs k (omega arith) e

    by : (o : Option Rule) → slice_get (device_rules r) n ≡ o → (u : Rule) × (slice_get (device_rules r) n ≡ Some u)
    by None e = absurd (get_within (device_rules r) n lt e)
    by (Some u) e = (u, e)

-- the names of sound rules are known
known_mos : (r : Rules) (n : ℕ) (m : MosRule) → IsSound r → slice_get r.devices n ≡ Some m → IsKnownDevice r (of_mos m)
known_mos r n m sound there =
    let l = sound.formed.devices n m there in
    let t = terminals r n (device_rule r m) sound (get_left (mos_rules r) (map (more_rule r) r.more) n (device_rule r m) (map_to (device_rule r) r.devices n m there)) in
    record {
      region = l.g.below;
      ends = l.sd.below;
      ts = record { known = l.ts.below; read = (conductors r m.ts).conductor t.ts };
      tg = record { known = l.tg.below; read = (conductors r m.tg).conductor t.tg };
      tb = record { known = l.tb.below; read = (conductors r m.tb).conductor t.tb };
    }

further_read : (r : Rules) (k i : ℕ) (m : MoreRule) → slice_get r.more k ≡ Some m → ReadsFurther m i → IsRead r.names r.devices r.more i
further_read r k i m there reads = inr (inr (record { at = k; rule = m; at_in = slice_get_within r.more k m there; there = there; reads = reads }))

terminal : (r : Rules) (c : ℕ) → c < length r.names → is_conductor c r ≡ true → IsTerminalName r c
terminal r c lt is = record { known = lt; read = (conductors r c).conductor is }

known_more : (r : Rules) (n k : ℕ) (m : MoreRule) → IsSound r → n ≡ length r.devices + k → slice_get r.more k ≡ Some m → AreTerminalsConductors r (more_rule r m) → AreMoreLayers r.names m → IsKnownDevice r (of_more m)
known_more r n k (more.Resistor class g c w ta tw) sound is there t l = record {
  region = l.0.below;
  ends = l.1.below;
  ts = terminal r ta l.3.below t.ts;
  tg = terminal r tw l.4.below t.tg;
  tb = terminal r tw l.4.below t.tb;
}
known_more r n k (more.Diode class p q ta tc) sound is there t l = record {
  region = (l.0.below, l.1.below, further_read r k p (more.Diode class p q ta tc) there (inl refl), further_read r k q (more.Diode class p q ta tc) there (inr (inl refl)));
  ends = tt;
  ts = terminal r ta l.2.below t.ts;
  tg = terminal r tc l.3.below t.tg;
  tb = terminal r tc l.3.below t.tb;
}

pub known_device : (r : Rules) (n : ℕ) (x : Device) → IsSound r → slice_get (devices_of r) n ≡ Some x → IsKnownDevice r x
known_device r n x sound at = elim (by_kind r n x at) [
  | inl (m, there, e) ↦ subst (λ (y : Device). IsKnownDevice r y) e (known_mos r n m sound there)
  | inr (k, is, m, there, e) ↦
      let long = length-map r.devices (device_rule r) in
      let t = terminals r n (more_rule r m) sound (behind (mos_rules r) (map (more_rule r) r.more) n k (more_rule r m) (omega (arith, is, long)) (map_to (more_rule r) r.more k m there)) in
      subst (λ (y : Device). IsKnownDevice r y) e (known_more r n k m sound is there t (sound.formed.more k m there))
]
