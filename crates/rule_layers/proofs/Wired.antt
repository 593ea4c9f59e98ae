-- Conductors, known globals, terminals.
use Rattle.std.proofs.Common.{◌≡◌, ◌⊎◌, inl, inr, ℕ, zero, suc, ◌+◌, ◌<◌, ◌==◌, ◌&&◌, Bool, true, false, if◌then◌else◌, List, [], ◌∷◌, ◌++◌, map, length, get_or, slice_get, Some, refl, ◌∙◌, ap, subst, arith}
use Rattle.base_laws.proofs.Items.{map_from}
use Rattle.std.proofs.lemmas.Bool.{or_left, or_right, and_parts}
use Rattle.std.specs.List.{list_any, position_or_len}
use Rattle.std.specs.Str.{bytes_eq}
use Rattle.std.proofs.lemmas.List.Folds.{list_any-append}
use Rattle.std.proofs.lemmas.Option.{same_Some}
use Rattle.std.proofs.lemmas.Slice.Eq.{bytes_eq-Decides}
use Rattle.flat_layout.specs.Gates.{Rule}
use Rattle.flat_layout.specs.Layers.{Formula, Empty}
use Rattle.flat_layout.specs.Regions.{Line, ground_of}
use Rattle.rule_text.specs.declared.rules.MosRule.{MosRule}
use Rattle.rule_text.specs.declared.rules.MoreRule.{MoreRule}
use Rattle.rule_text.specs.declared.rules.MoreRule.TheVariants as more
use Rattle.rule_text.specs.Rules.{Rules}
use Rattle.rule_text.specs.Reading.{is_conductor, is_connected, is_more_connected}
use Rattle.rule_text.proofs.SoundLemmas.{place_below}
use Rattle.rule_layers.specs.Laws.{ConductorLaw, KnownGlobalLaw, TerminalConductorLaw, AreTerminalsConductors}
use Rattle.rule_layers.specs.Meaning.{conductor_formulas, device_rule, globals_behind, globals_of, line, more_rule, mos_rules}
use Rattle.rule_layers.specs.Formulas.{formulas}

-- from number n on, place k is that of name n + k
is_read : (r : Rules) (n : ℕ) (xs : List Formula) (k : ℕ) → is_conductor (n + k) r ≡ true → get_or (conductor_formulas r n xs) k Empty ≡ get_or xs k Empty
is_read r n [] k h = refl
is_read r n (x ∷ xs) zero h = ap (λ b. if b then x else Empty) (ap (λ m. is_conductor m r) (let e : n ≡ n + 0 = omega arith in e) ∙ h)
is_read r n (x ∷ xs) (suc k) h = is_read r (suc n) xs k (ap (λ m. is_conductor m r) (let e : suc n + k ≡ n + suc k = omega arith in e) ∙ h)

isnt_read : (r : Rules) (n : ℕ) (xs : List Formula) (k : ℕ) → is_conductor (n + k) r ≡ false → get_or (conductor_formulas r n xs) k Empty ≡ Empty
isnt_read r n [] k h = refl
isnt_read r n (x ∷ xs) zero h = ap (λ b. if b then x else Empty) (ap (λ m. is_conductor m r) (let e : n ≡ n + 0 = omega arith in e) ∙ h)
isnt_read r n (x ∷ xs) (suc k) h = isnt_read r (suc n) xs k (ap (λ m. is_conductor m r) (let e : suc n + k ≡ n + suc k = omega arith in e) ∙ h)

pub conductors : ConductorLaw
conductors r k =
    let e : 0 + k ≡ k = omega arith in record {
      conductor = λ h. is_read r 0 (formulas r.names) k (ap (λ m. is_conductor m r) e ∙ h);
      none = λ h. isnt_read r 0 (formulas r.names) k (ap (λ m. is_conductor m r) e ∙ h);
    }

own_name : (b : List ℕ) → bytes_eq b b ≡ true
own_name b = (bytes_eq-Decides b b).1 refl

-- names that were seen stay
stays_seen : (p : List ℕ → Bool) (seen : List (List ℕ)) (gs : List (ℕ × List ℕ)) → list_any p seen ≡ true → list_any p (globals_behind seen gs) ≡ true
stays_seen p seen [] h = h
stays_seen p seen (g ∷ gs) h = stays_seen p (if list_any (bytes_eq g.1) seen then seen else seen ++ g.1 ∷ []) gs (by (list_any (bytes_eq g.1) seen))
  where
    by : (b : Bool) → list_any p (if b then seen else seen ++ g.1 ∷ []) ≡ true
    by true = h
    by false = list_any-append p seen (g.1 ∷ []) ∙ or_left (list_any p seen) (list_any p (g.1 ∷ [])) h

-- and each line's name is among them
is_seen : (seen : List (List ℕ)) (gs : List (ℕ × List ℕ)) (k : ℕ) (g : ℕ × List ℕ) → slice_get gs k ≡ Some g → list_any (bytes_eq g.1) (globals_behind seen gs) ≡ true
is_seen seen [] k g h = cc
is_seen seen (x ∷ gs) zero g h =
    let same : x ≡ g = (let e : Some x ≡ Some g = h in cc) in
    subst (λ (y : ℕ × List ℕ). list_any (bytes_eq y.1) (globals_behind seen (x ∷ gs)) ≡ true) same
    (stays_seen (bytes_eq x.1) (if list_any (bytes_eq x.1) seen then seen else seen ++ x.1 ∷ []) gs (by (list_any (bytes_eq x.1) seen) refl))
  where
    by : (b : Bool) → list_any (bytes_eq x.1) seen ≡ b → list_any (bytes_eq x.1) (if b then seen else seen ++ x.1 ∷ []) ≡ true
    by true e = e
    by false e = list_any-append (bytes_eq x.1) seen (x.1 ∷ []) ∙ or_right (list_any (bytes_eq x.1) seen) (list_any (bytes_eq x.1) (x.1 ∷ [])) (or_left (bytes_eq x.1 x.1) false (own_name x.1))
is_seen seen (x ∷ gs) (suc k) g h = is_seen (if list_any (bytes_eq x.1) seen then seen else seen ++ x.1 ∷ []) gs k g h

abbrev ground_line : List (List ℕ) → ℕ × List ℕ → Line
ground_line names g = line g.0 (position_or_len (bytes_eq g.1) names)

grounded : (names : List (List ℕ)) (gs : List (ℕ × List ℕ)) (c n : ℕ) → ((k : ℕ) (g : ℕ × List ℕ) → slice_get gs k ≡ Some g → list_any (bytes_eq g.1) names ≡ true)
    → ground_of c (map (ground_line names) gs) ≡ Some n → n < length names
grounded names [] c n all h = cc
grounded names (g ∷ gs) c n all h = by (g.0 == c) h (grounded names gs c n (λ k x at. all (suc k) x at))
  where
    by : (b : Bool) → (if b then Some (position_or_len (bytes_eq g.1) names) else ground_of c (map (ground_line names) gs)) ≡ Some n → (ground_of c (map (ground_line names) gs) ≡ Some n → n < length names) → n < length names
    by true e rest = subst (λ m. m < length names) (same_Some _ _ e) (place_below (bytes_eq g.1) names (all 0 g refl))
    by false e rest = rest e

pub known : KnownGlobalLaw
known r c g h = grounded (globals_of r) r.globals c g (λ k x at. is_seen [] r.globals k x at) h

connected_parts : (r : Rules) (m : MosRule) → is_connected m r ≡ true → AreTerminalsConductors r (device_rule r m)
connected_parts r m h =
    let all = and_parts (is_conductor m.ts r && is_conductor m.tg r) (is_conductor m.tb r) h in
    let both = and_parts (is_conductor m.ts r) (is_conductor m.tg r) all.0 in
    record { ts = both.0; tg = both.1; tb = all.1 }

more_parts : (r : Rules) (m : MoreRule) → is_more_connected m r ≡ true → AreTerminalsConductors r (more_rule r m)
more_parts r (more.Resistor class n c w ta tw) h = let both = and_parts (is_conductor ta r) (is_conductor tw r) h in record { ts = both.0; tg = both.1; tb = both.1 }
more_parts r (more.Diode class p n ta tc) h = let both = and_parts (is_conductor ta r) (is_conductor tc r) h in record { ts = both.0; tg = both.1; tb = both.1 }

-- an item of two lists is one of either
pub of_both : {A : Type 0} (xs ys : List A) (n : ℕ) (a : A) → slice_get (xs ++ ys) n ≡ Some a → (slice_get xs n ≡ Some a) ⊎ ((k : ℕ) × (slice_get ys k ≡ Some a))
of_both [] ys n a h = inr (n, h)
of_both (x ∷ xs) ys zero a h = inl h
of_both (x ∷ xs) ys (suc n) a h = of_both xs ys n a h

pub terminals : TerminalConductorLaw
terminals r n u sound h = elim (of_both (mos_rules r) (map (more_rule r) r.more) n u h) [
  | inl g ↦
      let m = map_from (device_rule r) r.devices n u g in
      subst (λ (v : Rule). AreTerminalsConductors r v) m.2 (connected_parts r m.0 (sound.connected n m.0 m.1))
  | inr (k, g) ↦
      let m = map_from (more_rule r) r.more k u g in
      subst (λ (v : Rule). AreTerminalsConductors r v) m.2 (more_parts r m.0 (sound.more_connected k m.0 m.1))
]
