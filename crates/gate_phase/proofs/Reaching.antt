-- How far names and device rules reach.
use Rattle.std.proofs.Common.{◌≡◌, ◌∙◌, ℕ, zero, suc, ◌+◌, ◌<◌, ◌≤◌, List, [], ◌∷◌, Option, Some, None, get_or, length, map, max, slice_get, refl, sym, ap, arith}
use Rattle.flat_layout.specs.Gates.{Rule, gate_reach}
use Rattle.flat_layout.specs.Layers.{Empty, Formula, reach}
use Rattle.flat_layout.specs.Regions.{formula}
use Rattle.rule_text.specs.Rules.{Rules}
use Rattle.rule_text.specs.Reaches.{reaches}
use Rattle.rule_text.specs.Sound.{IsSound}
use Rattle.rule_layers.specs.Formulas.{formulas, zone_margin}
use Rattle.rule_layers.specs.Meaning.{device_rules, wiring_of}
use Rattle.rule_layers.proofs.Reaching.{conductor_reach, gate_reaches, near, reach_in, reach_law}
use Rattle.gate_phase.specs.Devices.{IsTerminalName, device_reach, devices_of, layer_in, layer_reach, region_of, region_reach}
use Rattle.gate_phase.specs.Own.{IsRuleReach}
use Rattle.gate_phase.specs.declared.device.Device.{Device}
use Rattle.gate_phase.specs.declared.device.Region.{Region}
use Rattle.gate_phase.specs.declared.device.Region.TheVariants.{One, Both}
use Rattle.gate_phase.proofs.Numbering.{device_is, known_device, some_rule}

-- none further than 10,000
pub name_most : (r : Rules) (i : ℕ) → IsSound r → reach (get_or (formulas r.names) i Empty) ≤ 10000
name_most r i sound = let most = reach_in r.names i in let limit = near r sound in omega (arith, most, limit)

pub conductor_most : (r : Rules) (c : ℕ) → IsSound r → reach (formula (wiring_of r) c) ≤ 10000
conductor_most r c sound = let most = conductor_reach r c in let limit = near r sound in omega (arith, most, limit)

pub rule_most : (r : Rules) (device n : ℕ) → IsSound r → device < length (device_rules r) → IsRuleReach r device n → n ≤ 10000
rule_most r device n sound lt is =
    let u = some_rule r device lt in
    let same = is u.0 u.1 in
    let most = gate_reaches r device u.0 u.1 in
    let limit = near r sound in
    omega (arith, same, most, limit)

-- and tables ask twice as far and one square more
pub rule_margin : (r : Rules) (device : ℕ) (u : Rule) → slice_get (device_rules r) device ≡ Some u → (gate_reach (wiring_of r) u + 1) + gate_reach (wiring_of r) u ≤ zone_margin r.names
rule_margin r device u at = let most = gate_reaches r device u at in omega (arith, most)

one_reach : (xs : List Formula) (i : ℕ) → reach (get_or xs i Empty) ≡ get_or (map reach xs) i 0
one_reach [] i = refl
one_reach (x ∷ xs) zero = refl
one_reach (x ∷ xs) (suc i) = one_reach xs i

-- a name reaches as far as its tree
pub name_reach : (r : Rules) (ns : List ℕ) (i : ℕ) → ns ≡ reaches r.names → reach (get_or (formulas r.names) i Empty) ≡ get_or ns i 0
name_reach r ns i is = one_reach (formulas r.names) i ∙ ap (λ (l : List ℕ). get_or l i 0) (sym (is ∙ reach_law r.names))

pub region_in : (r : Rules) (ns : List ℕ) (g : Region) → ns ≡ reaches r.names → reach (region_of (formulas r.names) g) ≡ region_reach ns g
region_in r ns (One a) is = name_reach r ns a is
region_in r ns (Both a b) is = ap (λ n. max n (reach (get_or (formulas r.names) b Empty))) (name_reach r ns a is) ∙ ap (λ n. max (get_or ns a 0) n) (name_reach r ns b is)

layer_reach_in : (r : Rules) (ns : List ℕ) (o : Option ℕ) → ns ≡ reaches r.names → reach (layer_in (formulas r.names) o) ≡ layer_reach ns o
layer_reach_in r ns None is = refl
layer_reach_in r ns (Some a) is = name_reach r ns a is

same_most : (a b c d e f k l m n o p : ℕ) → a ≡ k → b ≡ l → c ≡ m → d ≡ n → e ≡ o → f ≡ p → max a (max b (max c (max d (max e f)))) ≡ max k (max l (max m (max n (max o p))))
same_most a b c d e f k l m n o p h1 h2 h3 h4 h5 h6 = cc

-- a device rule reaches as far as its layers
pub rule_reach : (r : Rules) (ns : List ℕ) (device : ℕ) (x : Device) → IsSound r → ns ≡ reaches r.names → slice_get (devices_of r) device ≡ Some x → IsRuleReach r device (device_reach ns x)
rule_reach r ns device x sound is there u at =
    let of = device_is r device x u there at in
    let known = known_device r device x sound there in
    let terminal : (a b : ℕ) → a ≡ b → IsTerminalName r b → reach (formula (wiring_of r) a) ≡ get_or ns b 0 = λ a b e t. ap (λ (y : Formula). reach y) (ap (λ n. formula (wiring_of r) n) e ∙ t.read) ∙ name_reach r ns b is in
    same_most _ _ _ _ _ _ _ _ _ _ _ _ (ap (λ (y : Formula). reach y) of.ends ∙ layer_reach_in r ns x.ends is) (ap (λ (y : Formula). reach y) of.region ∙ region_in r ns x.region is)
    (ap (λ (y : Formula). reach y) of.well ∙ layer_reach_in r ns x.well is) (terminal u.ts x.ts of.ts known.ts) (terminal u.tg x.tg of.tg known.tg) (terminal u.tb x.tb of.tb known.tb)
