-- The classes of sound rules' devices are folded, and ones that cards have.
use Rattle.std.proofs.Common.{◌≡◌, inl, inr, ℕ, ◌<◌, ◌==◌, true, false, List, [], ◌∷◌, map, length, refl, subst, arith}
use Rattle.base_laws.proofs.Items.{map_from}
use Rattle.std.proofs.lemmas.Bool.{and_parts}
use Rattle.std.specs.Prelude.{nat_le}
use Rattle.std.specs.List.{list_all}
use Rattle.net_names.specs.Folding.{folded_byte, folded_bytes}
use Rattle.plain_netlist.specs.declared.kinds.DeviceKind.TheVariants.{Mos4}
use Rattle.rule_layers.specs.Meaning.{device_rule, device_rules, more_rule, mos_rules}
use Rattle.rule_layers.proofs.Wired.{of_both}
use Rattle.rule_text.specs.declared.rules.MosRule.{MosRule}
use Rattle.rule_text.specs.declared.rules.MoreRule.{MoreRule}
use Rattle.rule_text.specs.declared.rules.MoreRule.TheVariants as more
use Rattle.rule_text.specs.Rows.{is_printable, is_string}
use Rattle.rule_text.specs.Rules.{Rules}
use Rattle.rule_text.specs.Sound.{IsFormed}
use Rattle.netlist_file.specs.Extracted.{AreClassed, IsClassed}
use Rattle.netlist_file.proofs.GivenLemmas.{folded_fixed}
use Rattle.spice_rows.specs.Rows.{is_class}

-- a printable byte that is folded is neither 1 nor 2
high : (b : ℕ) → is_printable b ≡ true → 2 < folded_byte b
high b e = let low = (and_parts (nat_le 0x20 b) (nat_le b 0x7E) e).0 in grind (arith, low)

not_equal : (b k : ℕ) → k < b → (b == k) ≡ false
not_equal b k lt = grind (arith, lt)

model_of : (w : List ℕ) → is_string w ≡ true → is_class Mos4 (folded_bytes w) ≡ true
model_of [] e = refl
model_of (b ∷ bs) e =
    let printed = (and_parts (nat_le 1 (length (b ∷ bs))) (list_all is_printable (b ∷ bs)) e).1 in
    let up = high b (and_parts (is_printable b) (list_all is_printable bs) printed).0 in
    rw (not_equal (folded_byte b) 1 (omega (arith, up)), not_equal (folded_byte b) 2 up) refl

mos_classed : (r : Rules) (m : MosRule) → is_string m.class ≡ true → IsClassed (device_rule r m)
mos_classed r m e = record { folded = folded_fixed m.class; model = model_of m.class e }

more_classed : (r : Rules) (m : MoreRule) → IsClassed (more_rule r m)
more_classed r (more.Resistor class n c w ta tw) = record { folded = folded_fixed class; model = refl }
more_classed r (more.Diode class p n ta tc) = record { folded = folded_fixed class; model = refl }

pub classed : (r : Rules) → IsFormed r → AreClassed (device_rules r)
classed r formed k u is = elim (of_both (mos_rules r) (map (more_rule r) r.more) k u is) [
  | inl g ↦
      let m = map_from (device_rule r) r.devices k u g in
      subst IsClassed m.2 (mos_classed r m.0 (formed.strings k m.0 m.1))
  | inr (j, g) ↦ let m = map_from (more_rule r) r.more j u g in subst IsClassed m.2 (more_classed r m.0)
]
