-- Sound rule sets: operands stand before their names, numbers are numbers of layers, nothing is
-- there twice, and devices are connected.
use Rattle.std.specs.Prelude.{◌≡◌, ◌⊎◌, ℕ, ◌<◌, ◌≤◌, unsigned_abs, true, false, ◌&&◌, List, length}
use Rattle.std.specs.Prelude.{map, slice_get, Some}
use Rattle.std.specs.List.{All}
use Rattle.net_names.specs.Folding.{folded_bytes}
use Rattle.geo_base.specs.Layers.{IsStreamKey}
use Rattle.plain_netlist.specs.Lists.{AreApart, AreRising}
use Rattle.rule_text.specs.declared.rules.LayerForm.{LayerForm}
use Rattle.rule_text.specs.declared.rules.LayerForm.TheVariants as form
use Rattle.rule_text.specs.declared.rules.LayerRule.{LayerRule}
use Rattle.rule_text.specs.declared.rules.SelectRule.{SelectRule}
use Rattle.rule_text.specs.declared.rules.MosRule.{MosRule}
use Rattle.rule_text.specs.declared.rules.MoreRule.{MoreRule}
use Rattle.rule_text.specs.declared.rules.MoreRule.TheVariants as more
use Rattle.rule_text.specs.Rows.{is_string}
use Rattle.rule_text.specs.Rules.{Rules, names_of, has_texts, mos_classes, more_classes}
use Rattle.rule_text.specs.Rules.{class_in, select_key}
use Rattle.rule_text.specs.Reading.{is_connected, is_more_connected}
use Rattle.rule_text.specs.Filled.{IsGuessLimit, IsSize}
use Rattle.rule_text.specs.Reaches.{MOST_REACH, reaches}

-- P holds of each entry and its number
abbrev pub Each : {A : Type 0} → (ℕ → A → Type 0) → List A → Type 0
Each {A} P xs = (k : ℕ) (x : A) → slice_get xs k ≡ Some x → P k x

-- the number of a name that is no labels name
pub record IsLayer (names : List LayerRule) (k : ℕ) : Type 0 where
  pub below : k < length names
  pub plain : has_texts k names ≡ false

-- the operands of name k are layers that stand before it, and a size is one
abbrev pub AreOperands : List LayerRule → ℕ → LayerForm → Type 0
AreOperands names k (form.Binary op a b) = (a < k) × (b < k) × IsLayer names a × IsLayer names b
AreOperands names k (form.Sized a by) = (a < k) × IsLayer names a × IsSize (unsigned_abs by)
AreOperands names k _ = Unit {0}

-- the layer that name k reads is one of a stream, or the name's own
abbrev pub IsReadable : ℕ → LayerForm → Type 0
IsReadable k (form.Input key) = IsStreamKey key ⊎ (key ≡ select_key k)
IsReadable k _ = Unit {0}

-- a selection's name is its own layer, and the layers that it reads stand before that
pub record IsSelectRule (names : List LayerRule) (s : SelectRule) : Type 0 where
  pub rule : LayerRule
  pub there : slice_get names s.name ≡ Some rule
  pub own : rule.form ≡ form.Input (select_key s.name)
  pub before : (s.region < s.name) × (s.other < s.name)
  pub layers : IsLayer names s.region × IsLayer names s.other

-- the one's name stands before the other's
abbrev pub IsNamedBefore : SelectRule → SelectRule → Type 0
IsNamedBefore s t = s.name < t.name

-- two names, of which one at most is a labels name
pub record AreJoined (names : List LayerRule) (a b : ℕ) : Type 0 where
  pub left : a < length names
  pub right : b < length names
  pub plain : (has_texts a names && has_texts b names) ≡ false

pub record AreMosLayers (names : List LayerRule) (d : MosRule) : Type 0 where
  pub sd : IsLayer names d.sd
  pub g : IsLayer names d.g
  pub w : IsLayer names d.w
  pub ts : IsLayer names d.ts
  pub tg : IsLayer names d.tg
  pub tb : IsLayer names d.tb

abbrev pub AreMoreLayers : List LayerRule → MoreRule → Type 0
AreMoreLayers names (more.Resistor class n c w ta tw) = IsLayer names n × IsLayer names c
    × IsLayer names w × IsLayer names ta × IsLayer names tw
AreMoreLayers names (more.Diode class p n ta tc) = IsLayer names p × IsLayer names n
    × IsLayer names ta × IsLayer names tc

-- the entries pass the tests of their lines; classes are strings of printable bytes; no name
-- reaches further than names may
pub record IsFormed (r : Rules) : Type 0 where
  pub names : AreApart (names_of r)
  pub operands : Each (λ k n. AreOperands r.names k n.form) r.names
  pub near : All (λ n. n ≤ MOST_REACH) (reaches r.names)
  pub readable : Each (λ k n. IsReadable k n.form) r.names
  pub selects : Each (λ k s. IsSelectRule r.names s) r.selects
  pub ascending : AreRising IsNamedBefore r.selects
  pub keys : AreApart (map (λ o. o.key) r.outputs)
  pub outputs : Each (λ k o. IsLayer r.names o.layer) r.outputs
  pub written : Each (λ k o. IsStreamKey o.key) r.outputs
  pub connects : Each (λ k c. AreJoined r.names c.0 c.1) r.connects
  pub globals : Each (λ k g. IsLayer r.names g.0) r.globals
  pub classes : AreApart (mos_classes r)
  pub others : AreApart (more_classes r)
  pub apart : (j k : ℕ) (w : List ℕ) → slice_get (mos_classes r) j ≡ Some w
      → slice_get (more_classes r) k ≡ Some w → ⊥
  pub strings : Each (λ k d. is_string d.class ≡ true) r.devices
  pub more_strings : Each (λ k d. is_string (class_in d) ≡ true) r.more
  pub devices : Each (λ k d. AreMosLayers r.names d) r.devices
  pub more : Each (λ k d. AreMoreLayers r.names d) r.more
  pub layouts : AreApart (map (λ p. folded_bytes p.0) r.same)
  pub schematics : AreApart (map (λ p. folded_bytes p.1) r.same)
  pub flat_layouts : AreApart (map folded_bytes r.flat_layouts)
  pub flat_schematics : AreApart (map folded_bytes r.flat_schematics)
  pub guesses : IsGuessLimit r.max_guesses

pub record IsSound (r : Rules) : Type 0 where
  pub formed : IsFormed r
  pub connected : Each (λ k d. is_connected d r ≡ true) r.devices
  pub more_connected : Each (λ k d. is_more_connected d r ≡ true) r.more
