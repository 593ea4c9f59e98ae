-- What a rule set says of conductors, globals, labels and devices, in the plain words of the
-- layout.
use Rattle.std.specs.Prelude.{ℕ, suc, ◌||◌, if◌then◌else◌, List, [], ◌∷◌, ◌++◌, map, flat_map}
use Rattle.std.specs.Prelude.{slice_get, get_or, Option, Some, None}
use Rattle.std.specs.List.{list_any, position_or_len}
use Rattle.std.specs.Str.{bytes_eq}
use Rattle.net_names.specs.Folding.{folded_bytes}
use Rattle.geo_base.specs.declared.layer.LayerKey.{LayerKey}
use Rattle.geo_base.specs.declared.layer.Op.TheVariants.{And}
use Rattle.plain_netlist.specs.declared.kinds.DeviceKind.TheVariants.{Mos4, ResistorWithBulk, Diode}
use Rattle.flat_layout.specs.Layers.{Formula, Empty, Binary}
use Rattle.flat_layout.specs.Regions.{Wiring, Line, Label}
use Rattle.flat_layout.specs.Gates.{Rule}
use Rattle.flat_layout.specs.declared.way.Way.{Way}
use Rattle.flat_layout.specs.declared.way.Way.TheVariants.{Disturbed, Covered}
use Rattle.rule_text.specs.declared.rules.LayerForm.{LayerForm}
use Rattle.rule_text.specs.declared.rules.LayerForm.TheVariants as form
use Rattle.rule_text.specs.declared.rules.LayerRule.{LayerRule}
use Rattle.rule_text.specs.declared.rules.MosRule.{MosRule}
use Rattle.rule_text.specs.declared.rules.MoreRule.{MoreRule}
use Rattle.rule_text.specs.declared.rules.MoreRule.TheVariants as more
use Rattle.rule_text.specs.Rules.{Rules, has_texts}
use Rattle.rule_text.specs.Reading.{is_conductor}
use Rattle.rule_layers.specs.Formulas.{formulas}

-- which squares cells keep
abbrev pub way_of : Rules → Way
way_of r = if r.covered then Covered else Disturbed

-- what each name reads as a conductor, k being the first name's number: nothing where it is none
abbrev pub conductor_formulas : Rules → ℕ → List Formula → List Formula
conductor_formulas r k [] = []
conductor_formulas r k (x ∷ xs) =
    (if is_conductor k r then x else Empty) ∷ conductor_formulas r (suc k) xs

abbrev pub line : ℕ → ℕ → Line
line a b = record { first = a; second = b }

-- a connect line joins two conductors, unless one of its names is a labels name
abbrev pub joins_of : Rules → List Line
joins_of r = flat_map (λ c. if has_texts c.0 r.names
    || has_texts c.1 r.names then [] else line c.0 c.1 ∷ []) r.connects

-- the layer of texts of a labels name
abbrev pub form_texts : LayerForm → List LayerKey
form_texts (form.Labels key) = key ∷ []
form_texts _ = []

abbrev pub rule_texts : Option LayerRule → List LayerKey
rule_texts None = []
rule_texts (Some n) = form_texts n.form

abbrev pub texts_of : Rules → ℕ → List LayerKey
texts_of r k = rule_texts (slice_get r.names k)

abbrev pub labels_by : ℕ → List LayerKey → List Label
labels_by conductor keys = map (λ key. record { key = key; conductor = conductor }) keys

-- then it connects texts to the other name, on whichever side the labels name stands
abbrev pub labels_of : Rules → List Label
labels_of r =
    flat_map (λ c. labels_by c.1 (texts_of r c.0) ++ labels_by c.0 (texts_of r c.1)) r.connects

-- the different names of globals, behind those that were seen
abbrev pub globals_behind : List (List ℕ) → List (ℕ × List ℕ) → List (List ℕ)
globals_behind seen [] = seen
globals_behind seen (g ∷ gs) =
    globals_behind (if list_any (bytes_eq g.1) seen then seen else seen ++ g.1 ∷ []) gs

-- by first line
abbrev pub globals_of : Rules → List (List ℕ)
globals_of r = globals_behind [] r.globals

-- a connect_global line grounds its conductor by the number of its global
abbrev pub grounds_of : Rules → List Line
grounds_of r = map (λ g. line g.0 (position_or_len (bytes_eq g.1) (globals_of r))) r.globals

abbrev pub wiring_of : Rules → Wiring
wiring_of r = record {
  conductors = conductor_formulas r 0 (formulas r.names);
  joins = joins_of r;
  grounds = grounds_of r;
  labels = labels_of r;
  globals = globals_of r;
}

-- the rule of a transistor; its class is folded
abbrev pub device_rule : Rules → MosRule → Rule
device_rule r m = record {
  class = folded_bytes m.class;
  kind = Mos4;
  sd = get_or (formulas r.names) m.sd Empty;
  gate = get_or (formulas r.names) m.g Empty;
  well = get_or (formulas r.names) m.w Empty;
  ts = m.ts;
  tg = m.tg;
  tb = m.tb;
}

-- that of a further device: its gate's conductor, of which it says nothing, is its bulk's. A
-- diode's regions are the squares in both layers, its anode is the ends' conductor, its cathode the
-- bulk's
abbrev pub more_rule : Rules → MoreRule → Rule
more_rule r (more.Resistor class n c w ta tw) = record {
  class = folded_bytes class;
  kind = ResistorWithBulk;
  sd = get_or (formulas r.names) c Empty;
  gate = get_or (formulas r.names) n Empty;
  well = get_or (formulas r.names) w Empty;
  ts = ta;
  tg = tw;
  tb = tw;
}
more_rule r (more.Diode class p n ta tc) = record {
  class = folded_bytes class;
  kind = Diode;
  sd = Empty;
  gate = Binary And (get_or (formulas r.names) p Empty) (get_or (formulas r.names) n Empty);
  well = Empty;
  ts = ta;
  tg = tc;
  tb = tc;
}

-- the rules of transistors, in order
abbrev pub mos_rules : Rules → List Rule
mos_rules r = map (device_rule r) r.devices

-- all device rules: those of transistors, then the others
abbrev pub device_rules : Rules → List Rule
device_rules r = mos_rules r ++ map (more_rule r) r.more
