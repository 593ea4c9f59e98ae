-- The rules that some lines state, what is wrong with a line behind them, and the rules with that
-- line.
use Rattle.std.specs.Prelude.{ℕ, Bool, true, false, ◌==◌, ◌&&◌, ◌||◌, not, nat_le, List, [], ◌∷◌}
use Rattle.std.specs.Prelude.{◌++◌, length, map, codes, slice_get, Option, Some, None}
use Rattle.std.specs.Prelude.{if◌then◌else◌}
use Rattle.std.specs.List.{list_any, list_all, position_or_len}
use Rattle.std.specs.Str.{bytes_eq}
use Rattle.net_names.specs.Folding.{folded_bytes}
use Rattle.geo_base.specs.Layers.{is_same_key}
use Rattle.geo_base.specs.declared.layer.LayerKey.{LayerKey}
use Rattle.rule_lines.specs.Tokens.{Token, Word, Mark}
use Rattle.rule_text.specs.declared.rules.LayerForm.{LayerForm}
use Rattle.rule_text.specs.declared.rules.LayerForm.TheVariants as form
use Rattle.rule_text.specs.declared.rules.LayerRule.{LayerRule}
use Rattle.rule_text.specs.declared.rules.Output.{Output}
use Rattle.rule_text.specs.declared.rules.SelectRule.{SelectRule}
use Rattle.rule_text.specs.declared.rules.MosRule.{MosRule}
use Rattle.rule_text.specs.declared.rules.MoreRule.{MoreRule}
use Rattle.rule_text.specs.declared.rules.MoreRule.TheVariants as more
use Rattle.rule_text.specs.declared.fault.RuleFault.{RuleFault}
use Rattle.rule_text.specs.declared.fault.RuleFault.TheVariants.{UnknownStatement, BadForm}
use Rattle.rule_text.specs.declared.fault.RuleFault.TheVariants.{UnknownName, NameTwice}
use Rattle.rule_text.specs.declared.fault.RuleFault.TheVariants.{NotConductor, TooManyLayers}
use Rattle.rule_text.specs.Rows.{Form, Input, Labels, Empty, Binary, Sized, Mos, Statement, Define}
use Rattle.rule_text.specs.Rows.{Choice, Choose}
use Rattle.rule_text.specs.Rows.{Draw, Connect, Global, Extract, Further, More, Resistor, Diode, Same}
use Rattle.rule_text.specs.Rows.{MaxGuesses, Accepted, EQUALS, DOT}
use Rattle.rule_text.specs.Rows.{FlattenLayout, FlattenSchematic, FlattenUnmatched, SamePins}
use Rattle.rule_text.specs.Rows.{KeepCovered, Combine}
use Rattle.rule_text.specs.Rows.{is_name, is_statement_word, definition_of, wiring_of}
use Rattle.rule_text.specs.Rows.{flattening_of, setting_of}
use Rattle.rule_text.specs.Filled.{class_of}
use Rattle.rule_text.specs.Reaches.{MOST_REACH, reach_by, reaches}
use Rattle.rule_text.specs.Devices.{devices_of}
use Rattle.rule_text.specs.Choices.{relation_line, measure_line}

-- a rule set with plain lists
pub record Rules : Type 0 where
  pub names : List LayerRule
  pub selects : List SelectRule
  pub outputs : List Output
  pub connects : List (ℕ × ℕ)
  pub globals : List (ℕ × List ℕ)
  pub devices : List MosRule
  pub more : List MoreRule
  pub same : List (List ℕ × List ℕ)
  pub flat_layouts : List (List ℕ)
  pub flat_schematics : List (List ℕ)
  pub flattens_unmatched : Bool
  pub tells_pins : Bool
  pub covered : Bool
  pub combine : Bool
  pub max_guesses : ℕ

abbrev pub no_rules : Rules
no_rules = record {
  names = [];
  selects = [];
  outputs = [];
  connects = [];
  globals = [];
  devices = [];
  more = [];
  same =
      [];
  flat_layouts = [];
  flat_schematics = [];
  flattens_unmatched = false;
  tells_pins = false;
  covered = false;
  combine = false;
  max_guesses = 1000;
}

-- the names in order of their definition
abbrev pub names_of : Rules → List (List ℕ)
names_of r = map (λ n. n.name) r.names

-- the number of a name
abbrev pub place_of : List ℕ → Rules → ℕ
place_of w r = position_or_len (bytes_eq w) (names_of r)

abbrev pub is_defined : List ℕ → Rules → Bool
is_defined w r = list_any (bytes_eq w) (names_of r)

abbrev pub are_texts : LayerForm → Bool
are_texts (form.Labels key) = true
are_texts _ = false

abbrev pub is_text_rule : Option LayerRule → Bool
is_text_rule None = false
is_text_rule (Some n) = are_texts n.form

-- the name of this number is a labels name
abbrev pub has_texts : ℕ → List LayerRule → Bool
has_texts k names = is_text_rule (slice_get names k)

abbrev pub is_labels : List ℕ → Rules → Bool
is_labels w r = has_texts (place_of w r) r.names

-- the operands of a form
abbrev pub operands_of : Form → List (List ℕ)
operands_of (Input key) = []
operands_of (Labels key) = []
operands_of Empty = []
operands_of (Binary op a b) = a ∷ b ∷ []
operands_of (Sized a by) = a ∷ []

-- a form with numbers in place of its operands' names
abbrev pub numbered : Rules → Form → LayerForm
numbered r (Input key) = form.Input key
numbered r (Labels key) = form.Labels key
numbered r Empty = form.Empty
numbered r (Binary op a b) = form.Binary op (place_of a r) (place_of b r)
numbered r (Sized a by) = form.Sized (place_of a r) by

-- how far the name of a form would reach
abbrev pub reach_of : Rules → Form → ℕ
reach_of r f = reach_by (reaches r.names) (numbered r f)

-- the names that a statement uses
abbrev pub uses_of : Statement → List (List ℕ)
uses_of (Define name form) = operands_of form
uses_of (Choose name choice) = choice.region ∷ choice.other ∷ []
uses_of (Draw name key) = name ∷ []
uses_of (Connect a b) = a ∷ b ∷ []
uses_of (Global a net) = a ∷ []
uses_of (Extract m) = m.sd ∷ m.g ∷ m.w ∷ m.ts ∷ m.tg ∷ m.tb ∷ []
uses_of (Further (Resistor class n c w ta tw)) = n ∷ c ∷ w ∷ ta ∷ tw ∷ []
uses_of (Further (Diode class p n ta tc)) = p ∷ n ∷ ta ∷ tc ∷ []
uses_of (Same a b) = []
uses_of (FlattenLayout a) = []
uses_of (FlattenSchematic b) = []
uses_of FlattenUnmatched = []
uses_of SamePins = []
uses_of KeepCovered = []
uses_of Combine = []
uses_of (MaxGuesses n) = []
uses_of Accepted = []

-- the class of a resistor or a diode
abbrev pub class_in : MoreRule → List ℕ
class_in (more.Resistor class n c w ta tw) = class
class_in (more.Diode class p n ta tc) = class

-- the folded classes of transistors, and of the other devices
abbrev pub mos_classes : Rules → List (List ℕ)
mos_classes r = map (λ d. folded_bytes d.class) r.devices

abbrev pub more_classes : Rules → List (List ℕ)
more_classes r = map (λ d. folded_bytes (class_in d)) r.more

-- a device has the folded class
abbrev pub has_class : List ℕ → Rules → Bool
has_class w r = list_any (bytes_eq w) (mos_classes r) || list_any (bytes_eq w) (more_classes r)

-- a line names the circuit of the layout, or of the schematic, that has this folded name
abbrev pub names_layout : Rules → List ℕ → Bool
names_layout r name = list_any (bytes_eq name) (map (λ p. folded_bytes p.0) r.same)
    || list_any (bytes_eq name) (map folded_bytes r.flat_layouts)

abbrev pub names_schematic : Rules → List ℕ → Bool
names_schematic r name = list_any (bytes_eq name) (map (λ p. folded_bytes p.1) r.same)
    || list_any (bytes_eq name) (map folded_bytes r.flat_schematics)

-- what may stand once alone was there before; classes and circuits are compared with their letters
-- folded
abbrev pub is_twice : Rules → Statement → Bool
is_twice r (Define name form) = is_defined name r
is_twice r (Choose name choice) = is_defined name r
is_twice r (Draw name key) = list_any (is_same_key key) (map (λ o. o.key) r.outputs)
is_twice r (Connect a b) = false
is_twice r (Global a net) = false
is_twice r (Extract m) = has_class (folded_bytes m.class) r
is_twice r (Further m) = has_class (folded_bytes (class_of m)) r
is_twice r (Same a b) = names_layout r (folded_bytes a) || names_schematic r (folded_bytes b)
is_twice r (FlattenLayout a) = names_layout r (folded_bytes a)
is_twice r (FlattenSchematic b) = names_schematic r (folded_bytes b)
is_twice r FlattenUnmatched = r.flattens_unmatched
is_twice r SamePins = r.tells_pins
is_twice r KeepCovered = r.covered
is_twice r Combine = false
is_twice r (MaxGuesses n) = false
is_twice r Accepted = false

-- a labels name stands where a layer must; a connect may have one
abbrev pub is_misplaced : Rules → Statement → Bool
is_misplaced r (Connect a b) = is_labels a r && is_labels b r
is_misplaced r s = list_any (λ w. is_labels w r) (uses_of s)

abbrev pub is_definition : Statement → Bool
is_definition (Define name form) = true
is_definition (Choose name choice) = true
is_definition _ = false

-- a name would reach further than names may
abbrev pub is_far : Rules → Statement → Bool
is_far r (Define name form) = not (nat_le (reach_of r form) MOST_REACH)
is_far r _ = false

-- the first test that a statement on a line fails behind the rules of the lines before
abbrev pub statement_fault : Rules → ℕ → Statement → Option RuleFault
statement_fault r line s =
    if not (list_all (λ w. is_defined w r) (uses_of s)) then Some (UnknownName line)
    else if is_far r s then Some (BadForm line)
    else if is_twice r s then Some (NameTwice line)
    else if is_misplaced r s then Some (NotConductor line)
    else if is_definition s && nat_le 256 (length r.names) then Some (TooManyLayers line)
    else None

abbrev pub or_else : Option Statement → Option Statement → Option Statement
or_else None s = s
or_else (Some s) t = Some s

-- N = A.WORD(..), where the word asks for regions
abbrev pub choice_of : List Token → Option Statement
choice_of ts = or_else (relation_line ts) (measure_line ts)

-- the statement of a line's tokens; no two rows fit one line
abbrev pub statement_of : List Token → Option Statement
statement_of ts =
    or_else (definition_of ts) (or_else (wiring_of ts) (or_else (devices_of ts)
    (or_else (flattening_of ts) (or_else (setting_of ts) (choice_of ts)))))

abbrev pub is_output_next : List Token → Bool
is_output_next (Word w ∷ ts) = bytes_eq w (codes "output")
is_output_next _ = false

-- =, or . with output
abbrev pub goes_on : List Token → Bool
goes_on (Mark b ∷ ts) = b == EQUALS || (b == DOT && is_output_next ts)
goes_on _ = false

-- a name that is no statement word stands first, and what follows is neither = nor . with output
abbrev pub is_unknown : List Token → Bool
is_unknown (Word w ∷ ts) = is_name w && not (is_statement_word w) && not (goes_on ts)
is_unknown _ = false

abbrev pub form_fault : Rules → ℕ → Option Statement → Option RuleFault
form_fault r line None = Some (BadForm line)
form_fault r line (Some s) = statement_fault r line s

-- the first test that a line's tokens fail behind the rules of the lines before
abbrev pub fault_of : Rules → ℕ → List Token → Option RuleFault
fault_of r line ts =
    if is_unknown ts then Some (UnknownStatement line) else form_fault r line (statement_of ts)

abbrev pub mos_rule : Rules → Mos → MosRule
mos_rule r m = record {
  class = m.class;
  sd = place_of m.sd r;
  g = place_of m.g r;
  w = place_of m.w r;
  ts = place_of m.ts r;
  tg = place_of m.tg r;
  tb = place_of m.tb r;
}

abbrev pub further_rule : Rules → More → MoreRule
further_rule r (Resistor class n c w ta tw) =
    more.Resistor class (place_of n r) (place_of c r) (place_of w r) (place_of ta r) (place_of tw r)
further_rule r (Diode class p n ta tc) =
    more.Diode class (place_of p r) (place_of n r) (place_of ta r) (place_of tc r)

abbrev pub named : Rules → List ℕ → LayerForm → Rules
named r name form = record r { names = r.names ++ record { name = name; form = form } ∷ [] }

-- the layer that the selection whose name has this number becomes: no stream has it
abbrev pub select_key : ℕ → LayerKey
select_key k = record { layer = 65536; datatype = k }

abbrev pub select_rule : Rules → Choice → SelectRule
select_rule r c = record {
  name = length r.names;
  ask = c.ask;
  others = c.others;
  region = place_of c.region r;
  other = place_of c.other r;
}

-- the name of a selection is an input layer of its own
abbrev pub choosing : Rules → List ℕ → Choice → Rules
choosing r name c = record (named r name (form.Input (select_key (length r.names)))) {
  selects = r.selects ++ select_rule r c ∷ [];
}

abbrev pub drawn : Rules → List ℕ → LayerKey → Rules
drawn r name key =
    record r { outputs = r.outputs ++ record { layer = place_of name r; key = key } ∷ [] }

abbrev pub extracting : Rules → Mos → Rules
extracting r m = record r { devices = r.devices ++ mos_rule r m ∷ [] }

abbrev pub going_on : Rules → More → Rules
going_on r m = record r { more = r.more ++ further_rule r m ∷ [] }

abbrev pub paired : Rules → List ℕ → List ℕ → Rules
paired r a b = record r { same = r.same ++ (a, b) ∷ [] }

abbrev pub flattening_layout : Rules → List ℕ → Rules
flattening_layout r a = record r { flat_layouts = r.flat_layouts ++ a ∷ [] }

abbrev pub flattening_schematic : Rules → List ℕ → Rules
flattening_schematic r b = record r { flat_schematics = r.flat_schematics ++ b ∷ [] }

-- the rules with a statement more
abbrev pub with_statement : Rules → Statement → Rules
with_statement r (Define name form) = named r name (numbered r form)
with_statement r (Choose name choice) = choosing r name choice
with_statement r (Draw name key) = drawn r name key
with_statement r (Connect a b) =
    record r { connects = r.connects ++ (place_of a r, place_of b r) ∷ [] }
with_statement r (Global a net) = record r { globals = r.globals ++ (place_of a r, net) ∷ [] }
with_statement r (Extract m) = extracting r m
with_statement r (Further m) = going_on r m
with_statement r (Same a b) = paired r a b
with_statement r (FlattenLayout a) = flattening_layout r a
with_statement r (FlattenSchematic b) = flattening_schematic r b
with_statement r FlattenUnmatched = record r { flattens_unmatched = true }
with_statement r SamePins = record r { tells_pins = true }
with_statement r KeepCovered = record r { covered = true }
with_statement r Combine = record r { combine = true }
with_statement r (MaxGuesses n) = record r { max_guesses = n }
with_statement r Accepted = r

abbrev pub with_found : Rules → Option Statement → Rules
with_found r None = r
with_found r (Some s) = with_statement r s

abbrev pub with_line : Rules → List Token → Rules
with_line r ts = with_found r (statement_of ts)

-- the number of a line that is an extract_devices of a transistor, and of another device
abbrev pub extraction_line : ℕ → Option Statement → List ℕ
extraction_line line (Some (Extract m)) = line ∷ []
extraction_line line _ = []

abbrev pub device_line : ℕ → List Token → List ℕ
device_line line ts = extraction_line line (statement_of ts)

abbrev pub further_line : ℕ → Option Statement → List ℕ
further_line line (Some (Further m)) = line ∷ []
further_line line _ = []

abbrev pub more_line : ℕ → List Token → List ℕ
more_line line ts = further_line line (statement_of ts)
