-- What a rule file means: its rule set, or its first fault.
use Rattle.std.specs.Prelude.{◌≡◌, ◌↔◌, ◌⊎◌, ℕ, ◌+◌, Bool, ◌==◌, ◌&&◌, ◌||◌, not, nat_le, List, [], ◌∷◌}
use Rattle.std.specs.Prelude.{◌++◌, length, slice_get, position, Option, Some, None, Result, Ok}
use Rattle.std.specs.Prelude.{Err, if◌then◌else◌}
use Rattle.std.specs.List.{list_any}
use Rattle.rule_lines.specs.Lines.{is_no_text, lines_of}
use Rattle.rule_lines.specs.Tokens.{tokens_of}
use Rattle.rule_text.specs.declared.rules.MosRule.{MosRule}
use Rattle.rule_text.specs.declared.rules.MoreRule.{MoreRule}
use Rattle.rule_text.specs.declared.rules.MoreRule.TheVariants as more
use Rattle.rule_text.specs.declared.fault.RuleFault.{RuleFault}
use Rattle.rule_text.specs.declared.fault.RuleFault.TheVariants.{NotConductor, NotText, NoMemory}
use Rattle.rule_text.specs.Rules.{Rules, no_rules, has_texts, fault_of, with_line, device_line}
use Rattle.rule_text.specs.Rules.{more_line}

-- some connect or connect_global names the layer
abbrev pub is_joined : ℕ → Rules → Bool
is_joined k r =
    list_any (λ c. c.0 == k || c.1 == k) r.connects || list_any (λ g. g.0 == k) r.globals

-- a polygon layer that some connect or connect_global names
abbrev pub is_conductor : ℕ → Rules → Bool
is_conductor k r = not (has_texts k r.names) && is_joined k r

-- a table tells of each name that it holds whether it is a conductor
pub record TellsConductors (table : List Bool) (r : Rules) : Type 0 where
  pub each : (k : ℕ) (known : Bool) → slice_get table k ≡ Some known → known ≡ is_conductor k r

-- its terminals' layers are conductors
abbrev pub is_connected : MosRule → Rules → Bool
is_connected d r = is_conductor d.ts r && is_conductor d.tg r && is_conductor d.tb r

abbrev pub is_more_connected : MoreRule → Rules → Bool
is_more_connected (more.Resistor class n c w ta tw) r = is_conductor ta r && is_conductor tw r
is_more_connected (more.Diode class p n ta tc) r = is_conductor ta r && is_conductor tc r

-- each line passes behind those before it
abbrev pub Pass : ℕ → Rules → List (List ℕ) → Type 0
Pass number r [] = Unit {0}
Pass number r (line ∷ lines) = (fault_of r number (tokens_of line) ≡ None)
    × Pass (number + 1) (with_line r (tokens_of line)) lines

-- the rules that lines state behind some rules
abbrev pub rules_of : Rules → List (List ℕ) → Rules
rules_of r [] = r
rules_of r (line ∷ lines) = rules_of (with_line r (tokens_of line)) lines

-- the numbers of the extract_devices lines, of transistors and of the other devices
abbrev pub device_lines : ℕ → List (List ℕ) → List ℕ
device_lines number [] = []
device_lines number (line ∷ lines) =
    device_line number (tokens_of line) ++ device_lines (number + 1) lines

abbrev pub more_lines : ℕ → List (List ℕ) → List ℕ
more_lines number [] = []
more_lines number (line ∷ lines) =
    more_line number (tokens_of line) ++ more_lines (number + 1) lines

-- the line of the first device that isn't connected, of transistors and of the others
abbrev pub first_loose : Rules → List MosRule → List ℕ → Option ℕ
first_loose r (d ∷ ds) (n ∷ ns) = if is_connected d r then first_loose r ds ns else Some n
first_loose r _ _ = None

abbrev pub first_loose_more : Rules → List MoreRule → List ℕ → Option ℕ
first_loose_more r (d ∷ ds) (n ∷ ns) =
    if is_more_connected d r then first_loose_more r ds ns else Some n
first_loose_more r _ _ = None

-- the lesser of two numbers, if any
abbrev pub lesser : Option ℕ → Option ℕ → Option ℕ
lesser None b = b
lesser (Some a) None = Some a
lesser (Some a) (Some b) = if nat_le a b then Some a else Some b

-- the line of the first device of any kind that isn't connected
abbrev pub loose_of : Rules → List ℕ → List ℕ → Option ℕ
loose_of r lines others =
    lesser (first_loose r r.devices lines) (first_loose_more r r.more others)

abbrev pub loose_line : Rules → List (List ℕ) → Option ℕ
loose_line r lines = loose_of r (device_lines 1 lines) (more_lines 1 lines)

-- the bytes mean these rules: each line passes, and each device is connected in the end
pub record Means (bytes : List ℕ) (r : Rules) : Type 0 where
  pub text : position is_no_text bytes ≡ None
  pub passed : Pass 1 no_rules (lines_of bytes)
  pub rules : r ≡ rules_of no_rules (lines_of bytes)
  pub connected : loose_line r (lines_of bytes) ≡ None

-- a byte that no text has
pub record IsTextFault (bytes : List ℕ) (fault : RuleFault) : Type 0 where
  pub offset : ℕ
  pub is : fault ≡ NotText offset
  pub first : position is_no_text bytes ≡ Some offset

-- the first line that doesn't pass, of lines that begin with this number behind some rules
pub record IsLineFault (number : ℕ) (r : Rules) (lines : List (List ℕ)) (fault : RuleFault) : Type 0
  where
    pub before : List (List ℕ)
    pub line : List ℕ
    pub after : List (List ℕ)
    pub parts : lines ≡ before ++ line ∷ after
    pub passed : Pass number r before
    pub is : fault_of (rules_of r before) (number + length before) (tokens_of line) ≡ Some fault

-- each line passes, and a device isn't connected in the end
pub record IsDeviceFault (lines : List (List ℕ)) (fault : RuleFault) : Type 0 where
  pub passed : Pass 1 no_rules lines
  pub line : ℕ
  pub is : fault ≡ NotConductor line
  pub first : loose_line (rules_of no_rules lines) lines ≡ Some line

abbrev pub IsFirstFault : List ℕ → RuleFault → Type 0
IsFirstFault bytes fault =
    IsTextFault bytes fault
    ⊎ ((position is_no_text bytes ≡ None)
    × (IsLineFault 1 no_rules (lines_of bytes) fault ⊎ IsDeviceFault (lines_of bytes) fault))

-- the answer is the first fault, or that there is no memory
abbrev pub Answers : List ℕ → RuleFault → Type 0
Answers bytes NoMemory = Unit {0}
Answers bytes fault = IsFirstFault bytes fault

-- The same as a function, so that a file has one meaning or one fault.

abbrev pub fault_or : Option RuleFault → Result Rules RuleFault → Result Rules RuleFault
fault_or None rest = rest
fault_or (Some fault) rest = Err fault

abbrev pub reading : ℕ → Rules → List (List ℕ) → Result Rules RuleFault
reading number r [] = Ok r
reading number r (line ∷ lines) = fault_or (fault_of r number (tokens_of line))
    (reading (number + 1) (with_line r (tokens_of line)) lines)

abbrev pub connected_or : Option ℕ → Rules → Result Rules RuleFault
connected_or None r = Ok r
connected_or (Some line) r = Err (NotConductor line)

abbrev pub closed : List ℕ → List ℕ → Result Rules RuleFault → Result Rules RuleFault
closed lines others (Ok r) = connected_or (loose_of r lines others) r
closed lines others (Err fault) = Err fault

abbrev pub text_or : Option ℕ → Result Rules RuleFault → Result Rules RuleFault
text_or None rest = rest
text_or (Some offset) rest = Err (NotText offset)

abbrev pub reading_of : List ℕ → Result Rules RuleFault
reading_of bytes = text_or (position is_no_text bytes)
    (closed (device_lines 1 (lines_of bytes)) (more_lines 1 (lines_of bytes))
    (reading 1 no_rules (lines_of bytes)))

abbrev pub MeaningLaw : Type 0
MeaningLaw = (bytes : List ℕ) (r : Rules) → (reading_of bytes ≡ Ok r) ↔ Means bytes r

abbrev pub FaultLaw : Type 0
FaultLaw =
    (bytes : List ℕ) (fault : RuleFault) → (reading_of bytes ≡ Err fault) ↔ IsFirstFault bytes fault
