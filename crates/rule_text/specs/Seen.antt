-- The code's rows, statements and rules as those of the definitions.
use Rattle.std.specs.Prelude.{ℕ, List, Option, Some, None, map}
use denote.Ref.{Bor}
use Rattle.rule_text.specs.Rows as rows
use Rattle.rule_text.specs.Rows.{Slot, Form, Mos, More, Choice, Statement}
use Rattle.rule_text.specs.Rules.{Rules}
use Rattle.rule_text.specs.declared.slots.Slot.{Slot as Code}
use Rattle.rule_text.specs.declared.slots.Slot.TheVariants as code
use Rattle.rule_text.specs.declared.rows.Form.{Form as FoundForm}
use Rattle.rule_text.specs.declared.rows.Form.TheVariants as found_form
use Rattle.rule_text.specs.declared.rows.Choice.{Choice as FoundChoice}
use Rattle.rule_text.specs.declared.rows.Mos.{Mos as FoundMos}
use Rattle.rule_text.specs.declared.rows.More.{More as FoundMore}
use Rattle.rule_text.specs.declared.rows.More.TheVariants as found_more
use Rattle.rule_text.specs.declared.rows.Statement.{Statement as Found}
use Rattle.rule_text.specs.declared.rows.Statement.TheVariants as found
use Rattle.rule_text.specs.declared.rules.RuleSet.{RuleSet}

abbrev pub slot : Code → Slot
slot code.Fresh = rows.Fresh
slot code.Name = rows.Name
slot code.Layer = rows.Layer
slot code.Guesses = rows.Guesses
slot code.Size = rows.Size
slot code.Area = rows.Area
slot code.Bound = rows.Bound
slot code.Digits = rows.Digits
slot code.Quoted = rows.Quoted
slot code.Exact = rows.Exact
slot code.Operator = rows.Operator
slot (code.Key k) = rows.Key k.now
slot (code.Sign b) = rows.Sign b
slot code.Maps = rows.Maps

abbrev pub slots : List Code → List Slot
slots ss = map slot ss

abbrev pub word : Option (Bor (List ℕ)) → Option (List ℕ)
word None = None
word (Some w) = Some w.now

abbrev pub words : List (Bor (List ℕ)) → List (List ℕ)
words ws = map (λ w. w.now) ws

abbrev pub form : FoundForm → Form
form (found_form.Input key) = rows.Input key
form (found_form.Labels key) = rows.Labels key
form found_form.Empty = rows.Empty
form (found_form.Binary op a b) = rows.Binary op a.now b.now
form (found_form.Sized a by) = rows.Sized a.now by

abbrev pub choice : FoundChoice → Choice
choice c = record {
  ask = c.ask;
  others = c.others;
  region = c.region.now;
  other = c.other.now;
}

abbrev pub mos : FoundMos → Mos
mos m = record {
  class = m.class.now;
  sd = m.sd.now;
  g = m.g.now;
  w = m.w.now;
  ts = m.ts.now;
  tg =
      m.tg.now;
  tb = m.tb.now;
}

abbrev pub more : FoundMore → More
more (found_more.Resistor class r c w ta tw) =
    rows.Resistor class.now r.now c.now w.now ta.now tw.now
more (found_more.Diode class p n ta tc) = rows.Diode class.now p.now n.now ta.now tc.now

abbrev pub statement : Found → Statement
statement (found.Define name f) = rows.Define name.now (form f)
statement (found.Choose name c) = rows.Choose name.now (choice c)
statement (found.Draw name key) = rows.Draw name.now key
statement (found.Connect a b) = rows.Connect a.now b.now
statement (found.Global a net) = rows.Global a.now net.now
statement (found.Extract m) = rows.Extract (mos m)
statement (found.Further m) = rows.Further (more m)
statement (found.Same a b) = rows.Same a.now b.now
statement (found.FlattenLayout a) = rows.FlattenLayout a.now
statement (found.FlattenSchematic b) = rows.FlattenSchematic b.now
statement found.FlattenUnmatched = rows.FlattenUnmatched
statement found.SamePins = rows.SamePins
statement found.KeepCovered = rows.KeepCovered
statement found.Combine = rows.Combine
statement (found.MaxGuesses n) = rows.MaxGuesses n
statement found.Accepted = rows.Accepted

abbrev pub statements : Option Found → Option Statement
statements None = None
statements (Some s) = Some (statement s)

abbrev pub rules_seen : RuleSet → Rules
rules_seen r = record {
  names = r.names.items;
  selects = r.selects.items;
  outputs = r.outputs.items;
  connects = r.connects.items;
  globals = r.globals.items;
  devices = r.devices.items;
  more = r.more.items;
  same = r.same.items;
  flat_layouts = r.flat_layouts.items;
  flat_schematics = r.flat_schematics.items;
  flattens_unmatched = r.flattens_unmatched;
  tells_pins = r.tells_pins;
  covered = r.covered;
  combine = r.combine;
  max_guesses = r.max_guesses;
}
