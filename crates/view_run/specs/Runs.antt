-- What a run comes to: what it read, why it wrote nothing, or what it wrote and sent.
use Rattle.std.specs.Prelude.{◌≡◌, ◌≢◌, ◌⊎◌, ℕ, List, [], ◌∷◌, Option, Some, None, IfSome, is_some}
use Rattle.run_layout.specs.RunLayout.{IsRunLayout}
use Rattle.gds_layout.specs.declared.layout.Layout.{Layout}
use Rattle.lvs_outside.specs.Files.{File, WrotePart, WroteWhole}
use Rattle.lvs_outside.specs.Store.{Store}
use Rattle.lvs_outside.specs.Summary.{SinkState}
use Rattle.lvs_run.specs.Answers.{Answer, Outside, RefusedSame, RefusedWords}
use Rattle.lvs_run.specs.Answers as run
use Rattle.lvs_run.specs.Ends.{Took, TookNone, TookPart}
use Rattle.lvs_run.specs.Words.{file_at}
use Rattle.lvs_run.specs.Inputs.{Quiet, ReadAs, RefusesLayout, RefusesRules, RefusesSchematic}
use Rattle.pair_jobs.specs.declared.verdict.Verdict.{Verdict}
use Rattle.plain_netlist.specs.Netlist.{Netlist}
use Rattle.rule_text.specs.Reading.{Means}
use Rattle.rule_text.specs.Rules.{Rules}
use Rattle.spice_rows.specs.Sizes.{read_limit}
use Rattle.spice_text.specs.Means.{Means as SpiceMeans}
use Rattle.view_run.specs.Stated.{Asked}
use Rattle.view_run.specs.Ends.{AsRun, End, refusal_text, refused_for, verdict_end}
use Rattle.view_run.specs.declared.status.Why.{Why}
use Rattle.view_run.specs.Far.{NotMade}
use Rattle.view_run.specs.Views.{IsView}

-- the words ask for these files, of which none that is written is named twice
pub record Asks (words : Option Asked) (q : Asked) : Type 0 where
  pub stated : words ≡ Some q
  pub apart : q.shared ≡ None

-- the page, if it is asked for, goes to another path than the database
abbrev pub IsPageApart : Asked → Type 0
IsPageApart q = IfSome q.page (λ path. q.database ≢ path)

-- the rule file was read whole, and then the layout's, and then the schematic's, with these
-- meanings, the layout's with the rules' selections
pub record ReadsRules (words : Option Asked) (old new : Store) (q : Asked) (r : Rules)
    : Type 0 where
  pub asks : Asks words q
  pub rules : ReadAs old new q.rules (λ bytes. Means bytes r)

pub record ReadsLayout (words : Option Asked) (old new : Store) (q : Asked) (r : Rules) (l : Layout)
    : Type 0 where
  pub mid : Store
  pub rules : ReadsRules words old mid q r
  pub layout : ReadAs mid new q.layout (λ bytes. IsRunLayout bytes q.top r l)

pub record ReadsAll (words : Option Asked) (old new : Store) (q : Asked) (r : Rules) (l : Layout)
    (nl : Netlist) : Type 0 where
  pub mid : Store
  pub layout : ReadsLayout words old mid q r l
  pub schematic : ReadAs mid new q.schematic (λ bytes. SpiceMeans read_limit bytes nl)

-- Why there is nothing to write, and that the depot shows it: the words, the rule file, the layout,
-- the schematic and what is compared of them are looked at in this order, as `lvs run` does, and
-- the first that is refused gives the answer.
pub data Stops (words : Option Asked) (old new : Store) (e : End) : Type 0 where
  WrongWords : words ≡ None → e ≡ AsRun RefusedWords → new ≡ old → Stops words old new e
  SamePath : (q : Asked) (path : List ℕ) → words ≡ Some q → q.shared ≡ Some path
      → e ≡ AsRun (RefusedSame path) → new ≡ old → Stops words old new e
  BadRules : (q : Asked) (a : Answer) → Asks words q → RefusesRules old new q.rules a
      → e ≡ AsRun a → Stops words old new e
  BadLayout : (q : Asked) (r : Rules) (mid : Store) (a : Answer) → ReadsRules words old mid q r
      → mid.faults ≡ old.faults → RefusesLayout mid new q.layout q.top r a → e ≡ AsRun a
      → Stops words old new e
  BadSchematic : (q : Asked) (r : Rules) (l : Layout) (mid : Store) (a : Answer)
      → ReadsLayout words old mid q r l → mid.faults ≡ old.faults
      → RefusesSchematic mid new q.schematic a → e ≡ AsRun a → Stops words old new e
  NothingMade : (q : Asked) (r : Rules) (l : Layout) (nl : Netlist)
      → ReadsAll words old new q r l nl → NotMade l r nl e → new.faults ≡ old.faults
      → Stops words old new e
  NoMemory : e ≡ AsRun run.NoMemory → new.faults ≡ old.faults → Stops words old new e

-- a refusal's line was sent, or the sink failed, or there was no memory for the line
abbrev pub Sends : End → SinkState → SinkState → End → Type 0
Sends wanted before after e = ((e ≡ wanted) × Took before after (refusal_text wanted))
    ⊎ (((e ≡ AsRun Outside) × TookPart before after (refusal_text wanted))
    ⊎ ((e ≡ AsRun run.NoMemory) × TookNone before after))

-- file and line were written, or one of them failed
abbrev pub Delivers : List File → List ℕ → End → Store → Store → SinkState → SinkState → End → Type 0
Delivers files line wanted old new before after e =
    ((e ≡ wanted) × WroteWhole old new files × Took before after line)
    ⊎ (((e ≡ AsRun Outside) × WroteWhole old new files × TookPart before after line)
    ⊎ ((e ≡ AsRun Outside) × WrotePart old new files × TookNone before after))

-- a run that ends so sends no line
abbrev pub IsSilent : End → Type 0
IsSilent e = (e ≡ AsRun Outside) ⊎ (e ≡ AsRun run.NoMemory)

-- the page, to its path, where it is asked for
abbrev pub page_files : Option (List ℕ) → Option (List ℕ) → List File
page_files (Some path) (Some text) = file_at path text ∷ []
page_files _ _ = []

-- there is this to write of all that was read: the database, to its path, then the page where it is
-- asked for, and the line
pub record IsReady (words : Option Asked) (old new : Store) (v : Verdict) (files : List File)
    (line : List ℕ) : Type 0 where
  pub asked : Asked
  pub rules : Rules
  pub layout : Layout
  pub netlist : Netlist
  pub reads : ReadsAll words old new asked rules layout netlist
  pub text : List ℕ
  pub page : Option (List ℕ)
  pub view : IsView layout rules netlist (is_some asked.page) v text page line
  pub files_are : files ≡ file_at asked.database text ∷ page_files asked.page page
  pub faults : new.faults ≡ old.faults

-- Nothing was written, and the sink has at most the line of the refusal; or all inputs were read,
-- and then the database of what they mean was written, and its line sent.
pub data Comes (words : Option Asked) (old new : Store) (before after : SinkState) (e : End)
    : Type 0 where
  Refused : (why : Why) → Quiet old new → Stops words old new (refused_for why)
      → Sends (refused_for why) before after e → Comes words old new before after e
  Stopped : Quiet old new → Stops words old new e → IsSilent e → after ≡ before
      → Comes words old new before after e
  Wrote : (mid : Store) (v : Verdict) (files : List File) (line : List ℕ) → Quiet old mid
      → IsReady words old mid v files line
      → Delivers files line (verdict_end v) mid new before after e
      → Comes words old new before after e
