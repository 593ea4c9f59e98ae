-- What the end of a run comes to: the line of a refusal, or the files and their line.
use Rattle.std.specs.Prelude.{◌≡◌, ◌⊎◌, ◌<◌, ℕ, List, Option}
use Rattle.lvs_outside.specs.Store.{Store, appended}
use Rattle.lvs_outside.specs.Summary.{SinkState}
use Rattle.lvs_outside.specs.Loops.{ForPrefix}
use Rattle.lvs_run.specs.Answers.{Done, Answer, Outside, NoMemory, IsVerdict, nothing}
use Rattle.lvs_run.specs.Answers.{verdict_of}
use Rattle.lvs_outside.specs.Files.{ArePartWritten, WroteWhole, WrotePart, files_of}
use Rattle.lvs_run.specs.Runs.{HasCauseIn, depot_faults, sink_faults, Leaves, Says, StartsNone}
use Rattle.lvs_run.specs.Lines.{line_of}
use Rattle.lvs_run.specs.Outcomes.{IsOutcome}
use Rattle.lvs_run.specs.Words.{Paths, inputs}
use Rattle.lvs_run.specs.declared.output.Output.{Output}

-- the sink took the text, and nothing failed
pub record Took (before after : SinkState) (text : List ℕ) : Type 0 where
  pub told : after.told ≡ appended before.told text
  pub faults : sink_faults after ≡ sink_faults before

-- the sink took a prefix of the text, and then failed
pub record TookPart (before after : SinkState) (text : List ℕ) : Type 0 where
  pub told : ForPrefix text (λ front. after.told ≡ appended before.told front)
  pub faults : sink_faults before < sink_faults after

-- the sink stands as it was
pub record TookNone (before after : SinkState) : Type 0 where
  pub told : after.told ≡ before.told
  pub write_calls : after.write_calls ≡ before.write_calls
  pub faults : sink_faults after ≡ sink_faults before

-- a refusal was sent, or the sink failed, or there was no memory for the line
abbrev pub Refused : Answer → SinkState → SinkState → Answer → Type 0
Refused wanted before after a =
    ((a ≡ wanted) × Took before after (line_of wanted nothing))
    ⊎ (((a ≡ Outside) × TookPart before after (line_of wanted nothing)) ⊎ ((a ≡ NoMemory)
    × TookNone before after))

-- files and line were written, or one of them failed
abbrev pub Delivered : Output → Store → Store → SinkState → SinkState → Answer → Type 0
Delivered o old new before after a =
    ((a ≡ verdict_of o.verdict) × WroteWhole old new (files_of o.files.items)
    × Took before after o.line.items)
    ⊎ (((a ≡ Outside) × WroteWhole old new (files_of o.files.items)
    × TookPart before after o.line.items)
    ⊎ ((a ≡ Outside) × WrotePart old new (files_of o.files.items) × TookNone before after))

-- a fact, but after Outside and NoMemory
abbrev pub IsOrElse : Answer → Type 0 → Type 0
IsOrElse Outside P = Unit {0}
IsOrElse NoMemory P = Unit {0}
IsOrElse a P = P

-- nothing was written, the depot still shows why the run was refused, and none of its calls failed
pub record RefusedOnly (said : Option Paths) (old new : Store) (wanted : Answer) : Type 0 where
  pub starts : StartsNone old new
  pub cause : HasCauseIn said old new wanted
  pub faults : depot_faults new ≡ depot_faults old

-- Where a run was when the outside failed, and that it went no further: reading its inputs, with
-- nothing written or sent; sending the line of the refusal that the told files come to, and the
-- depot stands as this refusal left it; writing the files that they come to, with no line sent; or
-- sending the line behind those files, and the depot stands as their writing left it.
pub data FailsAt (said : Option Paths) (old new : Store) (before after : SinkState) : Type 0 where
  AtInput : StartsNone old new → TookNone before after → FailsAt said old new before after
  AtRefusal : (wanted : Answer) → IsOutcome said (inputs said old.file) wanted nothing
      → RefusedOnly said old new wanted → TookPart before after (line_of wanted nothing)
      → FailsAt said old new before after
  AtFile : (wanted : Answer) (done : Done) → IsVerdict wanted
      → IsOutcome said (inputs said old.file) wanted done
      → ArePartWritten old new done.files → TookNone before after
      → FailsAt said old new before after
  AtLine : (wanted : Answer) (done : Done) → IsVerdict wanted
      → IsOutcome said (inputs said old.file) wanted done
      → WroteWhole old new done.files → TookPart before after (line_of wanted done)
      → FailsAt said old new before after

-- after Outside the run failed at one of these places
abbrev pub Fails : Option Paths → Store → Store → SinkState → SinkState → Answer → Type 0
Fails said old new before after Outside = FailsAt said old new before after
Fails said old new before after a = Unit {0}

-- the outcome: of the told files and what is written, with the line of it; after Outside and
-- NoMemory what they leave
pub record ComesOut (said : Option Paths) (old new : Store) (before after : SinkState)
    (a : Answer) : Type 0 where
  pub done : Done
  pub comes : IsOrElse a (IsOutcome said (inputs said old.file) a done)
  pub leaves : Leaves old new done.files a
  pub says : Says a done before after
  pub fails : Fails said old new before after a
