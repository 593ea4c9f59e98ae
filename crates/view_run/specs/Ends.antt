-- How a run of the program ends, as plain data.
use Rattle.std.specs.Prelude.{ℕ, List, [], ◌∷◌, ◌++◌, codes}
use Rattle.lvs_outside.specs.Store.{Store}
use Rattle.lvs_outside.specs.Summary.{SinkState}
use Rattle.lvs_run.specs.Answers.{Answer, Good, Bad, Undecided, Outside, NoMemory, nothing, refused}
use Rattle.lvs_run.specs.Lines.{line_of}
use Rattle.lvs_run.specs.Runs.{HaveStood, ShowsFaults}
use Rattle.pair_jobs.specs.declared.verdict.Verdict.{Verdict}
use Rattle.pair_jobs.specs.declared.verdict.Verdict.TheVariants as verdict
use Rattle.view_run.specs.declared.status.Status.{Status}
use Rattle.view_run.specs.declared.status.Status.TheVariants as status
use Rattle.view_run.specs.declared.status.Stop.{Stop}
use Rattle.view_run.specs.declared.status.Stop.TheVariants as stop
use Rattle.view_run.specs.declared.status.Why.{Why}
use Rattle.view_run.specs.declared.status.Why.TheVariants as why

-- an answer that `lvs run` has too, or that something reaches too far to be shown
pub data End : Type 0 where
  AsRun : (a : Answer) → End
  TooFar : End

abbrev pub refused_for : Why → End
refused_for (why.Run refusal) = AsRun (refused refusal)
refused_for why.View = TooFar

abbrev pub end_of : Status → End
end_of status.Good = AsRun Good
end_of status.Bad = AsRun Bad
end_of (status.Refused w) = refused_for w
end_of status.Undecided = AsRun Undecided
end_of status.Outside = AsRun Outside
end_of status.NoMemory = AsRun NoMemory

-- of a run that stops
abbrev pub stopped : Stop → End
stopped (stop.Refused w) = refused_for w
stopped stop.Outside = AsRun Outside
stopped stop.NoMemory = AsRun NoMemory

-- of a comparison
abbrev pub verdict_end : Verdict → End
verdict_end verdict.Match = AsRun Good
verdict_end verdict.Mismatch = AsRun Bad
verdict_end verdict.Undecided = AsRun Undecided

-- the line of a refusal
abbrev pub refusal_text : End → List ℕ
refusal_text (AsRun a) = line_of a nothing
refusal_text TooFar = codes "refused view" ++ 10 ∷ []

-- a count of faults rose exactly with the answer Outside
abbrev pub ShowsTheFaults : End → Store → Store → SinkState → SinkState → Type 0
ShowsTheFaults (AsRun a) old new before after = ShowsFaults a old new before after
ShowsTheFaults TooFar old new before after = HaveStood old new before after
