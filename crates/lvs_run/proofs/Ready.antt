-- What a run has to write, from what was read and made.
use Rattle.std.proofs.Common.{◌≡◌, ℕ, ◌+◌, ◌-◌, ◌^◌, ◌<◌, List, Option, Some, None, refl, subst, sym, ◌∙◌}
use Rattle.lvs_outside.specs.Store.{HasRoom, Store, Told}
use Rattle.gds_layout.specs.declared.layout.Layout.{Layout}
use Rattle.layout_shapes.specs.Writable.{FitsStream}
use Rattle.run_layout.specs.RunLayout.{IsRunLayout, RunFitsLaw}
use Rattle.shapes_file.specs.Read.{FitsStreamLaw}
use Rattle.netlist_file.specs.Flat.{ShowsFlatLaw}
use Rattle.rule_text.specs.Rules.{Rules}
use Rattle.rule_text.specs.Reading.{Means}
use Rattle.rule_text.specs.Sound.{IsSound}
use Rattle.shapes_file.specs.Flat.{CoversFlatLaw}
use Rattle.lvs_run.specs.declared.output.Output.{Output}
use Rattle.lvs_run.specs.declared.output.Verdict.{Verdict}
use Rattle.lvs_run.specs.declared.output.Verdict.TheVariants as verdict
use Rattle.lvs_run.specs.Runs.{HasCauseIn}
use Rattle.lvs_run.specs.Words.{Outputs, Paths, inputs_of, layout_outputs, outputs_of, schematic_path}
use Rattle.lvs_run.specs.declared.words.Outputs.{Outputs as Code}
use Rattle.lvs_run.specs.declared.words.Outputs.TheVariants as code
use Rattle.lvs_run.specs.declared.words.LayoutOutputs.{LayoutOutputs}
use Rattle.lvs_run.specs.declared.words.LayoutOutputs.TheVariants as files
use Rattle.lvs_run.specs.Answers.{Done, verdict_of}
use Rattle.lvs_run.specs.Inputs.{IsBeside, IsOutput, IsReady, Quiet, ReadAs}
use Rattle.lvs_run.specs.Verdicts.{HasVerdicts, IsMatchOf, ListsReport, MatchLaw, TextsFact, VerdictsLaw}
use Rattle.lvs_run.proofs.Stopping.{ReadsFiles, outcome_beside, outcome_made, told_files, verdict_cause, verdict_cause_beside}
use Rattle.lvs_run.proofs.Flattened.{flat_listed, flat_listed_beside, netlist_listed, netlist_listed_beside}
use Rattle.lvs_run.proofs.Reported.{lists_alone, matched_beside, verdicts_beside}

-- a command that the code keeps so reads its inputs
pub reads_files : (o : Code) → ReadsFiles (outputs_of o)
reads_files (code.Layout (files.Shapes shapes)) = tt
reads_files (code.Layout (files.Netlist shapes netlist)) = tt
reads_files (code.Report schematic paths) = tt

-- and one that reads no schematic has none
pub reads_none : (o : LayoutOutputs) → schematic_path (layout_outputs o) ≡ None
reads_none (files.Shapes shapes) = refl
reads_none (files.Netlist shapes netlist) = refl

-- the layouts on which runs work fit a stream
abbrev pub RunLayoutsFit : Type 0
RunLayoutsFit = (bytes : List ℕ) (top : Option (List ℕ)) (r : Rules) (l : Layout) → IsRunLayout bytes top r l → FitsStream l

pub run_fits : FitsStreamLaw → RunFitsLaw → RunLayoutsFit
run_fits read law bytes top r l x = law bytes top r l x (read bytes top x.drawn x.is.read)

pub ready_alone : (p : Paths) (old mid new : Store) (r : Rules) (l : Layout) (o : Output) → p.shared ≡ None → ReadsFiles p.outputs → Quiet old mid → ReadAs old mid p.rules (λ bytes. Means bytes r) → IsSound r
    → ReadAs mid new p.layout (λ bytes. IsRunLayout bytes p.top r l) → RunLayoutsFit → CoversFlatLaw → ShowsFlatLaw → IsOutput p.outputs l r o → IsReady (Some p) old new o
ready_alone p old mid new r l o apart reads quiet rules sound layout fits covers shows made =
    let a = verdict_of o.verdict in
    record {
      paths = p;
      stated = refl;
      done = made.done;
      files = made.files;
      apart = made.apart;
      cause = verdict_cause p old new l r o.verdict made.done apart (layout.got.absent ∙ rules.got.absent) made.is;
      faults = layout.got.faults ∙ rules.got.faults;
      line = made.line;
      comes = outcome_made p old mid new r l a made.done apart reads quiet rules layout made.is;
      flat = flat_listed p old mid new r l a made.done quiet rules layout (λ text cells rectangles file. covers l r text cells rectangles (fits layout.bytes p.top r l layout.is) sound file) made.is;
      netlist = netlist_listed p old mid new r l a made.done quiet rules layout (λ nl top bad text file. shows l r nl top bad text sound file) made.is;
      verdicts = lists_alone p (inputs_of p.outputs old.file) l r a made.done (HasVerdicts a) made.is;
      matched = λ good. lists_alone p (inputs_of p.outputs old.file) l r a made.done IsMatchOf made.is;
    }

-- a report on files that are read, seen from what the command reads
report_so : (p : Paths) (file : List ℕ → Told) (done : Done) (P : TextsFact) → ReadsFiles p.outputs → ListsReport file p done.files P → ListsReport (inputs_of p.outputs file) p done.files P
report_so p file done P reads h = subst (λ (f : List ℕ → Told). ListsReport f p done.files P) (sym (told_files p.outputs file reads)) h

pub ready_beside : (p : Paths) (old mid late new : Store) (r : Rules) (l : Layout) (path : List ℕ) (o : Output) → p.shared ≡ None → ReadsFiles p.outputs → schematic_path p.outputs ≡ Some path → Quiet old mid → Quiet mid late
    → ReadAs old mid p.rules (λ bytes. Means bytes r) → IsSound r → ReadAs mid late p.layout (λ bytes. IsRunLayout bytes p.top r l) → RunLayoutsFit → CoversFlatLaw → ShowsFlatLaw → VerdictsLaw → MatchLaw
    → IsBeside p.outputs l r late new path o → IsReady (Some p) old new o
ready_beside p old mid late new r l path o apart reads beside quiet later rules sound layout fits covers shows judged matches made =
    let a = verdict_of o.verdict in
    let out = made.output in
    let nl = made.netlist in
    let schematic = made.read in
    record {
      paths = p;
      stated = refl;
      done = out.done;
      files = out.files;
      apart = out.apart;
      cause = verdict_cause_beside p old new l r nl o.verdict out.done apart (schematic.got.absent ∙ (layout.got.absent ∙ rules.got.absent)) out.is;
      faults = schematic.got.faults ∙ (layout.got.faults ∙ rules.got.faults);
      line = out.line;
      comes = outcome_beside p old mid late new r l nl path a out.done apart reads beside quiet later rules layout schematic out.is;
      flat = flat_listed_beside p old mid late r l nl a out.done quiet rules layout (λ text cells rectangles file. covers l r text cells rectangles (fits layout.bytes p.top r l layout.is) sound file) out.is;
      netlist = netlist_listed_beside p old mid late r l nl a out.done quiet rules layout (λ n top bad text file. shows l r n top bad text sound file) out.is;
      verdicts = report_so p old.file out.done (HasVerdicts a) reads (verdicts_beside p old mid late new r l nl path a out.done beside quiet later rules layout schematic judged out.is);
      matched = λ good. report_so p old.file out.done IsMatchOf reads (matched_beside p old mid late new r l nl path a out.done beside quiet later rules layout schematic matches out.is good);
    }

-- the same of equal outputs
pub beside_as : {l : Layout} {r : Rules} {old new : Store} {path : List ℕ} {out : Output} → (a b : Outputs) → a ≡ b → IsBeside b l r old new path out → IsBeside a l r old new path out
beside_as {l} {r} {old} {new} {path} {out} a b e h = subst (λ (o : Outputs). IsBeside o l r old new path out) (sym e) h

pub absent_so : (stated : Option Paths) (old new : Store) (v : Verdict) → HasCauseIn stated old new (verdict_of v) → new.absent ≡ old.absent
absent_so stated old new verdict.Good h = h.1
absent_so stated old new verdict.Bad h = h.1
absent_so stated old new verdict.Undecided h = h.1

room : (a b c x y z n : ℕ) → x + y + z < n → a ≡ x → b ≡ y → c ≡ z → a + b + c < n
room a b c x y z n h p q r = rw (p, q, r) h

-- the inputs' reading leaves room for calls
pub room_left : (stated : Option Paths) (old new : Store) (o : Output) → HasRoom old → Quiet old new → IsReady stated old new o → HasRoom new
room_left stated old new o h quiet ready =
    room new.faults new.absent new.empty_takes old.faults old.absent old.empty_takes (2 ^ 64 - 1) h ready.faults (absent_so stated old new o.verdict ready.cause) quiet.empty_takes
