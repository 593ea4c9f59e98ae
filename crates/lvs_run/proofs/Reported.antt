-- The written netlist and the written report against the told files.
use Rattle.std.proofs.Common.{◌≡◌, inl, inr, ℕ, List, Option, Some, length, refl, sym, subst, ◌∙◌}
use Rattle.lvs_outside.specs.Store.{Store, Told, Untold, NoFile, Holds}
use Rattle.lvs_outside.specs.Summary.{SinkState}
use Rattle.lvs_outside.specs.Files.{AreApart, files_of}
use Rattle.gds_layout.specs.declared.layout.Layout.{Layout}
use Rattle.run_layout.specs.RunLayout.{IsRunLayout}
use Rattle.plain_netlist.specs.Netlist.{Netlist}
use Rattle.rule_text.specs.Rules.{Rules}
use Rattle.rule_text.specs.Reading.{Means}
use Rattle.spice_rows.specs.Sizes.{read_limit}
use Rattle.spice_text.specs.Means.{Means as SpiceMeans}
use Rattle.lvs_run.specs.declared.output.Output.{Output}
use Rattle.lvs_run.specs.Words.{Outputs, ToShapes, ToNetlist, ToReport, ToChip, Paths, inputs_of, schematic_path}
use Rattle.lvs_run.specs.Answers.{Answer, Counts, Done, Good, IsVerdict}
use Rattle.lvs_run.specs.Outcomes.{IsDone, IsDoneBeside, IsReported}
use Rattle.lvs_run.specs.Inputs.{IsInput, IsReady, Quiet, ReadAs}
use Rattle.lvs_run.specs.Ends.{Delivered}
use Rattle.lvs_run.specs.Flat.{HoldsAs, ListsAs, OfInputs}
use Rattle.lvs_run.specs.Chips.{schematic_at}
use Rattle.lvs_run.specs.Verdicts.{ForReport, HasVerdicts, IsMatchOf, ListsReport, MatchLaw, OfCompared, OfTexts, TextsFact, VerdictsLaw, WhereMeant, WritesMatch, WritesReport, WritesVerdicts}
use Rattle.lvs_run.proofs.Flattened.{held_delivered, of_inputs, verdict_is}

-- ---- what is listed

pub where_meant : (t : Told) (bytes : List ℕ) (nl : Netlist) (P : Netlist → Type 0) → IsInput bytes t → SpiceMeans read_limit bytes nl → P nl → WhereMeant t P
where_meant Untold bytes nl P told means h = tt
where_meant NoFile bytes nl P told means h = absurd told
where_meant (Holds all) bytes nl P told means h = (nl, subst (λ (xs : List ℕ). SpiceMeans read_limit xs nl) told.0 means, h)

-- a comparison lists both texts
lists_texts : (o : Outputs) (path : List ℕ) (l : Layout) (r : Rules) (nl : Netlist) (a : Answer) (done : Done) (Q : List ℕ → List ℕ → List ℕ → Type 0) → schematic_path o ≡ Some path
    → ((cells : ℕ) (spelled told : List ℕ) (counts : Counts) → IsReported l r nl cells spelled told counts a → Q path spelled told) → IsDoneBeside o l r nl a done
    → ForReport o (λ schematic netlist report. ListsAs done.files netlist (λ text. ListsAs done.files report (λ told. Q schematic text told))) (λ schematic. OfTexts (λ text told. Q schematic text told))
lists_texts (ToReport schematic shapes netlist report) path l r nl a done Q e f h =
    let there : Some schematic ≡ Some path = e in
    let same : path ≡ schematic = cc in
    let fact = subst (λ (s : List ℕ). Q s h.spelled h.report) same (f h.cells h.spelled h.report h.counts h.reported) in
    subst (λ (d : Done). ListsAs d.files netlist (λ text. ListsAs d.files report (λ told. Q schematic text told))) (sym h.whole) (inr (inl (refl, inr (inr (inl (refl, fact))))))
lists_texts (ToShapes shapes) path l r nl a done Q e f h = absurd h
lists_texts (ToNetlist shapes netlist) path l r nl a done Q e f h = absurd h
lists_texts (ToChip n seed prefix) path l r nl a done Q e f h =
    let there : Some (schematic_at prefix) ≡ Some path = e in
    let same : path ≡ schematic_at prefix = cc in
    (h.spelled, h.report, subst (λ (s : List ℕ). Q s h.spelled h.report) same (f (length l.design.order) h.spelled h.report h.counts h.reported))

-- what was read and compared is told so
module _ (p : Paths) (old mid late new : Store) (r : Rules) (l : Layout) (nl : Netlist) (path : List ℕ) (a : Answer) (done : Done) (beside : schematic_path p.outputs ≡ Some path)
    (quiet : Quiet old mid) (later : Quiet mid late) (rules : ReadAs old mid p.rules (λ bytes. Means bytes r)) (layout : ReadAs mid late p.layout (λ bytes. IsRunLayout bytes p.top r l))
    (schematic : ReadAs late new path (λ bytes. SpiceMeans read_limit bytes nl)) where
  told_texts : (P : TextsFact) → ((cells : ℕ) (spelled report : List ℕ) (counts : Counts) → IsReported l r nl cells spelled report counts a → P l r nl spelled report) → IsDoneBeside p.outputs l r nl a done
      → ListsReport old.file p done.files P
  told_texts P f made =
      let told : IsInput schematic.bytes (old.file path) = subst (IsInput schematic.bytes) (later.starts.files path ∙ quiet.starts.files path) schematic.got.told in
      lists_texts p.outputs path l r nl a done (λ s text report. OfCompared old.file p P s text report) beside
      (λ cells spelled report counts h. where_meant (old.file path) schematic.bytes nl (λ (m : Netlist). OfInputs old.file p (λ (v : Layout) (q : Rules). P v q m spelled report)) told schematic.is
      (of_inputs p old mid late r l (λ (v : Layout) (q : Rules). P v q nl spelled report) quiet rules layout (f cells spelled report counts h))) made

  pub verdicts_beside : VerdictsLaw → IsDoneBeside p.outputs l r nl a done → ListsReport old.file p done.files (HasVerdicts a)
  verdicts_beside law made = told_texts (HasVerdicts a) (λ cells spelled report counts h. law l r nl cells spelled report counts a h) made

  pub matched_beside : MatchLaw → IsDoneBeside p.outputs l r nl a done → a ≡ Good → ListsReport old.file p done.files IsMatchOf
  matched_beside law made good = told_texts IsMatchOf (λ cells spelled report counts h. law l r nl cells spelled report counts a h good) made

-- a command that reads no schematic writes no report
no_report : (o : Outputs) (l : Layout) (r : Rules) (a : Answer) (done : Done) (Q : List ℕ → List ℕ → List ℕ → Type 0) (C : List ℕ → Type 0) → IsDone o l r a done → ForReport o Q C
no_report (ToShapes shapes) l r a done Q C h = tt
no_report (ToNetlist shapes netlist) l r a done Q C h = tt
no_report (ToReport schematic shapes netlist report) l r a done Q C h = absurd h
no_report (ToChip n seed prefix) l r a done Q C h = absurd h

pub lists_alone : (p : Paths) (file : List ℕ → Told) (l : Layout) (r : Rules) (a : Answer) (done : Done) (P : TextsFact) → IsDone p.outputs l r a done → ListsReport file p done.files P
lists_alone p file l r a done P h =
    no_report p.outputs l r a done (λ schematic netlist report. ListsAs done.files netlist (λ text. ListsAs done.files report (λ told. OfCompared file p P schematic text told)))
    (λ schematic. OfTexts (λ text told. OfCompared file p P schematic text told)) h

-- ---- what the written files hold

holds_on : (t : Told) (P Q : List ℕ → Type 0) → ((text : List ℕ) → P text → Q text) → HoldsAs t P → HoldsAs t Q
holds_on t P Q f h = record { text = h.text; held = h.held; is = f h.text h.is }

report_held : (out : Outputs) (old new : Store) (before after : SinkState) (o : Output) (a : Answer) (done : Done) (Q : List ℕ → List ℕ → List ℕ → Type 0)
    → files_of o.files.items ≡ done.files → AreApart done.files
    → ForReport out (λ schematic netlist report. ListsAs done.files netlist (λ text. ListsAs done.files report (λ told. Q schematic text told))) (λ schematic. OfTexts (λ text told. Q schematic text told))
    → Delivered o old new before after a → IsVerdict a
    → ForReport out (λ schematic netlist report. HoldsAs (new.file netlist) (λ text. HoldsAs (new.file report) (λ told. Q schematic text told))) (λ schematic. OfTexts (λ text told. Q schematic text told))
report_held (ToShapes shapes) old new before after o a done Q same apart lists h v = tt
report_held (ToNetlist shapes netlist) old new before after o a done Q same apart lists h v = tt
report_held (ToChip n seed prefix) old new before after o a done Q same apart lists h v = lists
report_held (ToReport schematic shapes netlist report) old new before after o a done Q same apart lists h v =
    let held = held_delivered old new before after o a done netlist (λ text. ListsAs done.files report (λ told. Q schematic text told)) same apart lists h v in
    holds_on (new.file netlist) (λ text. ListsAs done.files report (λ told. Q schematic text told)) (λ text. HoldsAs (new.file report) (λ told. Q schematic text told))
    (λ text inner. held_delivered old new before after o a done report (λ told. Q schematic text told) same apart inner h v) held

texts_delivered : (stated : Option Paths) (old mid new : Store) (before after : SinkState) (o : Output) (a : Answer) (P : TextsFact) → (ready : IsReady stated old mid o)
    → ListsReport (inputs_of ready.paths.outputs old.file) ready.paths ready.done.files P → Delivered o mid new before after a → IsVerdict a → WritesReport stated old new P
texts_delivered stated old mid new before after o a P ready lists h v =
    let p = ready.paths in
    subst (λ (s : Option Paths). WritesReport s old new P) (sym ready.stated)
    (report_held p.outputs mid new before after o a ready.done (λ schematic text told. OfCompared (inputs_of p.outputs old.file) p P schematic text told) ready.files ready.apart lists h v)

pub verdicts_delivered : (stated : Option Paths) (old mid new : Store) (before after : SinkState) (o : Output) (a : Answer) → IsReady stated old mid o → Delivered o mid new before after a → WritesVerdicts stated old new a
verdicts_delivered stated old mid new before after o a ready h v =
    let lists = subst (λ (b : Answer). ListsReport (inputs_of ready.paths.outputs old.file) ready.paths ready.done.files (HasVerdicts b)) (verdict_is o mid new before after a h v) ready.verdicts in
    texts_delivered stated old mid new before after o a (HasVerdicts a) ready lists h v

pub match_delivered : (stated : Option Paths) (old mid new : Store) (before after : SinkState) (o : Output) (a : Answer) → IsReady stated old mid o → Delivered o mid new before after a → WritesMatch stated old new a
match_delivered stated old mid new before after o a ready h good =
    let v = subst IsVerdict (sym good) tt in
    texts_delivered stated old mid new before after o a IsMatchOf ready (ready.matched (verdict_is o mid new before after a h v ∙ good)) h v
