-- Files added one by one, and the line of a verdict.
use Rattle.std.proofs.Common.{◌≡◌, ◌<◌, ◌++◌, ℕ, suc, List, [], ◌∷◌, length, map, refl, ap, arith, ◌∙◌}
use Rattle.std.proofs.lemmas.List.{length-map}
use Rattle.net_model.specs.Rows.{plain_circuit}
use Rattle.net_model.specs.declared.netlist.Circuit.{Circuit}
use Rattle.lvs_outside.specs.Files.{File, files_of}
use Rattle.lvs_outside.specs.declared.files.Written.{Written}
use Rattle.lvs_run.specs.Answers.{Done, verdict_of}
use Rattle.lvs_run.specs.Lines.{counts_line, line_of, verdict_word}
use Rattle.lvs_run.specs.declared.output.Verdict.{Verdict}
use Rattle.lvs_run.specs.declared.output.Verdict.TheVariants as verdict

-- the first file
pub first_file : (none one : List Written) (f : File) → none ≡ [] → files_of one ≡ files_of none ++ f ∷ [] → files_of one ≡ f ∷ []
first_file none one f e h = h ∙ ap (λ (ws : List Written). files_of ws ++ f ∷ []) e

-- and one more
pub next_file : (some more : List Written) (fs : List File) (f : File) → files_of some ≡ fs → files_of more ≡ files_of some ++ f ∷ [] → files_of more ≡ fs ++ f ∷ []
next_file some more fs f e h = h ∙ ap (λ (gs : List File). gs ++ f ∷ []) e

-- each verdict's line tells what was counted
pub verdict_line : (v : Verdict) (done : Done) → counts_line (verdict_word v) done.counts ≡ line_of (verdict_of v) done
verdict_line verdict.Good done = refl
verdict_line verdict.Bad done = refl
verdict_line verdict.Undecided done = refl

-- the last circuit's number
pub below : (top : ℕ) (cs : List Circuit) → suc top ≡ length (map plain_circuit cs) → top < length cs
below top cs e = let same = length-map cs plain_circuit in omega (arith, e, same)
