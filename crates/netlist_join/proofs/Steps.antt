-- One step of the definitions.
use Rattle.std.proofs.Common.{◌≡◌, ◌<◌, ◌-◌, ◌+◌, ℕ, zero, suc, Bool, true, false, List, [], None, ap, refl, ◌∙◌, arith}
use Rattle.std.specs.Prelude.{slice_get, if◌then◌else◌}
use Rattle.netlist_join.specs.Joining.{Made, Call, Outcome, all_joined, and_then, bytes_joined, file_ended, file_joined, lines_joined, most_deep}
use Rattle.netlist_join.specs.Parts.{Taking}
use Rattle.netlist_join.specs.declared.files.File.{File}
use Rattle.netlist_join.specs.declared.join.Origin.{Origin}

-- a file that is not too deep
pub file_step : (depth : ℕ) (files : List File) (call : Call) (by : Origin) (m : Made) → 0 < depth
    → file_joined depth files call by m ≡ bytes_joined (file_joined (depth - 1) files) files call by (slice_get files call.file) m
file_step zero files call by m lt = absurd (omega arith)
file_step (suc depth) files call by m lt =
    let e : depth ≡ suc depth - 1 = omega arith in ap (λ (d : ℕ). bytes_joined (file_joined d files) files call by (slice_get files call.file) m) e

-- the next file
pub all_step : (n : ℕ) (files : List File) (k : ℕ) (m : Made) → 0 < n
    → all_joined n files k m ≡ and_then (file_joined most_deep files (record { file = k; section = None }) (record { file = k; line = 0 }) m) (λ next. all_joined (n - 1) files (k + 1) next)
all_step zero files k m lt = absurd (omega arith)
all_step (suc n) files k m lt =
    let e : n ≡ suc n - 1 = omega arith in
    ap (λ (i : ℕ). and_then (file_joined most_deep files (record { file = k; section = None }) (record { file = k; line = 0 }) m) (λ next. all_joined i files (k + 1) next)) e

lines_either : (b : Bool) (inner : Call → Origin → Made → Outcome) (files : List File) (by : Origin) (t : Taking) (at : Origin) (lines : List (List ℕ)) (m : Made)
    → lines_joined inner files by t at (if b then [] else lines) m ≡ (if b then file_ended by t m else lines_joined inner files by t at lines m)
lines_either true inner files by t at lines m = refl
lines_either false inner files by t at lines m = refl

-- what is read behind a line
pub lines_rest : (b : Bool) (inner : Call → Origin → Made → Outcome) (files : List File) (by : Origin) (t : Taking) (at : Origin) (lines rest : List (List ℕ)) (m : Made)
    → rest ≡ (if b then [] else lines) → lines_joined inner files by t at rest m ≡ (if b then file_ended by t m else lines_joined inner files by t at lines m)
lines_rest b inner files by t at lines rest m e = ap (λ (ls : List (List ℕ)). lines_joined inner files by t at ls m) e ∙ lines_either b inner files by t at lines m
