-- The outcome is a function of the words and the told files.
use Rattle.std.specs.Prelude.{◌≡◌, ℕ, List, Option, Some, None, IfSome}
use Rattle.lvs_outside.specs.Store.{Told, Untold, NoFile, Holds}
use Rattle.lvs_run.specs.Words.{Paths, chip_paths, inputs, schematic_path}
use Rattle.lvs_run.specs.Answers.{Done, Answer, IsVerdict}
use Rattle.lvs_run.specs.Outcomes.{IsOutcome}

-- it is told what the file holds, or that there is none
abbrev pub IsTold : Told → Type 0
IsTold Untold = ⊥
IsTold NoFile = Unit {0}
IsTold (Holds bytes) = Unit {0}

-- the inputs of the command are told
abbrev pub AreInputsTold : Option Paths → (List ℕ → Told) → Type 0
AreInputsTold None file = Unit {0}
AreInputsTold (Some p) file = IsTold (file p.rules) × (IsTold (file p.layout)
    × IfSome (schematic_path p.outputs) (λ path. IsTold (file path)))

-- the answers are one, and where files are written, so is what is written
pub record IsSameOutcome (a b : Answer) (x y : Done) : Type 0 where
  pub answer : a ≡ b
  pub done : IsVerdict a → x ≡ y

-- words and told inputs have one outcome
abbrev pub OneOutcomeLaw : Type 0
OneOutcomeLaw = (said : Option Paths) (file : List ℕ → Told) (a b : Answer) (x y : Done)
    → AreInputsTold said file → IsOutcome said file a x → IsOutcome said file b y
    → IsSameOutcome a b x y

-- what `make` takes as its inputs is told, whatever the store tells
abbrev pub ChipToldLaw : Type 0
ChipToldLaw = (n seed : ℕ) (prefix : List ℕ) (file : List ℕ → Told)
    → AreInputsTold (Some (chip_paths n seed prefix))
    (inputs (Some (chip_paths n seed prefix)) file)
