-- What the searches for faults find.
use Rattle.std.specs.Prelude.{◌≡◌, ℕ, Bool, nat_lt, List, [], ◌∷◌, ◌++◌, Option, Some, None}
use Rattle.std.specs.Prelude.{if◌then◌else◌}
use Rattle.text_table.specs.Texts.{has_text}
use Rattle.spice_rows.specs.Rows.{CallCard}
use Rattle.spice_text.specs.Gather.{Circuit}
use Rattle.spice_text.specs.Faults.{is_missing, is_other_count}
use Rattle.spice_text.specs.declared.faults.CallFault.{CallFault}
use Rattle.spice_text.specs.declared.faults.CallFault.TheVariants.{Missing, OtherCount}
use Rattle.spice_rows.specs.declared.fault.SpiceFault.{SpiceFault}
use Rattle.spice_rows.specs.declared.fault.SpiceFault.TheVariants.{NameClash, NoMemory}

-- the line of the first circuit whose name was seen before
abbrev pub first_twice : List (List ℕ) → List Circuit → Option ℕ
first_twice seen [] = None
first_twice seen (c ∷ cs) =
    if has_text seen c.name then Some c.line else first_twice (seen ++ c.name ∷ []) cs

abbrev pub SaysClash : Option ℕ → SpiceFault → Type 0
SaysClash found (NameClash line) = found ≡ Some line
SaysClash found NoMemory = Unit {0}
SaysClash found fault = ⊥

abbrev pub test_of : List Circuit → CallFault → CallCard → Bool
test_of cs Missing r = is_missing cs r
test_of cs OtherCount r = is_other_count cs r

-- the lesser of a line, if any, and another
abbrev pub lesser : Option ℕ → ℕ → Option ℕ
lesser None n = Some n
lesser (Some m) n = Some (if nat_lt n m then n else m)

-- the least of a line, if any, and the lines of the calls that a test finds
abbrev pub least_in : (CallCard → Bool) → Option ℕ → List CallCard → Option ℕ
least_in test found [] = found
least_in test found (r ∷ rs) = least_in test (if test r then lesser found r.line else found) rs

abbrev pub least_in_all : (CallCard → Bool) → Option ℕ → List Circuit → Option ℕ
least_in_all test found [] = found
least_in_all test found (c ∷ cs) = least_in_all test (least_in test found c.calls) cs
