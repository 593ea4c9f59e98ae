-- What unequal numbers of devices say of a pair.
use Rattle.std.specs.Prelude.{ℕ, List}
use Rattle.plain_netlist.specs.Netlist.{Circuit, Netlist, IsCircuit}
use Rattle.match_laws.specs.Answer.{Answer, IsDifference}
use Rattle.composed_laws.specs.Answered.{Asked, pair_in}
use Rattle.pair_jobs.specs.Answers.{AreAllAnswers, answer_at}
use Rattle.refine_match.specs.Matching.{HaveUnevenDevices}

-- a pair differs in which of some kind, class and sizes one circuit has more devices than the
-- other, whatever the called pairs are
abbrev pub UnevenDevicesLaw : Type 0
UnevenDevicesLaw = (left right : Netlist) (asked : Asked) (answers : List Answer)
    → AreAllAnswers left right asked answers → (k : ℕ) (c d : Circuit)
    → IsCircuit left k c → IsCircuit right k d
    → HaveUnevenDevices (pair_in (asked.told k) left (answer_at answers) c d)
    → IsDifference (answer_at answers k)
