-- What the answer of a pair is, among those of all pairs.
use Rattle.std.specs.Prelude.{ℕ, ◌+◌, Bool, ◌==◌, ◌&&◌, length}
use Rattle.plain_netlist.specs.Netlist.{Netlist}
use Rattle.composed_laws.specs.Answered.{Asked, IsAnswerOf}
use Rattle.net_model.specs.Rows.{plain_netlist}
use Rattle.match_types.specs.Plain.{plain_answer}
use Rattle.match_types.specs.declared.answer.Answer.{Answer}
use Rattle.match_types.specs.declared.pair_key.PairKey.{PairKey}

-- the limit of guesses, and names that tell the pins of the last pair apart, that of the tops, where
-- that is asked
abbrev pub asked_of : Netlist → ℕ → Bool → Asked
asked_of left limit same_pins = record {
  limit = limit;
  told = λ k. same_pins && (k + 1 == length left.circuits);
}

-- the answer of a pair of the key's netlists, given those of the pairs that its left circuit calls
abbrev pub IsPairAnswer : PairKey → ℕ → Answer → Type 0
IsPairAnswer key pair v = IsAnswerOf (plain_netlist key.left.value) (plain_netlist key.right.value)
    (asked_of (plain_netlist key.left.value) key.limit.value key.same_pins.value) pair
    (plain_answer v)
