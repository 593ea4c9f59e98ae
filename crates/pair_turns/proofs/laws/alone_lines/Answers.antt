use Rattle.pair_turns.proofs.Lines.{are_alone, lines_apart, longest_law}
use Rattle.pair_turns.proofs.laws.alone_lines.Goals as goal

pub returns : goal.returns
returns c = record { longest = longest_law; apart = lines_apart; alone = are_alone }
