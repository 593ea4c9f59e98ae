use Rattle.deep_laws.proofs.Opens.{lone_input, lone_binary, lone_sized}
use Rattle.deep_laws.proofs.laws.lone_laws.Goals as goal

pub returns : goal.returns
returns c = record { input = lone_input; binary = lone_binary; sized = lone_sized }
