use Rattle.align_laws.proofs.Nested.{nested_flat}
use Rattle.align_laws.proofs.one_nested.Goals as goal

pub returns : goal.returns
returns c = nested_flat
