use Rattle.std.proofs.Common.{◌≡◌, ◌∙◌, ap, List, ℕ, Vec, Global, rules}
use Rattle.std.specs.Prelude.{string_bytes}
use Rattle.netlist_join.specs.Paths.{beside}
use Rattle.netlist_join.proofs.NamedLemmas.{text_is}
use Rattle.netlist_join.proofs.files.path_beside.Goals as goal

pub returns-in-Ok : goal.returns-in-Ok
returns-in-Ok c =
    text_is c.in-Ok.path (beside (string_bytes c.args.file.now.path) c.args.path.now) (ap (λ (v : Vec ℕ Global). v.items) c.in-Ok.ensures.ok ∙ (search rules))
