use Rattle.std.proofs.Common.{sym, subst}
use Rattle.net_model.specs.Rows.{plain_netlist}
use Rattle.part_origins.specs.Made.{AllOrigins, made_origins}
use Rattle.part_origins.specs.Origins.{HaveOrigins}
use Rattle.part_origins.proofs.Whole.{have_origins}
use Rattle.part_origins.proofs.origins.part_origins.Goals as goal

pub returns : goal.returns
returns c =
    let g = plain_netlist c.args.written.now in
    let o = plain_netlist c.args.aligned.now in
    let have : HaveOrigins g o (made_origins g o) = have_origins g o c.requires.written c.requires.names c.requires.aligned in
    subst (λ (z : AllOrigins). HaveOrigins g o z) (sym c.in_ok-origins.ensures) have
