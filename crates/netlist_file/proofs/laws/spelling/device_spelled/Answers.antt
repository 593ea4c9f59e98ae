use Rattle.std.proofs.Common.{ℕ, ◌<◌, ◌^◌, subst}
use Rattle.spice_text.proofs.WriteLemmas.{size_is}
use Rattle.netlist_file.proofs.laws.spelling.device_spelled.Goals as goal

pub returns : goal.returns
returns c =
    let sizes = c.args.device.now.sizes in
    record {
      class = c.name_spelled.ensures;
      sizes = (
        subst (λ (v : ℕ). v < 2 ^ 128) (size_is sizes 0) c.size_spelled.ensures,
        subst (λ (v : ℕ). v < 2 ^ 128) (size_is sizes 1) c.size_spelled-2.ensures,
      );
    }
