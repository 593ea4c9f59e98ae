use Rattle.std.proofs.Common.{◌∙◌, sym, subst}
use Rattle.net_walk.proofs.Motions.{same_motion}
use Rattle.net_walk.proofs.contacts.lie_so.Goals as goal
use Rattle.net_walk.specs.Relative.{IsRelative}

pub returns : goal.returns
returns c = λ e.
    let same = same_motion c.args.beside.now.motion c.relative-motion.result (sym c.eq.ensures ∙ e) in
    record {
      one = sym c.if-beside-one.false;
      other = sym c.if-beside-other.false;
      motion = subst (λ m. IsRelative c.args.one.now.motion c.args.other.now.motion m) (sym same) c.relative-motion.ensures;
    }
