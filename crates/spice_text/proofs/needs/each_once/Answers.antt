use Rattle.std.proofs.Common.{◌∙◌, sym, subst, ap, arith, [], List, ℕ, length}
use Rattle.plain_netlist.specs.Lists.{AreApart}
use Rattle.spice_text.proofs.SoundLemmas.{seen_apart}
use Rattle.spice_text.proofs.needs.each_once.Goals as goal

pub returns-clause-globals : goal.returns-clause-globals
returns-clause-globals c =
    let is = c.in_ok-nets.ensures.table in
    let same = c.in_ok-once.ensures ∙ sym is in
    let past = c.in_ok-number.ensures.few in
    let count = c.len.ensures ∙ c.in_ok-once.once.ok.0 in
    let long = ap (λ (ts : List (List ℕ)). length ts) same in
    record {
      names = same;
      apart = subst (λ (t : List (List ℕ)). AreApart t) (sym is) (seen_apart [] c.args.names.now (record {}));
      few = omega (arith, past, count, long);
    }
