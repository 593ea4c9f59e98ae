use Rattle.std.proofs.Common.{◌∙◌, Some, ap, arith, sym}
use Rattle.std.proofs.lemmas.Option.{slice_get-get_or}
use Rattle.net_walk.proofs.Walking.{no_element}
use Rattle.net_walk.proofs.leaders.leads.Goals as goal

pub returns-else-own-leader : goal.returns-else-own-leader
returns-else-own-leader c = λ e.
    let es = c.args.elements.now in let l = c.args.leader in let k = c.args.number in
    let lookup = c.in-Some.ensures.lookup in
    let within = c.requires.within in let few = c.requires.few in
    let known = lookup.3.0 in
    record {
      known = known;
      leads = sym (lookup.3.1 0) ∙ c.if-own-leader.false;
      alike = slice_get-get_or es l no_element (omega (arith, known, few)) ∙ ap Some (c.are_same.ensures e) ∙ sym (slice_get-get_or es k no_element within);
    }
