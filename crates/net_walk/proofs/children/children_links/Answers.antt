use Rattle.net_walk.proofs.children.children_links.Goals as goal

pub link_pairs-requires-clause-pairs : goal.link_pairs-requires-clause-pairs
link_pairs-requires-clause-pairs g c = rw c.deref.ensures.value c.in_ok-pairs.ensures.range

pub returns : goal.returns
returns g c = c.in_ok-pairs.ensures.all c.args.out.now.items c.link_pairs.new.out.items (rw c.deref.ensures.value at c.in_ok-link_pairs.ensures)
