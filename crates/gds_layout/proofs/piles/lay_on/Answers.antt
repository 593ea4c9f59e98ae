use Rattle.std.proofs.Common.{Some, ap, refl, sym, ◌∙◌}
use Rattle.std.proofs.lemmas.Option.{slice_get-get_or}
use Rattle.gds_layout.proofs.piles.lay_on.Goals as goal

pub returns : goal.returns
returns c = record {
  before = c.index_mut.result.now;
  after = record { key = c.index_mut.result.now.key; laid = c.lay.new.laid };
  rects_are = c.in_ok-lay.ensures;
  there = slice_get-get_or c.args.list.now.items c.args.number c.index_mut.result.now c.requires ∙ ap Some (sym c.index_mut.ensures.value);
  is = refl;
  key_is = refl;
}
