use Rattle.net_align.proofs.side.align_side.Given as goal

abbrev pub ghost-flatten : goal.ghost-flatten
ghost-flatten g a = g.given.flattening

abbrev pub ghost-held_pins : goal.ghost-held_pins
ghost-held_pins g a = g.given

abbrev pub ghost-cut_kept : goal.ghost-cut_kept
ghost-cut_kept g a = g.given
