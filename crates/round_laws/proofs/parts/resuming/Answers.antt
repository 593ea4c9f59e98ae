use Rattle.round_laws.proofs.Resumed.{pair, start, step, last, union, even_before, last_guess}
use Rattle.round_laws.proofs.parts.resuming.Goals as goal

pub returns : goal.returns
returns c = record { pair = pair; start = start; step = step; last = last; union = union; before = even_before; guess = last_guess }
