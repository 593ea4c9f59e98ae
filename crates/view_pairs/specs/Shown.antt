-- What the rows of a pair are made from, as the code has it.
use Rattle.std.specs.Prelude.{◌≡◌}
use Rattle.net_model.specs.Rows.{plain_circuit}
use Rattle.view_pairs.specs.Alike.{pin_marks}
use Rattle.view_pairs.specs.Marks.{left_odds, right_odds}
use Rattle.view_pairs.specs.Rows.{Asked, asked}
use Rattle.view_pairs.specs.declared.rows.Shown.{Shown}

abbrev pub asked_of : Shown → Asked
asked_of q = asked q.told (plain_circuit q.sides.now.left.now)
    (plain_circuit q.sides.now.right.now) q.before.now q.proposal.now

-- its marks are those of the circuits
pub record IsShown (q : Shown) : Type 0 where
  pub pins : q.sides.now.left_pins.items ≡ pin_marks (asked_of q).left
  pub lefts : q.odds.lefts.items
      ≡ left_odds (asked_of q).left (asked_of q).right (asked_of q).pins (asked_of q).proposal
  pub rights : q.odds.rights.items
      ≡ right_odds (asked_of q).left (asked_of q).right (asked_of q).pins (asked_of q).proposal
