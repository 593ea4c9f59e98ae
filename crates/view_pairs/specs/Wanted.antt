-- Which couples shall be partners.
use Rattle.std.specs.Prelude.{◌≡◌, ◌<◌, ℕ, true, List, length}
use Rattle.match_types.specs.declared.answer.Answer.{Answer}
use Rattle.match_types.specs.declared.answer.Answer.TheVariants as answer
use Rattle.match_types.specs.declared.answer.Pairing.{Pairing}
use Rattle.plain_netlist.specs.Netlist.{Circuit}
use Rattle.view_cross.specs.declared.rows.Kind.{Kind}
use Rattle.view_cross.specs.declared.rows.Kind.TheVariants.{Net, Device, Call}
use Rattle.view_pairs.specs.Only.{AreOnlyFirst, in_order, is_given}
use Rattle.view_pairs.specs.Partners.{HasPartner, IsFirst}
use Rattle.view_pairs.specs.Proposals.{is_alike_couple}
use Rattle.view_pairs.specs.declared.partners.Couple.{Couple}
use Rattle.view_pairs.specs.declared.partners.Partners.{Partners}
use Rattle.view_pairs.specs.declared.proposal.Proposal.{Proposal}
use Rattle.view_pairs.specs.declared.wanted.Wanted.{Wanted}

-- those of a pairing, in order
pub record AreOfPairing (f : Pairing) (w : Wanted) : Type 0 where
  pub nets : w.nets.items ≡ in_order 0 f.nets.items
  pub devices : w.devices.items ≡ in_order 0 f.devices.items
  pub calls : w.calls.items ≡ in_order 0 f.calls.items

-- by the answer: those of the match, or first of all the only nets of a name
abbrev pub AreWanted : Circuit → Circuit → Answer → Wanted → Type 0
AreWanted a b (answer.Match f) w = AreOfPairing f w
AreWanted a b (answer.Differs e) w = AreOnlyFirst is_given a.nets b.nets w.nets.items
AreWanted a b (answer.Undecided gs) w = AreOnlyFirst is_given a.nets b.nets w.nets.items
AreWanted a b (answer.Skipped q) w = AreOnlyFirst is_given a.nets b.nets w.nets.items

-- a couple of one kind whose nodes are there is of partners where none before it shares a node
abbrev pub TakesAlike : Circuit → Circuit → Partners → Kind → ℕ → ℕ → List Couple → Partners
    → Type 0
TakesAlike a b nets kind n m couples x = (c : Couple) → IsFirst c couples
    → is_alike_couple a b nets kind c ≡ true → c.left < n → c.right.number < m
    → HasPartner x.lefts.items c.left c.right

-- so with all kinds
pub record TakesWanted (a b : Circuit) (w : Wanted) (x : Proposal) : Type 0 where
  pub nets : TakesAlike a b x.nets Net (length a.nets) (length b.nets) w.nets.items x.nets
  pub devices : TakesAlike a b x.nets Device (length a.devices) (length b.devices)
      w.devices.items x.devices
  pub calls : TakesAlike a b x.nets Call (length a.calls) (length b.calls) w.calls.items x.calls
