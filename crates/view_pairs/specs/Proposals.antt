-- What a proposal of partners is.
use Rattle.std.specs.Prelude.{◌≡◌, ℕ, ◌+◌, ◌==◌, Bool, true, ◌&&◌, List, Some, length}
use Rattle.std.specs.Prelude.{slice_get, take}
use Rattle.plain_netlist.specs.Netlist.{Circuit}
use Rattle.view_cross.specs.declared.rows.Kind.{Kind}
use Rattle.view_cross.specs.declared.rows.Kind.TheVariants.{Net, Pin, Device, Call}
use Rattle.view_cross.specs.declared.rows.Row.{Row}
use Rattle.view_pairs.specs.Alike.{is_alike}
use Rattle.view_pairs.specs.Partners.{ArePartners, HasPartner}
use Rattle.view_pairs.specs.Rows.{Asked, asked, proposal_rows}
use Rattle.view_pairs.specs.declared.partners.Couple.{Couple}
use Rattle.view_pairs.specs.declared.partners.Partner.{Partner}
use Rattle.view_pairs.specs.declared.partners.Partners.{Partners}
use Rattle.view_pairs.specs.declared.proposal.Proposal.{Proposal}

abbrev pub is_alike_couple : Circuit → Circuit → Partners → Kind → Couple → Bool
is_alike_couple a b nets kind c = is_alike a b nets kind c.left c.right.number

-- partners are of one kind
abbrev pub AreAlike : Circuit → Circuit → Partners → Kind → Partners → Type 0
AreAlike a b nets kind x = (k : ℕ) (p : Partner) → HasPartner x.lefts.items k p
    → is_alike a b nets kind k p.number ≡ true

-- each node of both circuits has a partner of its kind, or none
pub record IsProposal (a b : Circuit) (x : Proposal) : Type 0 where
  pub nets : ArePartners (length a.nets) (length b.nets) x.nets
  pub pins : ArePartners (length a.pins) (length b.pins) x.pins
  pub devices : ArePartners (length a.devices) (length b.devices) x.devices
  pub calls : ArePartners (length a.calls) (length b.calls) x.calls
  pub alike_nets : AreAlike a b x.nets Net x.nets
  pub alike_pins : AreAlike a b x.nets Pin x.pins
  pub alike_devices : AreAlike a b x.nets Device x.devices
  pub alike_calls : AreAlike a b x.nets Call x.calls

-- names tell the pins of the last pair apart, where that is asked
abbrev pub is_told : Bool → ℕ → ℕ → Bool
is_told same_pins count k = same_pins && (k + 1 == count)

abbrev pub asked_at : Bool → ℕ → ℕ → Circuit → Circuit → List Proposal → Proposal → Asked
asked_at same_pins count k a b before x = asked (is_told same_pins count k) a b before x

-- each of these pairs has its proposal, and its rows by the pins of the pairs before it
pub record AreShown (lefts rights : List Circuit) (same_pins : Bool) (xs : List Proposal)
    (rows : List (List Row)) : Type 0 where
  pub long : length rows ≡ length xs
  pub sound : (k : ℕ) (a b : Circuit) (x : Proposal) → slice_get lefts k ≡ Some a
      → slice_get rights k ≡ Some b → slice_get xs k ≡ Some x → IsProposal a b x
  pub shown : (k : ℕ) (a b : Circuit) (x : Proposal) → slice_get lefts k ≡ Some a
      → slice_get rights k ≡ Some b → slice_get xs k ≡ Some x → slice_get rows k
      ≡ Some (proposal_rows (asked_at same_pins (length lefts) k a b (take k xs) x))

-- so has each pair
pub record AreProposed (lefts rights : List Circuit) (same_pins : Bool) (rows : List (List Row)) :
    Type 0 where
  pub proposals : List Proposal
  pub shown : AreShown lefts rights same_pins proposals rows
  pub all : length proposals ≡ length lefts
