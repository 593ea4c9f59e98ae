-- The nets of two placed cells that are in contact.
use Rattle.std.specs.Prelude.{◌≡◌, ◌⊎◌, ◌↔◌, ℕ, ◌+◌, ◌<◌, List}
use Rattle.flat_layout.specs.Layout.{Design, Place, Some_of}
use Rattle.flat_layout.specs.Nets.{Tables}
use Rattle.flat_layout.specs.Regions.{Wiring}
use Rattle.link_classes.specs.Classes.{IsLinked, IsOf}
use Rattle.link_classes.specs.declared.classes.Link.{Link}
use Rattle.net_link_laws.specs.Windows.{AreInContact}
use Rattle.net_walk.specs.Relative.{IsRelative}
use Rattle.net_walk.specs.declared.contacts.Beside.{Beside}
use Rattle.plain_netlist.specs.Chains.{Reaches}

-- a link of the list leads from the one number to the other
abbrev pub IsFromTo : List Link → ℕ → ℕ → Type 0
IsFromTo ls x y = Some_of (λ l. (l.one ≡ x) × (l.other ≡ y)) ls

-- a number below a count is linked with one that stands so far behind the count
abbrev pub IsAcross : List Link → ℕ → ℕ → ℕ → Type 0
IsAcross links count x y = (x < count) × IsLinked links x (count + y)

-- the list has those of one link more
abbrev pub AddsAcross : Link → ℕ → List Link → List Link → Type 0
AddsAcross l count old new = (x y : ℕ) → IsFromTo new x y
    ↔ (IsFromTo old x y ⊎ ((x < count) × IsOf l x (count + y)))

-- a link from each place that stands a contact's net behind the one place, to such a place behind
-- the other
abbrev pub IsReplayed : List Link → ℕ → ℕ → ℕ → ℕ → Type 0
IsReplayed contacts at other_at i j =
    (x y : ℕ) × IsFromTo contacts x y × (at + x ≡ i) × (other_at + y ≡ j)

-- each link leads from a net of the first placed cell to one of the other that is in contact; and
-- from whatever places on the nets stand, chains of the links join each two in contact
pub record AreContacts (d : Design) (w : Wiring) (t : Tables) (p q : Place)
    (links : List Link) : Type 0 where
  pub each : (x y : ℕ) → IsFromTo links x y → AreInContact d w t p q x y
  pub found : (x y : ℕ) → AreInContact d w t p q x y → (at other_at : ℕ)
      → Reaches (λ i j. IsReplayed links at other_at i j ⊎ IsReplayed links at other_at j i)
      (at + x) (other_at + y)

-- the two placements are of these cells, and lie beside each other so
pub record LieSo (p q : Place) (b : Beside) : Type 0 where
  pub one : p.cell ≡ b.one
  pub other : q.cell ≡ b.other
  pub motion : IsRelative p.motion q.motion b.motion

-- the contacts of any two that do
abbrev pub IsBeside : Design → Wiring → Tables → Beside → Type 0
IsBeside d w t b = (p q : Place) → LieSo p q b → AreContacts d w t p q b.contacts.items
