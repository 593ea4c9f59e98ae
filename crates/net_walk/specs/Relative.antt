-- How one placement lies beside another.
use Rattle.std.specs.Prelude.{◌≡◌, ◌↔◌, ℕ}
use Rattle.flat_layout.specs.Layout.{Design, Place}
use Rattle.flat_layout.specs.Nets.{Tables}
use Rattle.flat_layout.specs.Regions.{Wiring}
use Rattle.geo_base.specs.Motions.{moved_square}
use Rattle.geo_base.specs.declared.motion.Motion.{Motion}
use Rattle.geo_base.specs.declared.shapes.Square.{Square}
use Rattle.net_link_laws.specs.Windows.{AreInContact}

-- followed by the other motion it is the first
pub record IsRelative (one other rel : Motion) : Type 0 where
  pub squares : (s : Square) → moved_square other (moved_square rel s) ≡ moved_square one s

abbrev pub SameContactLaw : Type 0
SameContactLaw = (d : Design) (w : Wiring) (t : Tables) (p q r s : Place) (rel : Motion) (x y : ℕ)
    → r.cell ≡ p.cell → s.cell ≡ q.cell → IsRelative p.motion q.motion rel
    → IsRelative r.motion s.motion rel
    → AreInContact d w t p q x y ↔ AreInContact d w t r s x y
