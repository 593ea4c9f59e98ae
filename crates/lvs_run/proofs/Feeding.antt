-- A file fed to a reader in pieces.
use Rattle.std.proofs.Common.{◌≡◌, ◌+◌, ◌++◌, ℕ, List, length, take, sym, ap, subst, ◌∙◌, arith, length-append}
use Rattle.std.proofs.lemmas.List.{length-take-le}
use Rattle.lvs_outside.specs.Store.{Store, ReadBytes, SameRest}
use Rattle.lvs_outside.specs.Loops.{Follows}
use Rattle.lvs_outside.proofs.Rest.{follows_step}

-- the next piece was read and fed
pub fed_step : (old mid new : Store) (total n : ℕ) (fed before buf after : List ℕ) → (total ≡ length fed) × Follows old mid fed → ReadBytes mid new before buf n → SameRest mid new → new.faults ≡ mid.faults
    → after ≡ fed ++ take n buf → (total + n ≡ length after) × Follows old new after
fed_step old mid new total n fed before buf after had read rest faults e =
    let size : length (fed ++ take n buf) ≡ length fed + n = length-append fed (take n buf) ∙ ap (λ (k : ℕ). length fed + k) (length-take-le n buf read.fits) in
    let all : length after ≡ length (fed ++ take n buf) = ap (λ (xs : List ℕ). length xs) e in
    let so_far = had.0 in (
      omega (arith, so_far, size, all),
      subst (λ (xs : List ℕ). Follows old new xs) (sym e) (follows_step old mid new n fed before buf had.1 read rest faults),
    )
