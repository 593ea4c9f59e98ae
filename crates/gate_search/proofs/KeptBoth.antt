-- What a cell keeps of the squares in both of two names.
use Rattle.std.proofs.Common.{◌≡◌, ℕ, max, ◌++◌}
use Rattle.std.proofs.Math.Nat.{le-max_left, le-max_right, le_refl}
use Rattle.geo_base.specs.declared.layer.LayerKey.{LayerKey}
use Rattle.geo_base.specs.declared.shapes.Square.{Square}
use Rattle.flat_layout.specs.Layers.{Formula, Input, Empty, Binary, Sized, inputs, reach, InFlat, IsCalmAt, IsKept}
use Rattle.flat_layout.specs.Layout.{Design, Some_of}
use Rattle.flat_laws.proofs.Calm.{calm_fewer}
use Rattle.flat_laws.proofs.Names.{more_left, more_right}
use Rattle.flat_laws.proofs.Shut.{shut_both}
use Rattle.gate_search.specs.BothLaws.{KeptBothLaw}

kept_flat : (d : Design) (cell : ℕ) (name : Formula) (q : Square) → IsKept d cell name q → InFlat d cell name q
kept_flat d cell (Input key) q h = h
kept_flat d cell Empty q h = h
kept_flat d cell (Binary op a b) q h = h.0
kept_flat d cell (Sized by a) q h = h.0

kept_calm : (d : Design) (cell : ℕ) (name : Formula) (q : Square) → InFlat d cell name q → IsCalmAt d (inputs name) (reach name) cell q → IsKept d cell name q
kept_calm d cell (Input key) q h calm = h
kept_calm d cell Empty q h calm = h
kept_calm d cell (Binary op a b) q h calm = (h, calm)
kept_calm d cell (Sized by a) q h calm = (h, calm)

pub kept_both : KeptBothLaw
kept_both d cell a b q = (
  (λ h.
      let n = max (reach a) (reach b) in
      let in_first : (key : LayerKey) → Some_of (λ k. k ≡ key) (inputs a) → Some_of (λ k. k ≡ key) (inputs a ++ inputs b) = λ key i. more_left (λ k. k ≡ key) (inputs a) (inputs b) i in
      let in_second : (key : LayerKey) → Some_of (λ k. k ≡ key) (inputs b) → Some_of (λ k. k ≡ key) (inputs a ++ inputs b) = λ key i. more_right (λ k. k ≡ key) (inputs a) (inputs b) i in
      let first = calm_fewer d (inputs a) (inputs a ++ inputs b) n n cell q (le_refl n) in_first h.1 in
      let second = calm_fewer d (inputs b) (inputs a ++ inputs b) n n cell q (le_refl n) in_second h.1 in
      let keeps_first = kept_calm d cell a q h.0.0 (calm_fewer d (inputs a) (inputs a) (reach a) n cell q (le-max_left (reach a) (reach b)) (λ key i. i) first) in
      let keeps_second = kept_calm d cell b q h.0.1 (calm_fewer d (inputs b) (inputs b) (reach b) n cell q (le-max_right (reach a) (reach b)) (λ key i. i) second) in
      ((keeps_first, keeps_second), record { first = first; second = second })),
  (λ h. (
    (kept_flat d cell a q h.0.0, kept_flat d cell b q h.0.1),
    λ z near. shut_both d.way d (inputs a) (inputs b) cell z (h.1.first z near) (h.1.second z near),
  )),
)
