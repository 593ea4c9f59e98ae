-- Tests of bytes.
use Rattle.std.proofs.Common.{◌≡◌, ℕ, ◌+◌, ◌<◌, Bool, true, false, ◌==◌, sym, subst, arith}
use Rattle.std.proofs.lemmas.Bool.{ne_eqb}
use Rattle.std.specs.Char.{is_ascii_digit}
use Rattle.std.proofs.Math.Decide.{ℕ_discrete}
use Rattle.std.proofs.lemmas.Bool.Decides.{nat_tests}

-- a byte that passes a test is none that doesn't
pub other : (test : ℕ → Bool) (b x : ℕ) → test x ≡ false → test b ≡ true → (b == x) ≡ false
other test b x g h = elim (ℕ_discrete b x) [
  | yes e ↦ let p : test b ≡ false = subst (λ n. test n ≡ false) (sym e) g in cc
  | no ne ↦ ne_eqb b x ne
]

pub digit : (d : ℕ) → d < 10 → is_ascii_digit (0x30 + d) ≡ true
digit d h = grind (arith, nat_tests)
