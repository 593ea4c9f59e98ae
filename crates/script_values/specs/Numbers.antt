-- The numbers of a script: exact, in whole thousand-millionths.
use Rattle.std.specs.Prelude.{◌≡◌, ℕ, ◌*◌, ◌^◌, ℤ, pos, neg_ℤ, not, ◌&&◌, ◌||◌, if◌then◌else◌, List}
use Rattle.fixed_num.specs.Values.{IsArea}
use Rattle.script_values.specs.declared.number.Number.{Number}

-- in thousand-millionths
abbrev pub worth : Number → ℤ
worth n = if n.minus then neg_ℤ (pos n.amount) else pos n.amount

-- the text writes so many of them: as a SPICE area in square metres a text of 1 is 10 ^ 24
abbrev pub Writes : List ℕ → ℕ → Type 0
Writes text amount = IsArea text (amount * 10 ^ 15)

-- the product, with a minus where one of the two has it
pub record IsProduct (one other n : Number) : Type 0 where
  pub amount : n.amount * 10 ^ 9 ≡ one.amount * other.amount
  pub minus : n.minus ≡ ((one.minus && not other.minus) || (not one.minus && other.minus))
