-- The inverters of a chip: drawn from a seed, and set in rows.
use Rattle.std.specs.Prelude.{ℕ, zero, suc, ◌+◌, ◌-◌, ◌*◌, ◌/◌, ◌%◌, ◌^◌, min, List, [], ◌∷◌, ◌++◌}
use Rattle.std.specs.Prelude.{map, nat_lt, codes, decimal, if◌then◌else◌}
use Rattle.std.specs.List.{range_with_len}
use Rattle.chip_maker.specs.declared.inverters.Kind.{Kind}
use Rattle.chip_maker.specs.declared.inverters.Kind.TheVariants.{Plain, Wide}

-- the next number of the random sequence
abbrev pub next : ℕ → ℕ
next x = (x * 6364136223846793005 + 1442695040888963407) % 2 ^ 64

-- number k of the sequence that begins with the seed
abbrev pub random : ℕ → ℕ → ℕ
random seed zero = seed
random seed (suc k) = next (random seed k)

-- wide where bit 63, the highest, is set
abbrev pub kind_by : ℕ → Kind
kind_by x = if nat_lt x (2 ^ 63) then Plain else Wide

-- inverter k
abbrev pub inverter : ℕ → ℕ → Kind
inverter seed k = kind_by (random seed (k + 1))

-- row i: the inverters from 100 i on, at most 100
abbrev pub row : ℕ → ℕ → ℕ → List Kind
row n seed i = map (inverter seed) (range_with_len (100 * i) (min 100 (n - 100 * i)))

-- the rows of n inverters
abbrev pub rows : ℕ → ℕ → List (List Kind)
rows n seed = map (row n seed) (range_with_len 0 ((n + 99) / 100))

-- the cells of inverters and of rows
abbrev pub kind_name : Kind → List ℕ
kind_name Plain = codes "INV"
kind_name Wide = codes "INV2"

abbrev pub row_name : ℕ → List ℕ
row_name i = codes "ROW" ++ decimal i

-- what each item gives by its number, one behind another, numbered from k
abbrev pub by_number : {A B : Type 0} → (ℕ → A → List B) → ℕ → List A → List B
by_number f k [] = []
by_number f k (x ∷ xs) = f k x ++ by_number f (k + 1) xs
