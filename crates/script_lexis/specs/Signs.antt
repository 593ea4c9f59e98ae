-- The signs of a script.
use Rattle.std.specs.Prelude.{ℕ, Bool, ◌==◌, ◌&&◌, ◌||◌, Option, Some, None, if◌then◌else◌}
use Rattle.script_lexis.specs.declared.signs.Sign.{Sign}
use Rattle.script_lexis.specs.declared.signs.Sign.TheVariants as sign

-- ** << >> .. &. -> =~ !~ *= /= begin what no script may have
abbrev pub is_beyond : ℕ → ℕ → Bool
is_beyond a b = (a == b && (a == 0x2A || a == 0x3C || a == 0x3E || a == 0x2E))
    || (a == 0x26 && b == 0x2E) || (a == 0x2D && b == 0x3E)
    || (b == 0x7E && (a == 0x3D || a == 0x21)) || (b == 0x3D && (a == 0x2A || a == 0x2F))

-- :: => += -= &= |= ^= == != <= >= && ||
abbrev pub pair_sign : ℕ → ℕ → Option Sign
pair_sign a b =
    if a == 0x3A && b == 0x3A then Some sign.Scope
    else if a == 0x3D && b == 0x3E then Some sign.Arrow
    else if a == 0x2B && b == 0x3D then Some sign.AddAssign
    else if a == 0x2D && b == 0x3D then Some sign.SubtractAssign
    else if a == 0x26 && b == 0x3D then Some sign.AndAssign
    else if a == 0x7C && b == 0x3D then Some sign.OrAssign
    else if a == 0x5E && b == 0x3D then Some sign.XorAssign
    else if a == 0x3D && b == 0x3D then Some sign.Equal
    else if a == 0x21 && b == 0x3D then Some sign.Unequal
    else if a == 0x3C && b == 0x3D then Some sign.AtMost
    else if a == 0x3E && b == 0x3D then Some sign.AtLeast
    else if a == 0x26 && b == 0x26 then Some sign.Both
    else if a == 0x7C && b == 0x7C then Some sign.Either
    else None

-- ( ) [ ] { } , . ; : ? = < > ! & | ^ + - * /
abbrev pub single_sign : ℕ → Option Sign
single_sign b =
    if b == 0x28 then Some sign.Open
    else if b == 0x29 then Some sign.Close
    else if b == 0x5B then Some sign.OpenSquare
    else if b == 0x5D then Some sign.CloseSquare
    else if b == 0x7B then Some sign.OpenBrace
    else if b == 0x7D then Some sign.CloseBrace
    else if b == 0x2C then Some sign.Comma
    else if b == 0x2E then Some sign.Point
    else if b == 0x3B then Some sign.Semicolon
    else if b == 0x3A then Some sign.Colon
    else if b == 0x3F then Some sign.Question
    else if b == 0x3D then Some sign.Assign
    else if b == 0x3C then Some sign.Less
    else if b == 0x3E then Some sign.More
    else if b == 0x21 then Some sign.Not
    else if b == 0x26 then Some sign.And
    else if b == 0x7C then Some sign.Or
    else if b == 0x5E then Some sign.Xor
    else if b == 0x2B then Some sign.Add
    else if b == 0x2D then Some sign.Subtract
    else if b == 0x2A then Some sign.Multiply
    else if b == 0x2F then Some sign.Divide
    else None
