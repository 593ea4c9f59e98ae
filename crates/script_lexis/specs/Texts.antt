-- Texts between quotes, on one line. Behind a backslash any byte stands for itself; in double
-- quotes, what stands between `#{` and `}` is Ruby, with plain texts of its own.
use Rattle.std.specs.Prelude.{ℕ, ◌+◌, Bool, true, false, ◌==◌, ◌&&◌, ◌||◌, List, [], ◌∷◌}
use Rattle.std.specs.Prelude.{Option, Some, None, if◌then◌else◌}
use Rattle.script_lexis.specs.Bytes.{is_quote}
use Rattle.script_lexis.specs.declared.widths.Inside.{Inside}
use Rattle.script_lexis.specs.declared.widths.Inside.TheVariants.{Plain, Escaped, Hash, Inner}
use Rattle.script_lexis.specs.declared.widths.Inside.TheVariants.{InnerText, Ended, Broken}

abbrev pub plain_step : ℕ → ℕ → Inside
plain_step quote b =
    if b == 0x0A then Broken
    else if b == quote then Ended
    else if b == 0x5C then Escaped
    else if b == 0x23 && quote == 0x22 then Hash
    else Plain

-- no braces and no backslash stand between `#{` and `}`
abbrev pub breaks : ℕ → Bool
breaks b = b == 0x0A || b == 0x7B || b == 0x5C

abbrev pub inner_step : ℕ → Inside
inner_step b =
    if b == 0x7D then Plain
    else if is_quote b then InnerText b
    else if breaks b then Broken
    else Inner

abbrev pub inner_text_step : ℕ → ℕ → Inside
inner_text_step inner b =
    if b == inner then Inner
    else if breaks b then Broken
    else InnerText inner

abbrev pub escaped_step : ℕ → Inside
escaped_step b = if b == 0x0A then Broken else Plain

abbrev pub hash_step : ℕ → ℕ → Inside
hash_step quote b = if b == 0x7B then Inner else plain_step quote b

-- where the reading stands behind a byte
abbrev pub step : ℕ → Inside → ℕ → Inside
step quote Plain b = plain_step quote b
step quote Escaped b = escaped_step b
step quote Hash b = hash_step quote b
step quote Inner b = inner_step b
step quote (InnerText inner) b = inner_text_step inner b
step quote Ended b = Ended
step quote Broken b = Broken

abbrev pub is_ended : Inside → Bool
is_ended Ended = true
is_ended at = false

abbrev pub is_broken : Inside → Bool
is_broken Broken = true
is_broken at = false

-- how many bytes a text has in all that stands here behind n of its bytes; none where it has no
-- end
abbrev pub text_len : ℕ → Inside → ℕ → List ℕ → Option ℕ
text_len quote at n [] = None
text_len quote at n (b ∷ bytes) =
    if is_ended (step quote at b) then Some (n + 1)
    else if is_broken (step quote at b) then None
    else text_len quote (step quote at b) (n + 1) bytes
