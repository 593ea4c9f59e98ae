use Rattle.std.proofs.Common.{◌∙◌, ◌<◌, ℕ, List, Some, rules, ap, length, get_or}
use Rattle.net_names.specs.Escapes.{unescaped}
use Rattle.net_names.proofs.Spelling.{escaped_read, written_whole}
use Rattle.net_names.proofs.escapes.escape.Goals as goal

pub returns-clause-read_back : goal.returns-clause-read_back
returns-clause-read_back c =
    let small : (k : ℕ) → k < length c.bytes-b-items.result.now → get_or c.bytes-b-items.result.now k 0 < 256 = search rules in
    let whole = written_whole c.loop-b.text.items c.bytes-b-items.result.now c.loop-b.b-index c.loop-b-test.false c.loop-b.invariant in
    ap unescaped whole ∙ escaped_read c.bytes-b-items.result.now small ∙ ap (λ (n : List ℕ). Some n) c.bytes-b-items.ensures.same
