use Rattle.std.proofs.Common.{List, ℕ, ap, ◌∙◌, take}
use Rattle.std.specs.List.{list_all}
use Rattle.std.specs.Char.{is_ascii_digit}
use Rattle.fixed_num.proofs.Digits.{front_digits}
use Rattle.fixed_num.proofs.scan.split_digits.Goals as goal

pub returns-clause-all : goal.returns-clause-all
returns-clause-all c =
    let text = c.args.text.now in
    ap (λ (ds : List ℕ). list_all is_ascii_digit ds) (c.split_at.ensures.front ∙ ap (λ (n : ℕ). take n text) c.digit_count.ensures.count) ∙ front_digits text
