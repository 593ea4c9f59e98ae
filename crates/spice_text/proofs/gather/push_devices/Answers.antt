use Rattle.std.proofs.Common.{◌≡◌, ◌++◌, ◌∷◌, [], ◌+◌, ◌∙◌, ap, sym, List, ℕ, replicate, append_assoc, arith}
use Rattle.std.proofs.lemmas.List.{replicate_more}
use Rattle.spice_rows.specs.Rows.{DeviceCard}
use Rattle.spice_text.proofs.gather.push_devices.Goals as goal

pub returns : goal.returns
returns c =
    let out = c.args.out.now.items in
    let d = c.args.device in
    let some = c.if-copies-eq0.false in
    let over = c.copies-test.false in
    let within = c.copies.auto._copy-end in
    let all : c.copies._copy + 1 ≡ c.args.copies = omega (arith, some, over, within) in
    c.in_ok-push-2.ensures.items
    ∙ ap (λ (xs : List DeviceCard). xs ++ d ∷ []) c.copies.invariant
    ∙ append_assoc out (replicate c.copies._copy d) (d ∷ [])
    ∙ ap (λ (xs : List DeviceCard). out ++ xs) (replicate_more c.copies._copy d)
    ∙ ap (λ (n : ℕ). out ++ replicate n d) all
