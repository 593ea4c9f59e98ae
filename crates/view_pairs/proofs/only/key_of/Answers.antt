use Rattle.std.proofs.Common.{◌≡◌, ◌∙◌, ℕ, List, slice_get, sym, ap, subst, arith}
use Rattle.plain_netlist.specs.Lists.{AreApart}
use Rattle.text_table.specs.Texts.{with_text}
use Rattle.view_pairs.specs.Keys.{Extends}
use Rattle.view_pairs.proofs.Keying.{with_apart, with_at, with_extends}
use Rattle.view_pairs.proofs.only.key_of.Goals as goal

pub returns-clause-apart : goal.returns-clause-apart
returns-clause-apart c = subst AreApart (sym c.in_ok-place.ensures.texts) (with_apart c.args.table.now c.args.text.now c.requires)

pub returns-clause-grown : goal.returns-clause-grown
returns-clause-grown c = subst (Extends c.args.table.now) (sym c.in_ok-place.ensures.texts) (with_extends c.args.table.now c.args.text.now)

pub returns-clause-there : goal.returns-clause-there
returns-clause-there c =
    let is = c.in_ok-key.ensures.ok in
    let same : c.in_ok-key.key ≡ c.in_ok-place.place = omega (arith, is) in
    ap (λ (texts : List (List ℕ)). slice_get texts c.in_ok-key.key) c.in_ok-place.ensures.texts
    ∙ ap (λ (i : ℕ). slice_get (with_text c.args.table.now c.args.text.now) i) (same ∙ c.in_ok-place.ensures.number) ∙ with_at c.args.table.now c.args.text.now
