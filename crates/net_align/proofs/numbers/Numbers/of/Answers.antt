use Rattle.std.proofs.Common.{◌<◌, [], ℕ, List, take, length, sym, subst, ap, ◌∙◌, rules}
use Rattle.std.specs.Prelude.{slice_index_or}
use Rattle.std.proofs.lemmas.List.{take_more}
use Rattle.net_align.specs.Sights.{with_first, firsts, IsNumbering}
use Rattle.net_align.proofs.Seeing.{firsts_more}
use Rattle.net_align.proofs.numbers.Numbers.of.Goals as goal

pub loop-n-preserved : goal.loop-n-preserved
loop-n-preserved c =
    let sights = c.args.sights.now in
    let i = c.loop-n.n-index in
    let n = slice_index_or sights i 0 in
    let below : i < length sights = search rules in
    let new = c.see.new.self in (
      c.in_ok-see.ensures.list
          ∙ (ap (λ (t : List ℕ). with_first t n) c.loop-n.invariant.0
          ∙ (sym (firsts_more (take i sights) [] n)
          ∙ ap firsts (sym (take_more sights i 0 below)))),
      subst (λ (m : ℕ). IsNumbering new.list.items m new.places.items) c.loop-n.invariant.1.long c.in_ok-see.ensures.places,
    )
