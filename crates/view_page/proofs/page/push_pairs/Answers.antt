use Rattle.std.proofs.Common.{◌∙◌, ◌∷◌, ◌-◌, List, sym, ap, subst, length, map, take, drop, arith}
use Rattle.spice_text.specs.Written.{Adds, AreTexts}
use Rattle.std.specs.Global.{Vec}
use Rattle.view_cross.specs.declared.rows.Row.{Row}
use Rattle.view_page.specs.Made.{book_of}
use Rattle.view_page.specs.Page.{IsNumbered}
use Rattle.view_page.proofs.Texts.{first_and_rest, none_added, one_added}
use Rattle.view_page.proofs.page.push_pairs.Goals as goal

pub pairs-preserved : goal.pairs-preserved
pairs-preserved c =
    let rest = c.pairs.rest.now in
    let first = c.list-item.result in
    let more = take (length rest - 1) (drop 1 rest) in
    let P = IsNumbered (book_of c.args.b) in
    let items : Vec Row → List Row = λ list. list.items in
    let k = c.pairs.k in
    let long = c.pairs.invariant.1 in
    let some = c.in-len1-up.len_at_least in (
      one_added items P (AreTexts P 0 (map items c.args.rows.now)) k rest first more c.args.out.now.items c.pairs.out.items c.push_numbered.new.out.items
          (first_and_rest rest first some ∙ ap (λ (v : Vec Row). v ∷ more) (sym c.list-item.is)) (subst (λ (rs : List Row). Adds (P k rs) c.pairs.out.items c.push_numbered.new.out.items) c.deref.ensures.value c.in_ok-push_numbered.ensures) c.pairs.invariant.0,
      omega arith,
    )

pub returns : goal.returns
returns c =
    let P = IsNumbered (book_of c.args.b) in
    let items : Vec Row → List Row = λ list. list.items in
    none_added items P (AreTexts P 0 (map items c.args.rows.now)) c.pairs.k c.pairs.rest.now c.args.out.now.items c.pairs.out.items c.in_default.len_below c.pairs.invariant.0
