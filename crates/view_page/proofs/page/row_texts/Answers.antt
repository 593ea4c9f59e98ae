use Rattle.std.proofs.Common.{◌≡◌, ◌++◌, ◌-◌, ℕ, List, None, length, take, drop, get_or, sym, subst, rules}
use Rattle.spice_text.specs.Written.{AreOneByOne}
use Rattle.view_cross.specs.declared.rows.Kind.TheVariants.{Net}
use Rattle.view_cross.specs.declared.rows.Mark.TheVariants.{Matched}
use Rattle.view_cross.specs.declared.rows.Row.{Row}
use Rattle.view_page.specs.Page.{IsRowText}
use Rattle.view_page.specs.Told.{told_by}
use Rattle.view_page.proofs.Texts.{first_and_rest, no_more, one_more}
use Rattle.view_page.proofs.page.row_texts.Goals as goal

pub rows-preserved : goal.rows-preserved
rows-preserved c =
    let rest = c.rows.rest.now in
    let none : Row = record { kind = Net; left = None; right = None; mark = Matched } in
    let more = take (length rest - 1) (drop 1 rest) in
    let first = get_or rest 0 none in
    let P = IsRowText (told_by c.args.q) in
    let text = c.in_ok-text.text.items in
    let out : c.extend_from_slice.new.self.items ≡ c.rows.out.items ++ text = search rules in
    λ b r. subst (λ (xs : List ℕ). AreOneByOne P c.args.rows.now (xs ++ b)) (sym out)
    (one_more P c.args.rows.now rest first more c.rows.out.items text (first_and_rest rest none c.in-len1-up.len_at_least) c.in_ok-text.ensures c.rows.invariant b r)

pub returns : goal.returns
returns c = no_more (IsRowText (told_by c.args.q)) c.args.rows.now c.rows.rest.now c.rows.out.items c.in_default.len_below c.rows.invariant
