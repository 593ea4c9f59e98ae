use Rattle.std.proofs.Common.{◌∙◌, sym}
use Rattle.std.specs.Str.{bytes_eq}
use Rattle.text_table.proofs.TableLemmas.{place_last, place_before, added, there}
use Rattle.text_table.proofs.table.TextTable.number.Goals as goal

pub add-requires : goal.add-requires
add-requires c =
    place_last c.args.self.now (bytes_eq c.args.text.now) (sym c.place-place.ensures.place ∙ c.if-place-len.true ∙ c.len.ensures)

pub returns-in_ok-add-clause-texts : goal.returns-in_ok-add-clause-texts
returns-in_ok-add-clause-texts c =
    c.in_ok-add.ensures
    ∙ added c.args.self.now c.args.text.now
    (place_last c.args.self.now (bytes_eq c.args.text.now) (sym c.place-place.ensures.place ∙ c.if-place-len.true ∙ c.len.ensures))

pub returns-else-place-len-clause-texts : goal.returns-else-place-len-clause-texts
returns-else-place-len-clause-texts c =
    there c.args.self.now c.args.text.now
    (place_before c.args.self.now (bytes_eq c.args.text.now) (λ same. c.if-place-len.false (c.place-place.ensures.place ∙ same ∙ sym c.len.ensures)))
