use Rattle.std.proofs.Common.{◌≡◌, ◌++◌, List, map, rules}
use Rattle.std.specs.Prelude.{codes}
use Rattle.std.specs.Global.{Vec}
use Rattle.std.proofs.lemmas.Result.{on_ok_weaker}
use Rattle.net_model.specs.Rows.{plain_circuit}
use Rattle.spice_text.specs.Written.{Adds, AreTexts}
use Rattle.view_cross.specs.declared.rows.Row.{Row}
use Rattle.view_page.specs.Counts.{compared_text}
use Rattle.view_page.specs.Made.{book_of}
use Rattle.view_page.specs.Page.{IsNumbered, IsPage}
use Rattle.view_page.proofs.Texts.{behind_two}
use Rattle.view_page.proofs.page.push_page.Goals as goal

pub returns : goal.returns
returns c =
    let b = c.args.b in
    let items : Vec Row → List Row = λ list. list.items in
    let pairs = AreTexts (IsNumbered (book_of b)) 0 (map items c.args.rows.now) in
    let head = codes "Partners are proposed; what is sure stands in the report.\n" in
    let counts = compared_text (map plain_circuit b.lefts.now) (map plain_circuit b.rights.now) in
    let first : c.extend_from_slice.new.self.items ≡ c.args.out.now.items ++ head = search rules in
    let second : c.push_compared.new.out.items ≡ c.extend_from_slice.new.self.items ++ counts = c.in_ok-push_compared.ensures in
    let on : Adds pairs c.push_compared.new.out.items c.push_pairs.new.out.items → Adds (IsPage (book_of b) (map items c.args.rows.now)) c.args.out.now.items c.push_pairs.new.out.items =
    λ h. behind_two pairs c.args.out.now.items head counts c.extend_from_slice.new.self.items c.push_compared.new.out.items c.push_pairs.new.out.items first second h in
    on_ok_weaker c.push_pairs.result on c.push_pairs.ensures
