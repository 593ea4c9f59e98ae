use Rattle.std.proofs.Common.{◌≡◌, ◌++◌, ◌∷◌, [], ℕ, true, false, List, Option, Some, None, length, refl, sym, subst, ap, ◌∙◌, rules}
use Rattle.std.specs.Prelude.{slice_set, slice_get, slice_index_or, is_none}
use Rattle.std.proofs.lemmas.Option.{slice_get_read}
use Rattle.net_align.proofs.Partnered.{at_or}
use Rattle.net_align.specs.Sights.{IsNumbering}
use Rattle.net_align.proofs.Seeing.{seen_before, seen_first, numbered_more, some_of, none_of}
use Rattle.net_align.proofs.numbers.Numbers.see.Goals as goal

pub returns-in_ok-push-clause-list : goal.returns-in_ok-push-clause-list
returns-in_ok-push-clause-list c =
    let list = c.args.self.now.list.items in
    let places = c.args.self.now.places.items in
    let n = c.args.n in
    let free : is_none (slice_index_or places n None) ≡ true = search rules in
    c.in_ok-push.ensures.items ∙ sym (seen_first list (length places) places c.requires.places n (none_of (slice_index_or places n None) free))

pub returns-in_ok-push-clause-places : goal.returns-in_ok-push-clause-places
returns-in_ok-push-clause-places c =
    let list = c.args.self.now.list.items in
    let places = c.args.self.now.places.items in
    let n = c.args.n in
    let free : is_none (slice_index_or places n None) ≡ true = search rules in
    let count : c.len.result ≡ length list = search rules in
    let at : c.in_ok-place.place ≡ length list = c.in_ok-place.ensures.ok ∙ count in
    let more = numbered_more list (length places) places c.requires.places n c.requires.low (none_of (slice_index_or places n None) free) in
    subst (λ (t : List ℕ). IsNumbering t (length places) (slice_set places n (Some c.in_ok-place.place))) (sym c.in_ok-push.ensures.items)
    (subst (λ (k : ℕ). IsNumbering (list ++ n ∷ []) (length places) (slice_set places n (Some k))) (sym at) more)

pub returns-else-is_none-clause-list : goal.returns-else-is_none-clause-list
returns-else-is_none-clause-list c =
    let list = c.args.self.now.list.items in
    let places = c.args.self.now.places.items in
    let n = c.args.n in
    let at : slice_get places n ≡ Some c.index.result.now = slice_get_read places (length places) n c.index.result.now refl c.requires.low c.index.ensures in
    let same : slice_index_or places n None ≡ c.index.result.now = at_or places n c.index.result.now None at in
    let told : c.is_none.result ≡ is_none c.index.result.now = search rules in
    let taken : is_none (slice_index_or places n None) ≡ false = ap (λ (o : Option ℕ). is_none o) same ∙ (sym told ∙ c.if-is_none.false) in
    let k = some_of (slice_index_or places n None) taken in
    sym (seen_before list (length places) places c.requires.places n k.0 k.1)
