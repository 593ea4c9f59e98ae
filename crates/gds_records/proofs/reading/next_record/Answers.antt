use Rattle.std.proofs.Common.{◌≡◌, ◌≤◌, length, ℕ, ◌+◌, ◌-◌, ◌*◌, List, take, drop, slice_index_or, arith, refl, subst, sym, ◌∙◌}
use Rattle.std.proofs.lemmas.List.{take_all, length-drop}
use Rattle.gds_records.proofs.Frame.{found}
use Rattle.gds_records.proofs.reading.next_record.Goals as goal

pub returns : goal.returns
returns c =
    let bytes = c.args.bytes.now in
    let place = c.args.place in
    let rest = drop place bytes in
    let e : take (length bytes - place) rest ≡ rest = take_all _ _ (omega (arith, length-drop place bytes)) in
    let kind : slice_index_or (take (length bytes - place) rest) 2 0 ≡ slice_index_or rest 2 0 = rw e refl in
    let form : slice_index_or (take (length bytes - place) rest) 3 0 ≡ slice_index_or rest 3 0 = rw e refl in
    let len : c.from-len.result ≡ slice_index_or rest 0 0 * 256 + slice_index_or rest 1 0 = let read = rw e at c.read_u16.ensures in omega (arith, c.from-len.ensures, read) in
    found bytes place c.from-len.result _ _ c.requires (λ i. omega (arith, c.type_inv.bytes i)) record {
      head = rw e at c.if-rest-lt4.false;
      low = c.if-len-lt4.false;
      even = c.if-len-ne0.false;
      whole = subst (λ (xs : List ℕ). c.from-len.result ≤ length xs) e c.if-rest-len.false;
      len = len;
      kind_is = kind;
      form_is = form;
      listed = sym c.is_known.ensures ∙ c.if-not-is_known.false;
    }
