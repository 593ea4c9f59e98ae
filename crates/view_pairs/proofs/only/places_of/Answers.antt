use Rattle.std.proofs.Common.{◌<◌, length, None, get_or, arith}
use Rattle.std.proofs.lemmas.Option.{slice_get-get_or}
use Rattle.view_pairs.proofs.Keying.{found_all, found_on}
use Rattle.view_pairs.proofs.only.places_of.Goals as goal

pub keys-preserved : goal.keys-preserved
keys-preserved c =
    let keys = c.args.keys.now in
    let m = c.keys.m in
    let count = c.in_ok-end.ensures.ok in
    let test = c.keys-test.true in
    let lt : m < length keys = omega arith in
    found_on keys c.args.count m (get_or keys m None) c.keys.places.items c.put_place.new.places.items c.keys.invariant (slice_get-get_or keys m None lt) c.put_place.ensures

pub returns-clause-found : goal.returns-clause-found
returns-clause-found c =
    let count = c.in_ok-end.ensures.ok in
    let test = c.keys-test.false in
    let end = c.keys.auto.m-end in
    found_all c.args.keys.now c.args.count c.keys.m c.keys.places.items c.keys.invariant (omega arith)
