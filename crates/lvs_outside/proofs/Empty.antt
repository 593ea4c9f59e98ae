-- A take of nothing changes no file and no summary.
use Rattle.std.proofs.Common.{◌≡◌, ◌+◌, [], refl, rules, arith, ap}
use Rattle.lvs_outside.specs.Store.{Forward, Told, Untold, NoFile, Holds, appended, Open, Closed, Reading, Writing}

pub appended-nothing : (t : Told) → appended t [] ≡ t
appended-nothing Untold = refl
appended-nothing NoFile = refl
appended-nothing (Holds bytes) = search rules

pub forward_none : (o : Open) → Forward o 0 ≡ o
forward_none Closed = refl
forward_none (Reading p t) = let e : t + 0 ≡ t = omega arith in ap (Reading p) e
forward_none (Writing p t) = let e : t + 0 ≡ t = omega arith in ap (Writing p) e
