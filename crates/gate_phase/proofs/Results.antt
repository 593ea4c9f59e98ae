-- What holds of a result's value.
use Rattle.std.proofs.Common.{◌≡◌, Result, Ok, Err, OnOk, IfOk, if◌then◌else◌}
use Rattle.std.specs.Result.{is_ok}

pub on_ok : {T E : Type 0} (P Q : Type 0) (r : Result T E) → (P → Q) → OnOk r P → OnOk r Q
on_ok P Q (Ok x) f h = f h
on_ok P Q (Err e) f h = h

pub if_ok : {T E : Type 0} (P Q : T → Type 0) (r : Result T E) → ((x : T) → P x → Q x) → IfOk r P → IfOk r Q
if_ok P Q (Ok x) f h = f x h
if_ok P Q (Err e) f h = h

pub ok_is : {A T E : Type 0} (r : Result T E) (x a b : A) → x ≡ (if is_ok r then a else b) → OnOk r (x ≡ a)
ok_is (Ok y) x a b e = e
ok_is (Err f) x a b e = tt
