-- What holds of a result's value.
use Rattle.std.proofs.Common.{Result, Ok, Err, OnOk, IfOk}

pub on_ok : {T E : Type 0} (P Q : Type 0) (r : Result T E) → (P → Q) → OnOk r P → OnOk r Q
on_ok P Q (Ok x) f h = f h
on_ok P Q (Err e) f h = h

pub if_ok : {T E : Type 0} (P Q : T → Type 0) (r : Result T E) → ((x : T) → P x → Q x) → IfOk r P → IfOk r Q
if_ok P Q (Ok x) f h = f x h
if_ok P Q (Err e) f h = h

pub if_ok_three : {T E : Type 0} (P Q R S : T → Type 0) (r : Result T E) → ((x : T) → P x → Q x → R x → S x) → IfOk r P → IfOk r Q → IfOk r R → IfOk r S
if_ok_three P Q R S (Ok x) f h i j = f x h i j
if_ok_three P Q R S (Err e) f h i j = h
