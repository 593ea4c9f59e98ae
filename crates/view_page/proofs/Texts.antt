-- Texts one behind another.
use Rattle.std.proofs.Common.{◌≡◌, ◌∙◌, ℕ, zero, suc, ◌+◌, ◌-◌, ◌<◌, ◌≤◌, List, [], ◌∷◌, ◌++◌, length, map, take, drop, get_or, refl, sym, ap, subst, arith, append_assoc, append-nil}
use Rattle.spice_text.specs.Written.{Adds, AreOneByOne, AreTexts}

pub three_pieces : (out a b c x y z : List ℕ) → x ≡ out ++ a → y ≡ x ++ b → z ≡ y ++ c → z ≡ out ++ (a ++ (b ++ c))
three_pieces out a b c x y z e f g =
    g ∙ ap (λ (v : List ℕ). v ++ c) (f ∙ ap (λ (v : List ℕ). v ++ b) e) ∙ append_assoc (out ++ a) b c ∙ append_assoc out a (b ++ c)

pub four_pieces : (out a b c d x y z w : List ℕ) → x ≡ out ++ a → y ≡ x ++ b → z ≡ y ++ c → w ≡ z ++ d → w ≡ out ++ (a ++ (b ++ (c ++ d)))
four_pieces out a b c d x y z w e f g h =
    h ∙ ap (λ (v : List ℕ). v ++ d) (three_pieces out a b c x y z e f g) ∙ append_assoc out (a ++ (b ++ c)) d
    ∙ ap (λ (v : List ℕ). out ++ v) (append_assoc a (b ++ c) d ∙ ap (λ (v : List ℕ). a ++ v) (append_assoc b c d))

-- a text behind two pieces
pub behind_two : (P : List ℕ → Type 0) (out a b x y z : List ℕ) → x ≡ out ++ a → y ≡ x ++ b → Adds P y z → Adds (λ text. (rest : List ℕ) × P rest × (text ≡ a ++ (b ++ rest))) out z
behind_two P out a b x y z e f g = (a ++ (b ++ g.0), three_pieces out a b g.0 x y z e f g.1, (g.0, g.2, refl))

take_all : {A : Type 0} (n : ℕ) (ys : List A) → n ≡ length ys → take n ys ≡ ys
take_all zero [] h = refl
take_all (suc n) [] h = absurd (omega arith)
take_all zero (y ∷ ys) h = absurd (omega arith)
take_all {A = A} (suc n) (y ∷ ys) h = ap (λ (zs : List A). y ∷ zs) (take_all n ys (omega arith))

pub first_and_rest : {A : Type 0} (xs : List A) (d : A) → 1 ≤ length xs → xs ≡ get_or xs 0 d ∷ take (length xs - 1) (drop 1 xs)
first_and_rest [] d h = absurd (omega arith)
first_and_rest {A = A} (y ∷ ys) d h = ap (λ (zs : List A). y ∷ zs) (sym (take_all (length (y ∷ ys) - 1) ys (omega arith)))

-- one more item is written
pub one_more : {A : Type 0} (P : A → List ℕ → Type 0) (all rest : List A) (x : A) (more : List A) (out text : List ℕ) → rest ≡ x ∷ more → P x text
    → ((b : List ℕ) → AreOneByOne P rest b → AreOneByOne P all (out ++ b)) → (b : List ℕ) → AreOneByOne P more b → AreOneByOne P all ((out ++ text) ++ b)
one_more {A = A} P all rest x more out text e p h b r =
    let here : AreOneByOne P (x ∷ more) (text ++ b) = (text, p, b, r, refl) in
    subst (AreOneByOne P all) (sym (append_assoc out text b)) (h (text ++ b) (subst (λ (xs : List A). AreOneByOne P xs (text ++ b)) (sym e) here))

none_left : {A : Type 0} (P : A → List ℕ → Type 0) (rest : List A) → length rest < 1 → AreOneByOne P rest []
none_left P [] h = refl
none_left P (x ∷ xs) h = absurd (omega arith)

-- all are written
pub no_more : {A : Type 0} (P : A → List ℕ → Type 0) (all rest : List A) (out : List ℕ) → length rest < 1
    → ((b : List ℕ) → AreOneByOne P rest b → AreOneByOne P all (out ++ b)) → AreOneByOne P all out
no_more P all rest out lt h = subst (AreOneByOne P all) (append-nil out) (h [] (none_left P rest lt))

-- the same of items that are numbered, behind what was written before
pub one_added : {A B : Type 0} (f : A → B) (P : ℕ → B → List ℕ → Type 0) (Whole : List ℕ → Type 0) (k : ℕ) (rest : List A) (x : A) (more : List A) (before out after : List ℕ) → rest ≡ x ∷ more
    → Adds (P k (f x)) out after → ((b : List ℕ) → AreTexts P k (map f rest) b → Adds Whole before (out ++ b))
    → (b : List ℕ) → AreTexts P (k + 1) (map f more) b → Adds Whole before (after ++ b)
one_added {A = A} f P Whole k rest x more before out after s a h b r =
    let e : after ++ b ≡ out ++ (a.0 ++ b) = ap (λ (xs : List ℕ). xs ++ b) a.1 ∙ append_assoc out a.0 b in
    let here : AreTexts P k (map f (x ∷ more)) (a.0 ++ b) = (a.0, a.2, b, r, refl) in
    subst (Adds Whole before) (sym e) (h (a.0 ++ b) (subst (λ (xs : List A). AreTexts P k (map f xs) (a.0 ++ b)) (sym s) here))

none_numbered : {A B : Type 0} (f : A → B) (P : ℕ → B → List ℕ → Type 0) (k : ℕ) (rest : List A) → length rest < 1 → AreTexts P k (map f rest) []
none_numbered f P k [] h = refl
none_numbered f P k (x ∷ xs) h = absurd (omega arith)

pub none_added : {A B : Type 0} (f : A → B) (P : ℕ → B → List ℕ → Type 0) (Whole : List ℕ → Type 0) (k : ℕ) (rest : List A) (before out : List ℕ) → length rest < 1
    → ((b : List ℕ) → AreTexts P k (map f rest) b → Adds Whole before (out ++ b)) → Adds Whole before out
none_added f P Whole k rest before out lt h = subst (Adds Whole before) (append-nil out) (h [] (none_numbered f P k rest lt))

-- nothing is written
pub nothing_added : (P : List ℕ → Type 0) (out : List ℕ) → P [] → Adds P out out
nothing_added P out p = ([], sym (append-nil out), p)
