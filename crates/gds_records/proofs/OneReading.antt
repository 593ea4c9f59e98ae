-- Bytes begin with one record list, up to its length.
use Rattle.std.proofs.Common.{◌≡◌, ◌⊎◌, inl, inr, ℕ, ◌+◌, List, [], ◌∷◌, ◌++◌, length, take, drop, refl, sym, ap, ◌∙◌, append_assoc, arith}
use Rattle.std.specs.Int.{w16, from_be_bytes}
use Rattle.std.proofs.lemmas.List.{take_at, drop_at, append-nil}
use Rattle.std.proofs.lemmas.Nat.{from_be_bytes-to_be_bytes_2}
use Rattle.gds_records.specs.Records.{Rec, IsRecord, record_bytes, Records, NoRecords, ◌▸◌, bytes_of, AreRecords, followed_by_all, OneReadingLaw}

-- a record's bytes are no other's, whatever follows
head_parts : (a b k f a' b' k' f' : ℕ) (xs ys : List ℕ) → a ∷ b ∷ k ∷ f ∷ xs ≡ a' ∷ b' ∷ k' ∷ f' ∷ ys → (a ∷ b ∷ [] ≡ a' ∷ b' ∷ []) × (k ≡ k') × (f ≡ f') × (xs ≡ ys)
head_parts a b k f a' b' k' f' xs ys e = (let x : a ≡ a' = cc in let y : b ≡ b' = cc in cc, cc, cc, cc)

pub first_same : (x y : Rec) (us vs : List ℕ) → IsRecord x → IsRecord y → record_bytes x ++ us ≡ record_bytes y ++ vs → (x ≡ y) × (us ≡ vs)
first_same x y us vs p q e =
    let h = head_parts _ _ _ _ _ _ _ _ (x.body ++ us) (y.body ++ vs) e in
    let len : length x.body + 4 ≡ length y.body + 4 =
    sym (from_be_bytes-to_be_bytes_2 (length x.body + 4) p.short) ∙ ap (λ (ws : List ℕ). from_be_bytes w16 ws) h.0 ∙ from_be_bytes-to_be_bytes_2 (length y.body + 4) q.short in
    let same : length x.body ≡ length y.body = omega (arith, len) in
    let body : x.body ≡ y.body =
    sym (take_at x.body us (length y.body) same) ∙ ap (λ (ws : List ℕ). take (length y.body) ws) h.3 ∙ take_at y.body vs (length y.body) refl in
    let rest : us ≡ vs =
    sym (drop_at x.body us (length y.body) same) ∙ ap (λ (ws : List ℕ). drop (length y.body) ws) h.3 ∙ drop_at y.body vs (length y.body) refl in (
      ap (λ (k : ℕ). let r : Rec = record { kind = k; form = x.form; body = x.body } in r) h.1
          ∙ ap (λ (f : ℕ). let r : Rec = record { kind = y.kind; form = f; body = x.body } in r) h.2
          ∙ ap (λ (ws : List ℕ). let r : Rec = record { kind = y.kind; form = y.form; body = ws } in r) body,
      rest,
    )

abbrev pub texts : List Rec → List ℕ
texts [] = []
texts (x ∷ xs) = record_bytes x ++ texts xs

abbrev pub EachRecord : List Rec → Type 0
EachRecord [] = Unit {0}
EachRecord (x ∷ xs) = IsRecord x × EachRecord xs

followed_by_all-append : (rs : Records) (xs ys : List Rec) → followed_by_all rs (xs ++ ys) ≡ followed_by_all (followed_by_all rs xs) ys
followed_by_all-append rs [] ys = refl
followed_by_all-append rs (x ∷ xs) ys = followed_by_all-append (rs ▸ x) xs ys

texts-append : (xs ys : List Rec) → texts (xs ++ ys) ≡ texts xs ++ texts ys
texts-append [] ys = refl
texts-append (x ∷ xs) ys = ap (λ (ws : List ℕ). record_bytes x ++ ws) (texts-append xs ys) ∙ sym (append_assoc (record_bytes x) (texts xs) (texts ys))

EachRecord-append : (xs ys : List Rec) → EachRecord xs → EachRecord ys → EachRecord (xs ++ ys)
EachRecord-append [] ys h g = g
EachRecord-append (x ∷ xs) ys h g = (h.0, EachRecord-append xs ys h.1 g)

-- the same records, from the first on
pub record Listed (rs : Records) : Type 0 where
  pub items : List Rec
  pub same : rs ≡ followed_by_all NoRecords items
  pub bytes : bytes_of rs ≡ texts items
  pub each : EachRecord items

listed : (rs : Records) → AreRecords rs → Listed rs
listed NoRecords h = record { items = []; same = refl; bytes = refl; each = tt }
listed (before ▸ r) h =
    let l = listed before h.0 in
    record {
      items = l.items ++ r ∷ [];
      same = ap (λ (rs : Records). rs ▸ r) l.same ∙ sym (followed_by_all-append NoRecords l.items (r ∷ []));
      bytes = ap (λ (ws : List ℕ). ws ++ record_bytes r) l.bytes ∙ ap (λ (ws : List ℕ). texts l.items ++ ws) (sym (append-nil (record_bytes r))) ∙ sym (texts-append l.items (r ∷ []));
      each = EachRecord-append l.items (r ∷ []) l.each (h.1, tt);
    }

-- of two lists that the same bytes begin with, one begins the other
abbrev pub Begins : List Rec → List Rec → List ℕ → List ℕ → Type 0
Begins xs ys us vs = (more : List Rec) × (ys ≡ xs ++ more) × (us ≡ texts more ++ vs) × EachRecord more

one_begins : (xs ys : List Rec) (us vs : List ℕ) → EachRecord xs → EachRecord ys → texts xs ++ us ≡ texts ys ++ vs → Begins xs ys us vs ⊎ Begins ys xs vs us
one_begins [] ys us vs p q e = inl (ys, refl, e, q)
one_begins (x ∷ xs) [] us vs p q e = inr (x ∷ xs, refl, sym e, p)
one_begins (x ∷ xs) (y ∷ ys) us vs p q e =
    let f : record_bytes x ++ (texts xs ++ us) ≡ record_bytes y ++ (texts ys ++ vs) = sym (append_assoc (record_bytes x) (texts xs) us) ∙ e ∙ append_assoc (record_bytes y) (texts ys) vs in
    let s = first_same x y (texts xs ++ us) (texts ys ++ vs) p.0 q.0 f in
    elim (one_begins xs ys us vs p.1 q.1 s.1) [
      | inl h ↦ inl (h.0, ap (λ (z : Rec). z ∷ ys) (sym s.0) ∙ ap (λ (zs : List Rec). x ∷ zs) h.1, h.2, h.3)
      | inr h ↦ inr (h.0, ap (λ (z : Rec). z ∷ xs) s.0 ∙ ap (λ (zs : List Rec). y ∷ zs) h.1, h.2, h.3)
    ]

-- two record lists that the bytes begin with: the same, or one goes on by a record of the rest
pub data Compared (rs : Records) (us : List ℕ) (ss : Records) (vs : List ℕ) : Type 0 where
  Same : rs ≡ ss → us ≡ vs → Compared rs us ss vs
  Before : (x : Rec) (xs : List Rec) → ss ≡ followed_by_all (rs ▸ x) xs → us ≡ record_bytes x ++ (texts xs ++ vs) → IsRecord x → Compared rs us ss vs
  After : (x : Rec) (xs : List Rec) → rs ≡ followed_by_all (ss ▸ x) xs → vs ≡ record_bytes x ++ (texts xs ++ us) → IsRecord x → Compared rs us ss vs

longer : (rs ss : Records) (more : List Rec) (l : Listed rs) (k : Listed ss) → k.items ≡ l.items ++ more → ss ≡ followed_by_all rs more
longer rs ss more l k e =
    k.same ∙ ap (λ (zs : List Rec). followed_by_all NoRecords zs) e ∙ followed_by_all-append NoRecords l.items more ∙ ap (λ (r : Records). followed_by_all r more) (sym l.same)

pub compared : (rs ss : Records) (us vs : List ℕ) → AreRecords rs → AreRecords ss → bytes_of rs ++ us ≡ bytes_of ss ++ vs → Compared rs us ss vs
compared rs ss us vs p q e =
    let l = listed rs p in
    let k = listed ss q in
    let f : texts l.items ++ us ≡ texts k.items ++ vs = ap (λ (ws : List ℕ). ws ++ us) (sym l.bytes) ∙ e ∙ ap (λ (ws : List ℕ). ws ++ vs) k.bytes in
    elim (one_begins l.items k.items us vs l.each k.each f) [
      | inl h ↦ on rs ss us vs h.0 (longer rs ss h.0 l k h.1) h.2 h.3
      | inr h ↦ back rs ss us vs h.0 (longer ss rs h.0 k l h.1) h.2 h.3
    ]
  where
    on : (rs ss : Records) (us vs : List ℕ) (more : List Rec) → ss ≡ followed_by_all rs more → us ≡ texts more ++ vs → EachRecord more → Compared rs us ss vs
    on rs ss us vs [] e f h = Same (sym e) f
    on rs ss us vs (x ∷ xs) e f h = Before x xs e (f ∙ append_assoc (record_bytes x) (texts xs) vs) h.0

    back : (rs ss : Records) (us vs : List ℕ) (more : List Rec) → rs ≡ followed_by_all ss more → vs ≡ texts more ++ us → EachRecord more → Compared rs us ss vs
    back rs ss us vs [] e f h = Same e (sym f)
    back rs ss us vs (x ∷ xs) e f h = After x xs e (f ∙ append_assoc (record_bytes x) (texts xs) us) h.0

pub one_reading : OneReadingLaw
one_reading bytes rs ss p q =
    elim (compared rs ss p.rest q.rest p.each q.each (sym p.whole ∙ q.whole)) [
      | Same e f ↦ inl ([], sym e)
      | Before x xs e f g ↦ inl (x ∷ xs, e)
      | After x xs e f g ↦ inr (x ∷ xs, e)
    ]
