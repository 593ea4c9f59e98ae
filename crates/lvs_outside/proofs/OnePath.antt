-- A step of one path's file, and a file that is written and not told.
use Rattle.std.proofs.Common.{◌≡◌, ◌≢◌, ◌+◌, ℕ, List, refl, sym, subst, ap, ◌∙◌, inl, inr, true, IsTrue}
use Rattle.lvs_outside.specs.Store.{Store, Told, Untold, NoFile, Holds, ChangesOne, IsWriting, Forward, appended, path_of}
use Rattle.lvs_outside.specs.LentFiles.{is_untold, is_access, access_at}
use Rattle.lvs_outside.specs.declared.lent.Access.{Access}
use Rattle.lvs_outside.specs.declared.lent.Access.TheVariants.{Closed, Reading, Writing}
use Rattle.lvs_outside.proofs.Told.{same_or_not}

-- one path goes by a step, and the others stay
pub goes_one : (old new : Store) (path : List ℕ) (step : Told → Told → Type 0) → step (old.file path) (new.file path) → ((p : List ℕ) → p ≢ path → new.file p ≡ old.file p) → ChangesOne old new path step
goes_one old new path step here others = record {
  each = λ p. elim (same_or_not p path) [ inl e ↦ inl (e, subst (λ q. step (old.file q) (new.file q)) (sym e) here) | inr ne ↦ inr (ne, others p ne) ];
}

untold_appended : (t : Told) (piece : List ℕ) → is_untold t ≡ true → t ≡ appended t piece
untold_appended Untold piece h = refl
untold_appended NoFile piece h = absurd (cc)
untold_appended (Holds bytes) piece h = absurd (cc)

-- a piece of a file that isn't told changes nothing that is told
pub writes_untold : (old new : Store) (access : Access) (path piece : List ℕ) (n : ℕ) → IsWriting (access_at access path n) → IsTrue (is_access (old.file path) access) → ((p : List ℕ) → new.file p ≡ old.file p) → ChangesOne old new (path_of (access_at access path n)) (λ t u. u ≡ appended t piece)
writes_untold old new Closed path piece n w h same = absurd w
writes_untold old new (Reading bytes at) path piece n w h same = absurd w
writes_untold old new Writing path piece n w h same = goes_one old new path (λ t u. u ≡ appended t piece) (same path ∙ untold_appended (old.file path) piece h) (λ p ne. same p)

pub writes_forward : (access : Access) (path : List ℕ) (m n k : ℕ) → IsWriting (access_at access path m) → k ≡ m + n → access_at access path k ≡ Forward (access_at access path m) n
writes_forward Closed path m n k w e = absurd w
writes_forward (Reading bytes at) path m n k w e = absurd w
writes_forward Writing path m n k w e = ap (λ j. access_at Writing path j) e
