-- The state in lists moves as the machine does.
use Rattle.std.proofs.Common.{◌≡◌, ℕ, zero, suc, ◌+◌, ◌<◌, ◌≤◌, true, false, List, [], ◌∷◌, ◌++◌, length, get_or, set, take, replicate, Vec, Some, None, Global, refl, sym, ap, ◌∙◌, arith, get_or-set_same, get_or-set_other}
use Rattle.std.specs.Vec.{with_item}
use Rattle.std.proofs.lemmas.List.{map-set, get_or-map, get_or_default, map-append, take_more, set-get_or, length-replicate}
use Rattle.std.proofs.Math.Decide.{ℕ_discrete}
use mathlib.Core.Logic.{dite}
use Rattle.job_graph.specs.Graph.{lists, has}
use Rattle.job_graph.specs.Machine.{less, put}
use Rattle.job_graph.specs.declared.machine.Event.{Event}
use Rattle.job_graph.specs.declared.machine.Event.TheVariants.{Claim, Publish, Arrive}
use Rattle.job_graph.specs.declared.machine.JobState.{JobState}
use Rattle.job_graph.specs.Machine.{Machine, start, moved, next, run, machine_of, IsStateOf}
use Rattle.job_graph.proofs.Taken.{put_here, put_else}
use Rattle.job_graph.proofs.Events.{done_next, claim_done, publish_done, arrive_done, not_open}

pub many_lists : (vs : List (Vec ℕ Global)) → length (lists vs) ≡ length vs
many_lists [] = refl
many_lists (v ∷ vs) = ap suc (many_lists vs)

pub read : {A : Type 0} (xs : List A) (j : ℕ) (a d : A) → j < length xs → a ≡ get_or xs j a → get_or xs j d ≡ a
read xs j a d l e = get_or_default xs j d a l ∙ sym e

pub read_list : (vs : List (Vec ℕ Global)) (j : ℕ) (v : Vec ℕ Global) → j < length vs → v ≡ get_or vs j v → get_or (lists vs) j [] ≡ v.items
read_list vs j v l e = get_or-map (λ (x : Vec ℕ Global). x.items) vs j v [] l ∙ ap (λ (x : Vec ℕ Global). x.items) (sym e)

pub nothing : (xs : List ℕ) → length xs ≤ 0 → xs ≡ []
nothing [] h = refl
nothing (x ∷ xs) h = absurd (omega arith)

pub set_put : {A : Type 0} (xs : List A) (i : ℕ) (a d : A) → i < length xs → (j : ℕ) → get_or (set xs i a) j d ≡ put (λ k. get_or xs k d) i a j
set_put xs i a d l j = dite (ℕ_discrete j i)
    (λ e. ap (λ k. get_or (set xs i a) k d) e ∙ get_or-set_same xs i a d l ∙ sym (put_here (λ k. get_or xs k d) i a j e))
    (λ n. get_or-set_other xs i j a d n ∙ sym (put_else (λ k. get_or xs k d) i a j n))

pub run_more : (g : List (List ℕ)) (m : Machine) (es : List Event) (e : Event) → run g m (es ++ e ∷ []) ≡ next g (run g m es) e
run_more g m [] e = refl
run_more g m (x ∷ es) e = run_more g (next g m x) es e

pub more_reached : (g : List (List ℕ)) (s t : JobState) (e : Event) → (es : List Event) × (machine_of s ≡ run g (start g) es) → machine_of t ≡ next g (machine_of s) e → (es : List Event) × (machine_of t ≡ run g (start g) es)
more_reached g s t e r h = (r.0 ++ e ∷ [], h ∙ ap (λ m. next g m e) r.1 ∙ sym (run_more g (start g) r.0 e))

pub claim_next : (g : List (List ℕ)) (s : JobState) (w j : ℕ) → IsStateOf g s → j < length g → get_or (lists s.awaits.items) j [] ≡ [] → get_or s.claimed.items j None ≡ None
    → machine_of record { awaits = s.awaits; claimed = with_item s.claimed j (Some w); published = s.published } ≡ next g (machine_of s) (Claim w j)
claim_next g s w j v l a c = let m = machine_of s in let t = v.claimed in
    (λ k. let n : Machine = record { awaits = m.awaits; claimed = λ i. set_put s.claimed.items j (Some w) None (omega arith) i k; published = m.published } in n) ∙ sym (done_next g m (Claim w j) (claim_done g m w j l a c))

pub publish_next : (g : List (List ℕ)) (s : JobState) (w j : ℕ) → IsStateOf g s → j < length g → get_or s.claimed.items j None ≡ Some w → get_or s.published.items j false ≡ false
    → machine_of record { awaits = s.awaits; claimed = s.claimed; published = with_item s.published j true } ≡ next g (machine_of s) (Publish w j)
publish_next g s w j v l c p = let m = machine_of s in let t = v.published in
    (λ k. let n : Machine = record { awaits = m.awaits; claimed = m.claimed; published = λ i. set_put s.published.items j true false (omega arith) i k } in n) ∙ sym (done_next g m (Publish w j) (publish_done g m w j c p))

pub arrive_next : (g : List (List ℕ)) (s : JobState) (i j : ℕ) (new : Vec ℕ Global) → IsStateOf g s → j < length g → get_or s.published.items i false ≡ true → has i (get_or (lists s.awaits.items) j []) ≡ true
    → new.items ≡ less i (get_or (lists s.awaits.items) j [])
    → machine_of record { awaits = with_item s.awaits j new; claimed = s.claimed; published = s.published } ≡ next g (machine_of s) (Arrive i j)
arrive_next g s i j new v l p h e = let m = machine_of s in let t = v.awaits in let len : length (lists s.awaits.items) ≡ length s.awaits.items = many_lists s.awaits.items in
    (λ k. let n : Machine = record { awaits = λ q. (ap (λ ls. get_or ls q []) (map-set (λ (x : Vec ℕ Global). x.items) s.awaits.items j new) ∙ set_put (lists s.awaits.items) j new.items [] (omega arith) q ∙ ap (λ x. put m.awaits j x q) e) k; claimed = m.claimed; published = m.published } in n)
    ∙ sym (done_next g m (Arrive i j) (arrive_done g m i j p h))

pub many_more : (g : List (List ℕ)) (s t : JobState) (e : Event) → IsStateOf g s → length t.awaits.items ≡ length s.awaits.items → length t.claimed.items ≡ length s.claimed.items → length t.published.items ≡ length s.published.items
    → machine_of t ≡ next g (machine_of s) e → IsStateOf g t
many_more g s t e v a b c n = record { awaits = a ∙ v.awaits; claimed = b ∙ v.claimed; published = c ∙ v.published; reached = more_reached g s t e v.reached n }

pub lists_more : (us xs : List (Vec ℕ Global)) (i : ℕ) (x y : Vec ℕ Global) → i < length xs → lists us ≡ lists (take i xs) → x ≡ get_or xs i x → y.items ≡ x.items → lists (us ++ y ∷ []) ≡ lists (take (i + 1) xs)
lists_more us xs i x y l e r c = map-append (λ (v : Vec ℕ Global). v.items) us (y ∷ []) ∙ ap (λ zs. zs ++ y.items ∷ []) e ∙ ap (λ z. lists (take i xs) ++ z ∷ []) (c ∙ ap (λ (v : Vec ℕ Global). v.items) r)
    ∙ sym (map-append (λ (v : Vec ℕ Global). v.items) (take i xs) (get_or xs i x ∷ [])) ∙ ap lists (sym (take_more xs i x l))

pub same_list : (xs : List ℕ) (n : ℕ) → length xs ≡ n → xs ≡ xs
same_list xs n e = refl

-- an arrival that finds no open edge changes nothing
pub unmoved : (g : List (List ℕ)) (s : JobState) (i j : ℕ) (new : Vec ℕ Global) → j < length s.awaits.items → has i (get_or (lists s.awaits.items) j []) ≡ false → new.items ≡ get_or (lists s.awaits.items) j []
    → machine_of record { awaits = with_item s.awaits j new; claimed = s.claimed; published = s.published } ≡ next g (machine_of s) (Arrive i j)
unmoved g s i j new l h e = let m = machine_of s in
    let same : lists (set s.awaits.items j new) ≡ lists s.awaits.items = map-set (λ (x : Vec ℕ Global). x.items) s.awaits.items j new ∙ ap (set (lists s.awaits.items) j) e ∙ set-get_or (lists s.awaits.items) j [] in
    (λ k. let n : Machine = record { awaits = λ q. get_or (same k) q []; claimed = m.claimed; published = m.published } in n) ∙ ap (λ a. moved a m (Arrive i j)) (sym (not_open g m i j h))

empty_list : {A : Type 0} (n : ℕ) (a : A) (j : ℕ) → get_or (replicate n a) j a ≡ a
empty_list zero a j = refl
empty_list (suc n) a zero = refl
empty_list (suc n) a (suc j) = empty_list n a j

-- the state before any event
pub begins : (g : List (List ℕ)) (s : JobState) (n : ℕ) → lists s.awaits.items ≡ g → s.claimed.items ≡ replicate n None → s.published.items ≡ replicate n false → n ≡ length g → IsStateOf g s × (machine_of s ≡ start g)
begins g s n a c p e =
    let same : machine_of s ≡ start g = λ k. let m : Machine = record { awaits = λ j. get_or (a k) j []; claimed = λ j. (ap (λ l. get_or l j None) c ∙ empty_list n None j) k; published = λ j. (ap (λ l. get_or l j false) p ∙ empty_list n false j) k } in m in
    (record { awaits = sym (many_lists s.awaits.items) ∙ ap length a; claimed = ap length c ∙ length-replicate n None ∙ e; published = ap length p ∙ length-replicate n false ∙ e; reached = ([], same) }, same)
